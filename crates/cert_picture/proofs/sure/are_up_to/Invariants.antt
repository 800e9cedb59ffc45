use Rattle.std.proofs.Common.{◌≡◌, ◌≢◌, ◌<◌, ◌≤◌, ℕ, true}
use Rattle.std.specs.Prelude.{unsigned_abs}
use Rattle.mv_terms.specs.Block.{item}
use Rattle.cert_picture.proofs.sure.are_up_to.Given as goal

abbrev pub invariant-loop-k : goal.invariant-loop-k
invariant-loop-k l = (j : ℕ) → j < l.k → (l.intra ≡ true → j ≢ 0) → unsigned_abs (item l.levels j) ≤ l.greatest
