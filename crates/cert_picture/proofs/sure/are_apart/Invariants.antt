use Rattle.std.proofs.Common.{◌≡◌, ◌≢◌, ◌<◌, ℕ, true}
use Rattle.cert_picture.specs.Steps.{IsApart}
use Rattle.cert_picture.proofs.sure.are_apart.Given as goal

abbrev pub invariant-loop-k : goal.invariant-loop-k
invariant-loop-k l = (j : ℕ) → j < l.k → (l.kind.intra ≡ true → j ≢ 0) → IsApart l.kind j
