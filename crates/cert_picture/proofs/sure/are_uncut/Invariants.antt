use Rattle.std.proofs.Common.{◌<◌, ◌≤◌, ℕ}
use Rattle.std.specs.Prelude.{slice_index}
use Rattle.cert_picture.proofs.sure.are_uncut.Given as goal

abbrev pub invariant-loop-k : goal.invariant-loop-k
invariant-loop-k l = (j : ℕ) → j < l.k → (l.least ≤ slice_index l.samples j) × (slice_index l.samples j ≤ l.greatest)
