use Rattle.std.proofs.Common.{◌≡◌, ℕ, ◌/◌, ◌<◌, get_or}
use Rattle.rec_bury.proofs.sources.shift.Given as goal
use Rattle.rec_bury.specs.Exhumed.{value_at}

abbrev pub invariant-samples : goal.invariant-samples
invariant-samples l = (k : ℕ) → k < l.k → get_or l.samples k 0 ≡ value_at l.frame k / 4
