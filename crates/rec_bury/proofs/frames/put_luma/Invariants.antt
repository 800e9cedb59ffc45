use Rattle.std.proofs.Common.{◌≡◌, ℕ, ◌*◌, ◌<◌, get_or}
use Rattle.rec_bury.proofs.frames.put_luma.Given as goal
use Rattle.rec_bury.specs.Steps.{AreWritten}

abbrev pub invariant-samples : goal.invariant-samples
invariant-samples l = (v : ℕ → ℕ) → ((k : ℕ) → k < l.n → v k ≡ 4 * get_or l.samples k 0) → AreWritten v l.to l.k
