use Rattle.std.proofs.Common.{ℕ, ◌+◌, ◌*◌}
use Rattle.rec_bury.proofs.chroma.put_plane.Given as goal
use Rattle.rec_bury.specs.Steps.{AreWritten, ArePlaneValues}

abbrev pub invariant-rows : goal.invariant-rows
invariant-rows l =
    (v : ℕ → ℕ) → ArePlaneValues v l.samples l.slots l.sheet l.start l.fn.wide l.fn.high l.first → AreWritten v l.initial.to l.start → AreWritten v l.to (l.start + 8 * (l.y * l.fn.wide))
