use Rattle.std.proofs.Common.{ℕ, ◌+◌, ◌*◌}
use Rattle.rec_bury.proofs.chroma.put_row.Given as goal
use Rattle.rec_bury.specs.Steps.{AreWritten, AreRowValues}

abbrev pub invariant-macroblocks : goal.invariant-macroblocks
invariant-macroblocks l =
    (v : ℕ → ℕ) → AreRowValues v l.samples l.slots l.sheet l.at l.m l.wide l.b → AreWritten v l.initial.to l.at → AreWritten v l.to (l.at + 8 * l.x)
