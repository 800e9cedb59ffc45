use Rattle.std.proofs.Common.{◌+◌, ◌*◌}
use Rattle.rec_bury.proofs.slots.exhume.Given as goal
use Rattle.rec_bury.specs.Steps.{AreTaken, slots_at, sheet_at}

abbrev pub invariant-rows : goal.invariant-rows
invariant-rows l = record {
  slots : AreTaken (slots_at l.wide l.high l.frame) l.slots (20 * (l.y * l.wide));
  sheet : AreTaken (sheet_at l.wide l.high l.frame) l.sheet (12 * (l.y * l.wide));
}

abbrev pub invariant-macroblocks : goal.invariant-macroblocks
invariant-macroblocks l = record {
  slots : AreTaken (slots_at l.wide l.high l.frame) l.slots (20 * (l.y * l.wide + l.x));
  sheet : AreTaken (sheet_at l.wide l.high l.frame) l.sheet (12 * (l.y * l.wide + l.x));
}
