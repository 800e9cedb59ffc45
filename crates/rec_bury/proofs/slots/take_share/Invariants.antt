use Rattle.std.proofs.Common.{◌+◌, ◌*◌}
use Rattle.rec_bury.proofs.slots.take_share.Given as goal
use Rattle.rec_bury.specs.Steps.{AreTaken, sheet_at}

abbrev pub invariant-bytes : goal.invariant-bytes
invariant-bytes l = AreTaken (sheet_at l.wide l.high l.frame) l.initial.sheet (12 * (l.y * l.wide + l.x)) → AreTaken (sheet_at l.wide l.high l.frame) l.sheet (12 * (l.y * l.wide + l.x) + l.b)
