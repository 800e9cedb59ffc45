use Rattle.std.proofs.Common.{◌+◌, ◌*◌}
use Rattle.rec_bury.proofs.slots.take_slot.Given as goal
use Rattle.rec_bury.specs.Steps.{AreTaken, slots_at}

abbrev pub invariant-bytes : goal.invariant-bytes
invariant-bytes l = AreTaken (slots_at l.wide l.high l.frame) l.initial.slots (20 * (l.y * l.wide + l.x)) → AreTaken (slots_at l.wide l.high l.frame) l.slots (20 * (l.y * l.wide + l.x) + l.b)
