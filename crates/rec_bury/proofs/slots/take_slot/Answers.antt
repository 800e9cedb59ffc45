use Rattle.std.proofs.Common.{◌+◌, ◌*◌, arith}
use Rattle.rec_bury.proofs.ExhumeLemmas.{taken_more, slot_at, number_below}
use Rattle.rec_bury.proofs.slots.take_slot.Goals as goal

pub bytes-preserved : goal.bytes-preserved
bytes-preserved c = λ before.
    let inside = number_below c.args.wide c.args.high c.args.x c.args.y c.requires.column c.requires.row in
    taken_more _ c.bytes.slots (20 * (c.args.y * c.args.wide + c.args.x) + c.bytes.b) _ _ (omega arith) (omega (arith, inside))
    (slot_at c.args.wide c.args.high _ (c.args.y * c.args.wide + c.args.x) c.bytes.b _ c.bytes-test.true c.byte_at.ensures) (c.bytes.invariant before)
