use Rattle.std.proofs.Common.{◌+◌, ◌*◌, arith}
use Rattle.rec_bury.proofs.ExhumeLemmas.{taken_more, share_at, number_below}
use Rattle.rec_bury.proofs.slots.take_share.Goals as goal

pub bounds-sheet-m : goal.bounds-sheet-m
bounds-sheet-m c = omega (arith, number_below c.args.wide c.args.high c.args.x c.args.y c.requires.column c.requires.row)

pub bytes-preserved : goal.bytes-preserved
bytes-preserved c = λ before.
    let inside = number_below c.args.wide c.args.high c.args.x c.args.y c.requires.column c.requires.row in
    taken_more _ c.bytes.sheet (12 * (c.args.y * c.args.wide + c.args.x) + c.bytes.b) _ _ (omega arith) (omega (arith, inside))
    (share_at c.args.wide c.args.high _ (c.args.y * c.args.wide + c.args.x) c.bytes.b _ c.bytes-test.true c.byte_at.ensures) (c.bytes.invariant before)
