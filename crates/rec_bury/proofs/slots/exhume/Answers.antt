use Rattle.std.proofs.Common.{arith}
use Rattle.rec_bury.proofs.ExhumeLemmas.{slots_out, sheet_out}
use Rattle.rec_bury.proofs.slots.exhume.Goals as goal

pub returns-clause-slots : goal.returns-clause-slots
returns-clause-slots c = slots_out c.args.wide c.args.high c.from-wide.result c.from-high.result c.rows.y _ c.rows.slots c.from-wide.ensures c.from-high.ensures (omega arith) (omega arith) c.rows.invariant.slots

pub returns-clause-sheet : goal.returns-clause-sheet
returns-clause-sheet c = sheet_out c.args.wide c.args.high c.from-wide.result c.from-high.result c.rows.y _ c.rows.sheet c.from-wide.ensures c.from-high.ensures (omega arith) (omega arith) c.rows.invariant.sheet
