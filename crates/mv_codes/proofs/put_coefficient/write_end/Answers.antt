use Rattle.mv_codes.proofs.LevelFacts.{end_15_put, end_14_put}
use Rattle.mv_codes.proofs.put_coefficient.write_end.Goals as goal

pub returns-then-table_15 : goal.returns-then-table_15
returns-then-table_15 g c = end_15_put g.P.Put.stands c.args.to.now c.put.new.to c.args.out.now c.put.new.self c.args.table_15 c.if-table_15.true c.put.ensures.written

pub returns-else-table_15 : goal.returns-else-table_15
returns-else-table_15 g c = end_14_put g.P.Put.stands c.args.to.now c.put-else-table_15.new.to c.args.out.now c.put-else-table_15.new.self c.args.table_15 c.if-table_15.false c.put-else-table_15.ensures.written
