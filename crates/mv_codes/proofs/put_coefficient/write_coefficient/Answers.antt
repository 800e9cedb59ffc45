use Rattle.mv_codes.proofs.LevelFacts.{has_it, code_put, else_put}
use Rattle.mv_codes.proofs.put_coefficient.write_coefficient.Goals as goal

pub write_level-requires : goal.write_level-requires
write_level-requires g c =
    has_it g.P.Put.stands c.args.to.now c.args.to.now c.args.out.now c.args.out.now c.args.table_15 c.args.first c.args.run c.args.level.now c.magnitude.result c.magnitude.ensures c.has_level.result c.has_level.ensures c.if-has_level.true

pub returns-then-has_level : goal.returns-then-has_level
returns-then-has_level g c =
    code_put g.P.Put.stands c.args.to.now c.write_level.new.to c.args.out.now c.write_level.new.out c.args.table_15 c.args.first c.args.run c.args.level.now c.magnitude.result c.magnitude.ensures c.has_level.result c.has_level.ensures c.if-has_level.true c.write_level.ensures

pub returns-else-has_level : goal.returns-else-has_level
returns-else-has_level g c =
    else_put g.P.Put.stands c.args.to.now c.write_escape.new.to c.args.out.now c.write_escape.new.out c.args.table_15 c.args.first c.args.run c.args.level.now c.magnitude.result c.magnitude.ensures c.has_level.result c.has_level.ensures c.if-has_level.false c.write_escape.ensures
