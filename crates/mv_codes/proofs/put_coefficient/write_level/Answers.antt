use Rattle.mv_codes.proofs.LevelFacts.{one_bit_put, is_there, holds_15, holds_14, put_15, put_14}
use Rattle.mv_codes.proofs.put_coefficient.write_level.Goals as goal

pub returns-then-has_one_bit : goal.returns-then-has_one_bit
returns-then-has_one_bit g c = one_bit_put g.P.Put.stands c.args.to.now c.put.new.to c.args.out.now c.put.new.self c.args.table_15 c.args.first c.args.run c.args.level.now c.magnitude-magnitude.result c.sign_bit-sign.result c.magnitude-magnitude.ensures c.sign_bit-sign.ensures.value c.has_one_bit.result c.has_one_bit.ensures c.if-has_one_bit.true c.put.ensures.written

pub level_place-at-requires : goal.level_place-at-requires
level_place-at-requires g c = is_there g.P.Put.stands c.args.to.now c.args.to.now c.args.out.now c.args.out.now c.args.table_15 c.args.first c.args.run c.args.level.now c.magnitude-magnitude.result c.sign_bit-sign.result c.magnitude-magnitude.ensures c.sign_bit-sign.ensures.value c.has_one_bit.result c.has_one_bit.ensures c.if-has_one_bit.false c.requires

pub put_level-requires-clause-there : goal.put_level-requires-clause-there
put_level-requires-clause-there g c = holds_15 g.P.Put.stands c.args.to.now c.args.to.now c.args.out.now c.args.out.now c.args.table_15 c.args.first c.args.run c.args.level.now c.magnitude-magnitude.result c.sign_bit-sign.result c.magnitude-magnitude.ensures c.sign_bit-sign.ensures.value c.has_one_bit.result c.has_one_bit.ensures c.if-has_one_bit.false c.requires c.level_place-at.result c.level_place-at.ensures c.if-table_15.true

pub put_level-requires-else-table_15-clause-there : goal.put_level-requires-else-table_15-clause-there
put_level-requires-else-table_15-clause-there g c = holds_14 g.P.Put.stands c.args.to.now c.args.to.now c.args.out.now c.args.out.now c.args.table_15 c.args.first c.args.run c.args.level.now c.magnitude-magnitude.result c.sign_bit-sign.result c.magnitude-magnitude.ensures c.sign_bit-sign.ensures.value c.has_one_bit.result c.has_one_bit.ensures c.if-has_one_bit.false c.requires c.level_place-at.result c.level_place-at.ensures c.if-table_15.false

pub returns-then-table_15 : goal.returns-then-table_15
returns-then-table_15 g c = put_15 g.P.Put.stands c.args.to.now c.put_level.new.to c.args.out.now c.put_level.new.out c.args.table_15 c.args.first c.args.run c.args.level.now c.magnitude-magnitude.result c.sign_bit-sign.result c.magnitude-magnitude.ensures c.sign_bit-sign.ensures.value c.has_one_bit.result c.has_one_bit.ensures c.if-has_one_bit.false c.requires c.level_place-at.result c.level_place-at.ensures c.if-table_15.true c.put_level.ensures

pub returns-else-table_15 : goal.returns-else-table_15
returns-else-table_15 g c = put_14 g.P.Put.stands c.args.to.now c.put_level-else-table_15.new.to c.args.out.now c.put_level-else-table_15.new.out c.args.table_15 c.args.first c.args.run c.args.level.now c.magnitude-magnitude.result c.sign_bit-sign.result c.magnitude-magnitude.ensures c.sign_bit-sign.ensures.value c.has_one_bit.result c.has_one_bit.ensures c.if-has_one_bit.false c.requires c.level_place-at.result c.level_place-at.ensures c.if-table_15.false c.put_level-else-table_15.ensures
