use Rattle.std.proofs.Common.{arith}
use Rattle.mv_blocks.proofs.CountLemmas.{count_behind}
use Rattle.mv_blocks.proofs.write.levels_from.Goals as goal

pub overflow_sub-result : goal.overflow_sub-result
overflow_sub-result c = (count_behind c.args.levels.now c.count_levels-all.result c.counted.result 1 c.told-levels (omega arith) c.count_levels-all.ensures c.counted.ensures).0

pub returns-else-start-eq0 : goal.returns-else-start-eq0
returns-else-start-eq0 c = (count_behind c.args.levels.now c.count_levels-all.result c.counted.result c.args.start c.told-levels (omega arith) c.count_levels-all.ensures c.counted.ensures).1
