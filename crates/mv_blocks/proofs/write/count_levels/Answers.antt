use Rattle.std.proofs.Math.Facts.{Fits-of_lt}
use Rattle.mv_blocks.proofs.CountLemmas.{count_fits, count_more, count_done}
use Rattle.mv_blocks.proofs.write.count_levels.Goals as goal

pub overflow_add-count : goal.overflow_add-count
overflow_add-count c = Fits-of_lt (count_fits c.args.levels.now c.levels.count c.levels.level-index c.counted-count.result c.told-levels c.levels-test.true c.levels.invariant c.counted-count.ensures)

pub levels-preserved : goal.levels-preserved
levels-preserved c = count_more c.args.levels.now c.levels.count c.levels.level-index c.counted-count.result c.told-levels c.levels-test.true c.levels.invariant c.counted-count.ensures

pub returns : goal.returns
returns c = count_done c.args.levels.now c.levels.count c.levels.level-index c.told-levels c.levels-test.false c.levels.invariant
