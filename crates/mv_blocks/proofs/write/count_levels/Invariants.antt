use Rattle.mv_blocks.proofs.CountLemmas.{AreCounted}
use Rattle.mv_blocks.proofs.write.count_levels.Given as goal

abbrev pub invariant-levels : goal.invariant-levels
invariant-levels l = AreCounted l.levels l.count l.level-index
