use Rattle.std.proofs.Common.{◌≡◌, ◌||◌, drop}
use Rattle.mv_blocks.specs.Written.{has_level}
use Rattle.mv_blocks.proofs.write.has_level.Given as goal

abbrev pub invariant-levels : goal.invariant-levels
invariant-levels l = (l.found || has_level (drop l.level-index l.levels)) ≡ has_level l.levels
