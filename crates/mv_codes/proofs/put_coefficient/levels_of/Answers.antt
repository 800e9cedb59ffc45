use Rattle.std.proofs.Common.{refl}
use Rattle.mv_codes.specs.Steps.{coded_levels}
use Rattle.mv_codes.proofs.LevelFacts.{levels_past}
use Rattle.mv_codes.proofs.put_coefficient.levels_of.Goals as goal

pub returns-then-run-lt32 : goal.returns-then-run-lt32
unfolding coded_levels
returns-then-run-lt32 c = refl

pub returns-else-run-lt32 : goal.returns-else-run-lt32
returns-else-run-lt32 c = levels_past c.args.run c.if-run-lt32.false
