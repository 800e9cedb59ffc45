use Rattle.std.proofs.Common.{refl}
use Rattle.mv_codes.specs.Steps.{coded_levels, coded_before, sum_before}
use Rattle.mv_codes.proofs.LevelFacts.{run_small}
use Rattle.mv_codes.proofs.put_coefficient.level_place.Goals as goal

pub bounds-run : goal.bounds-run
bounds-run c = run_small c.args.run c.args.magnitude c.requires

pub returns : goal.returns
unfolding coded_levels coded_before sum_before
returns c = refl
