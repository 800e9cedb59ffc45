use Rattle.std.proofs.Common.{◌*◌}
use Rattle.mv_quant.specs.Steps.{AreFound}
use Rattle.mv_quant.proofs.levels.nearest_by_steps.Given as goal

abbrev pub invariant-loop-row : goal.invariant-loop-row
invariant-loop-row l = AreFound l.kind l.coefs l.levels (8 * l.row)
