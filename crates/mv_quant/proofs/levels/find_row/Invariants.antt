use Rattle.std.proofs.Common.{◌+◌, ◌*◌}
use Rattle.mv_quant.specs.Steps.{AreFound}
use Rattle.mv_quant.proofs.levels.find_row.Given as goal

abbrev pub invariant-loop-j : goal.invariant-loop-j
invariant-loop-j l = AreFound l.kind l.coefs l.levels (8 * l.row + l.j)
