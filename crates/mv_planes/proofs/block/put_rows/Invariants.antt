use Rattle.std.proofs.Common.{◌+◌, ◌*◌}
use Rattle.mv_planes.specs.Steps.{HasRows}
use Rattle.mv_planes.proofs.block.put_rows.Given as goal

abbrev pub invariant-rows : goal.invariant-rows
invariant-rows l = HasRows l.fn.samples l.samples l.at l.stride l.values (8 * l.row)

abbrev pub invariant-columns : goal.invariant-columns
invariant-columns l = HasRows l.fn.samples l.samples l.at l.stride l.values (8 * l.row + l.col)
