use Rattle.mv_quant.proofs.MacroblockLemmas.{absent_is_zero, coefficient_is_saturated}
use Rattle.mv_quant.proofs.laws.coefficients_law.Goals as goal

pub returns-clause-absent : goal.returns-clause-absent
returns-clause-absent c = absent_is_zero

pub returns-clause-range : goal.returns-clause-range
returns-clause-range c = coefficient_is_saturated
