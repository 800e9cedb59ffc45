use Rattle.mv_quant.proofs.BlockLemmas.{value_is_saturated, dequantised_is_saturated}
use Rattle.mv_quant.proofs.laws.saturated_law.Goals as goal

pub returns-clause-value : goal.returns-clause-value
returns-clause-value c = value_is_saturated

pub returns-clause-coefficient : goal.returns-clause-coefficient
returns-clause-coefficient c = dequantised_is_saturated
