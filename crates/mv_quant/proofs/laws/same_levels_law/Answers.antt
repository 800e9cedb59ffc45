use Rattle.mv_quant.proofs.BlockLemmas.{dequantised_of_same}
use Rattle.mv_quant.proofs.laws.same_levels_law.Goals as goal

pub returns : goal.returns
returns c = dequantised_of_same
