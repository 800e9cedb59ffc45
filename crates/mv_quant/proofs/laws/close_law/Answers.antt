use Rattle.mv_quant.proofs.CloseLemmas.{close_is_nearest}
use Rattle.mv_quant.proofs.laws.close_law.Goals as goal

pub returns : goal.returns
returns c = close_is_nearest
