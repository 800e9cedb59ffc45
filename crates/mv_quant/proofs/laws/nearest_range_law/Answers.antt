use Rattle.mv_quant.proofs.NearestLemmas.{nearest_is_level, nearest_dc_is_in_range}
use Rattle.mv_quant.proofs.laws.nearest_range_law.Goals as goal

pub returns-clause-level : goal.returns-clause-level
returns-clause-level c = nearest_is_level

pub returns-clause-dc : goal.returns-clause-dc
returns-clause-dc c = nearest_dc_is_in_range
