use Rattle.mv_quant.proofs.NearestLemmas.{nearest_is_nearest, one_level}
use Rattle.mv_quant.proofs.laws.nearest_law.Goals as goal

pub returns-clause-nearest : goal.returns-clause-nearest
returns-clause-nearest c = nearest_is_nearest

pub returns-clause-one : goal.returns-clause-one
returns-clause-one c = one_level
