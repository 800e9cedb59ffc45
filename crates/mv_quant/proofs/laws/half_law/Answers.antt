use Rattle.mv_quant.proofs.HalfLemmas.{nearest_is_within_half, other_is_within_half, first_is_within_half}
use Rattle.mv_quant.proofs.laws.half_law.Goals as goal

pub returns-clause-intra : goal.returns-clause-intra
returns-clause-intra c = nearest_is_within_half

pub returns-clause-other : goal.returns-clause-other
returns-clause-other c = other_is_within_half

pub returns-clause-first : goal.returns-clause-first
returns-clause-first c = first_is_within_half
