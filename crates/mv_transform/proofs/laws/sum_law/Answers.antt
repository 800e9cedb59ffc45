use Rattle.mv_transform.proofs.BackLemmas.{inverse_of_zeros, forward_of_zeros, first_is_sum}
use Rattle.mv_transform.proofs.laws.sum_law.Goals as goal

pub returns-clause-inverse : goal.returns-clause-inverse
returns-clause-inverse c = inverse_of_zeros

pub returns-clause-forward : goal.returns-clause-forward
returns-clause-forward c = forward_of_zeros

pub returns-clause-first : goal.returns-clause-first
returns-clause-first c = first_is_sum
