use Rattle.mv_transform.proofs.TransformLemmas.{inverse_of_same, forward_of_same}
use Rattle.mv_transform.proofs.laws.same_block_law.Goals as goal

pub returns-clause-inverse : goal.returns-clause-inverse
returns-clause-inverse c = inverse_of_same

pub returns-clause-forward : goal.returns-clause-forward
returns-clause-forward c = forward_of_same
