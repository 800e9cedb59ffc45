use Rattle.mv_transform.proofs.BoundLemmas.{forward_is_bounded}
use Rattle.mv_transform.proofs.laws.forward_bounded_law.Goals as goal

pub returns : goal.returns
returns c = forward_is_bounded
