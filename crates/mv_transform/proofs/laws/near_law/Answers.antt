use Rattle.mv_transform.proofs.NearLemmas.{inverse_of_forward_is_near}
use Rattle.mv_transform.proofs.laws.near_law.Goals as goal

pub returns : goal.returns
returns c = inverse_of_forward_is_near
