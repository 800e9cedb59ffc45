use Rattle.mv_transform.proofs.BackLemmas.{forward_of_inverse_is_close}
use Rattle.mv_transform.proofs.laws.back_law.Goals as goal

pub returns : goal.returns
returns c = forward_of_inverse_is_close
