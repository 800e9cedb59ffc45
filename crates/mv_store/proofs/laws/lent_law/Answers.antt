use Rattle.mv_store.proofs.StoredLaws.{stands_whatever_is_left}
use Rattle.mv_store.proofs.laws.lent_law.Goals as goal

pub returns : goal.returns
returns c = stands_whatever_is_left
