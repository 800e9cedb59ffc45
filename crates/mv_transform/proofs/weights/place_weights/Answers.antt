use Rattle.mv_transform.proofs.BasisLemmas.{by_place_at}
use Rattle.mv_transform.proofs.weights.place_weights.Goals as goal

pub returns : goal.returns
returns c = λ u h. by_place_at c.args.x u c.requires h
