use Rattle.mv_transform.proofs.BasisLemmas.{by_frequency_at}
use Rattle.mv_transform.proofs.weights.frequency_weights.Goals as goal

pub returns : goal.returns
returns c = λ x h. by_frequency_at c.args.u x c.requires h
