use Rattle.mv_bits.proofs.CompareLemmas.{takes_anything}
use Rattle.mv_bits.proofs.compare.CompareWithPut.is_settled.Goals as goal

pub returns : goal.returns
returns c = takes_anything c.self.inside.agrees c.self.inside.rest.now c.self.inside.zeros c.args.self.now c.self.view_is
