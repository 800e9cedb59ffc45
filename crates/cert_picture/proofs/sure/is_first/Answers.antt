use Rattle.cert_picture.proofs.SureLemmas.{first_is_near}
use Rattle.cert_picture.proofs.sure.is_first.Goals as goal

pub returns : goal.returns
returns c = first_is_near c.args.precision c.args.size c.args.coefficient c.multiplier_of-multiplier.result c.from.result c.max.result c.min.result
    c.requires.precision c.multiplier_of-multiplier.ensures.value c.from.ensures c.max.ensures c.min.ensures
