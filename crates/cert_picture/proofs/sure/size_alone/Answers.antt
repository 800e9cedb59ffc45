use Rattle.std.proofs.Common.{◌≡◌, subst}
use Rattle.cert_picture.specs.Steps.{StandAlone}
use Rattle.cert_picture.proofs.SureLemmas.{stand_alone}
use Rattle.cert_picture.proofs.sure.size_alone.Goals as goal

pub returns : goal.returns
returns c x e =
    let same : c.size_within.result ≡ x = cc in
    subst (StandAlone c.args.kind.now) same
    (stand_alone c.args.kind.now c.greatest_step-step.result c.size_within.result c.greatest_step-step.ensures.above
    (c.are_apart.ensures c.if-not-are_apart.false) c.size_within.ensures)
