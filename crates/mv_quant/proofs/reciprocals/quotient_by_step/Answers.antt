use Rattle.std.proofs.Common.{◌/◌, ap, ◌∙◌}
use Rattle.mv_quant.proofs.QuotientLemmas.{by_factors}
use Rattle.mv_quant.proofs.reciprocals.quotient_by_step.Goals as goal

pub returns : goal.returns
returns c =
    c.quotient-2.ensures.value
    ∙ (ap (λ n. n / c.args.scale) c.quotient.ensures.value
    ∙ by_factors c.args.n c.args.entry c.args.scale c.requires.entry.0 c.requires.scale.0)
