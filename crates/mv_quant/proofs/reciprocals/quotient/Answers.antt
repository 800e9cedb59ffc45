use Rattle.std.proofs.Common.{◌∙◌}
use Rattle.mv_quant.proofs.QuotientLemmas.{quotient_from}
use Rattle.mv_quant.proofs.reciprocals.quotient.Goals as goal

pub returns-clause-value : goal.returns-clause-value
returns-clause-value c =
    quotient_from c.args.n c.args.d c.from.result c.from-2.result c.requires.n c.requires.divisor.0 c.requires.divisor.1 c.from.ensures (c.from-2.ensures ∙ c.reciprocal.ensures.value)
