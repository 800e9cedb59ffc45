use Rattle.std.proofs.Common.{◌≤◌, ◌+◌, ◌^◌, sym, subst}
use Rattle.mv_quant.proofs.QuotientLemmas.{reciprocal_at, reciprocal_small}
use Rattle.mv_quant.proofs.reciprocals.reciprocal.Goals as goal

pub returns-clause-value : goal.returns-clause-value
returns-clause-value c = reciprocal_at c.args.d c.requires.0 c.requires.1

pub returns-clause-size : goal.returns-clause-size
returns-clause-size c = subst (λ r. r ≤ 2 ^ 25 + 1) (sym (reciprocal_at c.args.d c.requires.0 c.requires.1)) (reciprocal_small c.args.d c.requires.0)
