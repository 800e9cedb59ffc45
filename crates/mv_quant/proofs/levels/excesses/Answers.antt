use Rattle.std.proofs.Common.{◌∙◌, length-set}
use Rattle.mv_quant.specs.Steps.{IsSmall}
use Rattle.mv_quant.proofs.RowLemmas.{told_more}
use Rattle.mv_quant.proofs.levels.excesses.Goals as goal

pub loop-k-preserved : goal.loop-k-preserved
loop-k-preserved c = record {
  long = length-set c.loop-k.excesses c.loop-k.k c.excess_at.result ∙ c.loop-k.invariant.long;
  told = told_more (λ k. IsSmall c.args.kind.now c.args.coefs.now k) c.loop-k.excesses c.loop-k.k c.excess_at.result c.loop-k.invariant.long c.loop-k-test.true c.loop-k.invariant.told c.excess_at.ensures;
}
