use Rattle.std.proofs.Common.{◌+◌, sym, ap, ◌∙◌, arith}
use Rattle.mv_terms.specs.Sums.{total_below}
use Rattle.cert_picture.specs.Steps.{sample_at}
use Rattle.cert_picture.proofs.SureLemmas.{total_none, total_more}
use Rattle.cert_picture.proofs.sure.sum_of.Goals as goal

pub loop-y-init : goal.loop-y-init
loop-y-init c = record { value = sym (total_none (λ y. total_below 8 (sample_at c.args.samples.now y))); range = omega arith }

pub loop-y-preserved : goal.loop-y-preserved
loop-y-preserved c = record {
  value = ap (λ n. n + c.row_sum-sum.result) c.loop-y.invariant.value ∙ ap (λ n. total_below c.loop-y.y (λ y. total_below 8 (sample_at c.args.samples.now y)) + n) c.row_sum-sum.ensures.value ∙ sym (total_more c.loop-y.y (λ y. total_below 8 (sample_at c.args.samples.now y)));
  range = (let i = c.loop-y.invariant.range in let r = c.row_sum-sum.ensures.range in omega (arith, i, r));
}
