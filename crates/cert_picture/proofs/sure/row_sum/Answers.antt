use Rattle.std.proofs.Common.{◌+◌, ◌*◌, sym, ap, ◌∙◌, arith}
use Rattle.mv_terms.specs.Sums.{total_below}
use Rattle.cert_picture.specs.Steps.{sample_at}
use Rattle.cert_picture.proofs.SureLemmas.{total_none, total_more}
use Rattle.cert_picture.proofs.sure.row_sum.Goals as goal

pub loop-x-init : goal.loop-x-init
loop-x-init c = record { value = sym (total_none (sample_at c.args.samples.now c.args.y)); range = omega arith }

pub loop-x-preserved : goal.loop-x-preserved
loop-x-preserved c = record {
  value = ap (λ n. n + c.from-sum.result) c.loop-x.invariant.value ∙ ap (λ n. total_below c.loop-x.x (sample_at c.args.samples.now c.args.y) + n) c.from-sum.ensures ∙ sym (total_more c.loop-x.x (sample_at c.args.samples.now c.args.y));
  range = (let i = c.loop-x.invariant.range in let r = c.fits-samples (8 * c.args.y + c.loop-x.x) in let e = c.from-sum.ensures in omega (arith, i, r, e));
}
