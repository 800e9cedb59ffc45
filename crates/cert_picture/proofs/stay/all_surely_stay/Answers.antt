use Rattle.std.proofs.Common.{ℕ, below_more}
use Rattle.mv_terms.specs.Decisions.{block}
use Rattle.cert_picture.specs.Steps.{StaysFound, block_samples}
use Rattle.cert_picture.proofs.stay.all_surely_stay.Goals as goal

pub each-preserved : goal.each-preserved
each-preserved c =
    below_more (λ (b : ℕ). StaysFound c.args.kind.now (block c.args.levels.now b) (block_samples c.args.picture.now c.args.field_dct c.args.mb_x c.args.mb_y b))
    c.each.b c.each.invariant (c.block_stays.ensures c.if-not-block_stays.false)
