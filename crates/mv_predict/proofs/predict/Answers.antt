use Rattle.mv_predict.proofs.InsideLemmas.{forward_inside, backward_inside}
use Rattle.mv_predict.proofs.predict.Goals as goal

pub predict_blocks-requires-clause-forward : goal.predict_blocks-requires-clause-forward
predict_blocks-requires-clause-forward c = λ e. rw (c.from.ensures, c.from-else-d.ensures)
    (forward_inside c.args.refs.now.forward.now c.args.head.now c.args.d.now c.args.mb_x c.args.mb_y c.requires.forward.wide c.requires.forward.high
    c.requires.across c.requires.down (c.requires.decision.inside c.if-d.false))

pub predict_blocks-requires-clause-backward : goal.predict_blocks-requires-clause-backward
predict_blocks-requires-clause-backward c = λ e. rw (c.from.ensures, c.from-else-d.ensures)
    (backward_inside c.args.refs.now.backward.now c.args.head.now c.args.d.now c.args.mb_x c.args.mb_y c.requires.backward.wide c.requires.backward.high
    c.requires.across c.requires.down (c.requires.decision.inside c.if-d.false))
