use Rattle.std.proofs.Common.{sym, subst}
use Rattle.mv_predict.specs.declared.kernel.Lines.{Lines}
use Rattle.mv_predict.specs.Steps.{IsReadable, source_given}
use Rattle.mv_predict.proofs.MovedLemmas.{readable}
use Rattle.mv_predict.proofs.source.lines_at.Goals as goal

pub returns-clause-readable : goal.returns-clause-readable
returns-clause-readable c =
    let r = readable c.args.pic.now c.args.plane c.args.x (source_given c.args.source) c.args.step c.mb_wide-wide.ensures.whole c.requires.inside in
    subst (λ (s : Lines). IsReadable c.args.pic.now.samples s) (sym c.places_at.ensures) r
