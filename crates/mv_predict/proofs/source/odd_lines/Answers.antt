use Rattle.std.proofs.Common.{sym, subst}
use Rattle.mv_predict.specs.declared.kernel.Lines.{Lines}
use Rattle.mv_predict.specs.Steps.{IsReadable}
use Rattle.mv_predict.proofs.MovedLemmas.{readable}
use Rattle.mv_predict.proofs.source.odd_lines.Goals as goal

pub returns-clause-readable : goal.returns-clause-readable
returns-clause-readable c =
    let r = readable c.args.pic.now c.args.part.plane c.args.part.x _ c.args.part.step c.mb_wide-wide.ensures.whole c.requires.inside.odd in
    subst (λ (s : Lines). IsReadable c.args.pic.now.samples s) (sym c.odd_places.ensures) r
