use Rattle.std.proofs.Common.{◌∙◌, length, ap, refl}
use Rattle.rec_bury.proofs.SourceLemmas.{is_source}
use Rattle.rec_bury.proofs.sources.source.Goals as goal

pub returns : goal.returns
returns c = is_source c.args.to.now _ c.args.frame.now c.shift.new.samples c.mb_wide-wide.ensures.whole (c.shift.auto.samples ∙ ap length c.samples_mut.ensures.value) refl c.shift.ensures
