use Rattle.std.proofs.Common.{◌∙◌, sym}
use Rattle.mv_predict.proofs.MovedLemmas.{lines_below}
use Rattle.mv_predict.proofs.source.odd_places.Goals as goal

pub returns-else-has_fields : goal.returns-else-has_fields
returns-else-has_fields c = lines_below c.args.pic.now c.args.part.plane c.args.part.x c.args.part.y c.args.part.step c.args.d.now c.args.s c.args.even.now c.requires.even (sym c.has_fields.ensures ∙ c.if-has_fields.false) c.requires.inside.even
