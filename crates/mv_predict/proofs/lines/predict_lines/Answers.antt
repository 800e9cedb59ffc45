use Rattle.std.proofs.Common.{◌+◌, refl}
use Rattle.mv_predict.specs.Prediction.{source_of}
use Rattle.mv_predict.specs.Steps.{source_given}
use Rattle.mv_predict.proofs.LineLemmas.{lines_made}
use Rattle.mv_predict.proofs.lines.predict_lines.Goals as goal

pub returns : goal.returns
returns c = lines_made c.args.pic.now c.args.part c.args.d.now c.args.s c.rows.new.out c.samples.result.now (source_given c.source_of.result) (source_of c.args.d.now c.args.s (c.args.part.y + c.args.part.step)) c.lines_at-even.result c.odd_lines-odd.result
    c.samples.ensures c.source_of.ensures.value refl c.lines_at-even.ensures.value c.odd_lines-odd.ensures.value c.requires.inside.even c.requires.inside.odd
    c.rows.ensures.even_first c.rows.ensures.even_second c.rows.ensures.odd_first c.rows.ensures.odd_second
