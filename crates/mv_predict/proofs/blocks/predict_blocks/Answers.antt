use Rattle.mv_planes.specs.References.{references_lent}
use Rattle.mv_predict.specs.Prediction.{predicted_with}
use Rattle.mv_predict.proofs.BlockLemmas.{blocks_are}
use Rattle.mv_predict.proofs.blocks.predict_blocks.Goals as goal

pub returns : goal.returns
returns c = blocks_are (predicted_with c.args.forward c.args.backward c.args.d.now (references_lent c.args.refs.now))
    c.args.d.now.field_dct c.args.mb_x c.args.mb_y c.part_at-upper.result c.part_at-lower.result c.part_at-chroma.result c.predict_pair.new.out c.predict_pair-2.new.out c.predict_pair-3.new.out
    c.part_at-upper.ensures.value c.part_at-lower.ensures.value c.part_at-chroma.ensures.value
    c.predict_pair.ensures.first c.predict_pair.ensures.second c.predict_pair-2.ensures.first c.predict_pair-2.ensures.second c.predict_pair-2.ensures.others
    c.predict_pair-3.ensures.first c.predict_pair-3.ensures.second c.predict_pair-3.ensures.others
