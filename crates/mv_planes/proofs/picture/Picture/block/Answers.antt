use Rattle.mv_planes.proofs.PartLemmas.{block_is_read}
use Rattle.mv_planes.proofs.picture.Picture.block.Goals as goal

pub returns : goal.returns
returns c =
    block_is_read c.args.self.now c.args.part _ _ c.samples.result.now c.rows_at.result
    c.samples.ensures c.part_places-at.ensures.at c.part_places-at.ensures.stride c.rows_at.ensures
