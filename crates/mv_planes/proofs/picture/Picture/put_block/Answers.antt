use Rattle.std.proofs.Common.{ℕ, List, sym, subst}
use Rattle.mv_planes.specs.Planes.{Planes}
use Rattle.mv_planes.specs.Parts.{WritesBlock}
use Rattle.mv_planes.specs.Steps.{HasRows}
use Rattle.mv_planes.proofs.PartLemmas.{block_is_written}
use Rattle.mv_planes.proofs.RowLaws.{all_written}
use Rattle.mv_planes.proofs.picture.Picture.put_block.Goals as goal

pub returns : goal.returns
returns c =
    let f : Planes = c.args.self.now in
    let s : List ℕ = c.put_rows.new.samples in
    let at : ℕ = c.part_places-at.result.0 in
    let stride : ℕ = c.part_places-at.result.1 in
    let rows : HasRows f.samples s at stride c.args.block.now 64 = subst (λ (l : List ℕ). HasRows l s at stride c.args.block.now 64) c.samples_mut.ensures.value c.put_rows.ensures in
    subst (λ (g : Planes). WritesBlock f g c.args.part c.args.block.now) (sym (all_written f s rows.size))
    (block_is_written f c.args.part at stride s c.args.block.now c.requires.inside c.part_places-at.ensures.at c.part_places-at.ensures.stride rows)
