use Rattle.std.proofs.Common.{sym, subst}
use Rattle.mv_planes.specs.declared.part.Part.{Part}
use Rattle.mv_planes.specs.Parts.{HasBlock}
use Rattle.cert_picture.proofs.nearest.samples_of.Goals as goal

pub returns : goal.returns
returns c y x hy hx = sym (subst (λ (part : Part). HasBlock c.args.picture.now part c.block.result) c.part_at.ensures.value c.block.ensures y x hy hx)
