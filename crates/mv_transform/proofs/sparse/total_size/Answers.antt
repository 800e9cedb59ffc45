use Rattle.std.proofs.Common.{arith, ◌∙◌}
use Rattle.mv_transform.proofs.TotalLemmas.{total_of_places}
use Rattle.mv_transform.proofs.sparse.total_size.Goals as goal

pub returns : goal.returns
returns c = c.places.invariant.0 ∙ total_of_places c.args.block.now c.places.k (omega arith)
