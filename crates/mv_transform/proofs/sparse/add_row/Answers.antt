use Rattle.std.proofs.Common.{◌+◌, ◌*◌, arith}
use Rattle.std.proofs.lemmas.Int.{to_z-of_z}
use Rattle.mv_transform.proofs.SparseLemmas.{added_along, added_more, place_term}
use Rattle.mv_transform.proofs.sparse.add_row.Goals as goal

pub places-preserved : goal.places-preserved
places-preserved c =
    let n = 8 * c.rows.y + c.places.x in
    let term = place_term c.args.v c.rows.y c.places.x c.args.line.now c.places-test.true in
    added_along _ _ _ (n + 1) _ (added_more _ _ _ n _ c.places.invariant (omega arith) (grind (arith, to_z-of_z, c.plus_term.ensures, term))) (omega arith)
