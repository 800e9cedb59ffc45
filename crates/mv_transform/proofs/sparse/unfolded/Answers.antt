use Rattle.std.proofs.Common.{◌+◌, ◌*◌, arith}
use Rattle.std.proofs.lemmas.Int.{to_z-of_z}
use Rattle.mv_transform.proofs.SparseLemmas.{unfolded_along, unfolded_more}
use Rattle.mv_transform.proofs.sparse.unfolded.Goals as goal

pub places-preserved : goal.places-preserved
places-preserved c =
    unfolded_along _ _ _ (8 * c.rows.y + c.places.x + 1) _
    (unfolded_more _ _ _ c.rows.y c.places.x _ _ c.places.invariant c.rows-test.true c.places-test.true
    (grind (arith, to_z-of_z, c.plus.ensures.value, c.half_sum_at-even_sum.ensures, c.half_sum_at-odd_sum.ensures))
    (grind (arith, to_z-of_z, c.minus.ensures.value, c.half_sum_at-even_sum.ensures, c.half_sum_at-odd_sum.ensures)))
    (omega arith)
