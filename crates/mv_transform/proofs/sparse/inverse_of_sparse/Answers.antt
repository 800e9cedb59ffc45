use Rattle.std.proofs.Common.{◌≡◌, ℕ, ℤ, ◌/◌, ◌%◌, pos, ◌*ℤ◌, ◌+ℤ◌, arith, ◌∙◌, w16, rules}
use Rattle.std.proofs.lemmas.Int.{to_z-of_z}
use Rattle.mv_terms.specs.Block.{item, entry}
use Rattle.mv_transform.specs.Transform.{inverse_sum, saturated, rounded}
use Rattle.mv_terms.proofs.FilledLemmas.{filled_more}
use Rattle.mv_transform.proofs.SparseLemmas.{finish_all}
use Rattle.mv_transform.proofs.sparse.inverse_of_sparse.Goals as goal

pub places-preserved : goal.places-preserved
places-preserved c =
    let sum = c.sum_at.ensures ∙ c.sums_of_rows-sums.ensures.value c.places.place c.places-test.true in
    filled_more 64 (λ (k : ℕ) (z : ℤ). z ≡ saturated (rounded (pos 8386816 *ℤ item c.args.c.now 0 +ℤ inverse_sum (entry c.args.others.now) (k / 8) (k % 8)))) _ _ _ c.places.invariant c.places-test.true
    (rw (to_z-of_z w16 c.saturated_value.result (search rules)) (finish_all (item c.args.c.now 0) c.high_of-high.result c.low_of-low.result c.sum_at.result c.finished.result c.first_sum-whole.result _ c.saturated_value.result (grind (arith, to_z-of_z, c.first_sum-whole.ensures.value, c.first_of.ensures)) (grind (arith, to_z-of_z, c.low_of-low.ensures.value)) (grind (arith, to_z-of_z, c.finished.ensures)) sum (grind (arith, to_z-of_z, c.saturated_value.ensures))))
