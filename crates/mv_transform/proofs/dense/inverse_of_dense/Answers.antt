use Rattle.std.proofs.Common.{◌≡◌, ◌/◌, ◌%◌, ℕ, ℤ, arith}
use Rattle.std.proofs.lemmas.Int.{to_z-of_z}
use Rattle.mv_terms.specs.Block.{entry}
use Rattle.mv_transform.specs.Transform.{inverse_at}
use Rattle.mv_terms.proofs.FilledLemmas.{filled_more}
use Rattle.mv_transform.proofs.PassLemmas.{inverse_item_size, inverse_sums}
use Rattle.mv_transform.proofs.dense.inverse_of_dense.Goals as goal

pub high_parts-requires : goal.high_parts-requires
high_parts-requires c = inverse_item_size c.args.c.now c.inverse_of_rows.new.turned c.inverse_of_rows.ensures.small c.inverse_of_rows.ensures.value

pub low_parts-requires : goal.low_parts-requires
low_parts-requires c = inverse_item_size c.args.c.now c.inverse_of_rows.new.turned c.inverse_of_rows.ensures.small c.inverse_of_rows.ensures.value

pub rounded_parts-requires-clause-high_small : goal.rounded_parts-requires-clause-high_small
rounded_parts-requires-clause-high_small c =
    let size = inverse_item_size c.high_parts.result c.inverse_of_rows-2.new.turned c.inverse_of_rows-2.ensures.small c.inverse_of_rows-2.ensures.value c.loop-place.place c.loop-place-test.true in
    grind (arith, to_z-of_z, size)

pub rounded_parts-requires-clause-low_small : goal.rounded_parts-requires-clause-low_small
rounded_parts-requires-clause-low_small c =
    let size = inverse_item_size c.low_parts.result c.inverse_of_rows-3.new.turned c.inverse_of_rows-3.ensures.small c.inverse_of_rows-3.ensures.value c.loop-place.place c.loop-place-test.true in
    grind (arith, to_z-of_z, size)

pub loop-place-preserved : goal.loop-place-preserved
loop-place-preserved c =
    let sum = inverse_sums c.args.c.now c.inverse_of_rows.new.turned c.high_parts.result c.low_parts.result c.inverse_of_rows-2.new.turned c.inverse_of_rows-3.new.turned c.inverse_of_rows.ensures.value (λ k h. (c.high_parts.ensures k h, c.low_parts.ensures k h)) c.inverse_of_rows-2.ensures.value c.inverse_of_rows-3.ensures.value c.loop-place.place c.loop-place-test.true in
    filled_more 64 (λ (k : ℕ) (z : ℤ). z ≡ inverse_at (entry c.args.c.now) (k / 8) (k % 8)) _ _ _ c.loop-place.invariant c.loop-place-test.true (grind (arith, to_z-of_z, sum))
