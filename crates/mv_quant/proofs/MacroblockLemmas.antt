-- The coefficients of absent and of coded blocks.
use Rattle.std.proofs.Common.{◌≡◌, ℕ, ◌+◌, ◌*◌, ◌<◌, Bool, true, false, cond, List, ℤ, pos, negsuc, ◌≤ℤ◌, replicate, refl, sym, ◌∙◌, arith}
use Rattle.std.proofs.lemmas.List.{get_or-replicate}
use Rattle.std.proofs.lemmas.Int.{ints}
use Rattle.mv_terms.specs.Block.{entry}
use Rattle.mv_quant.specs.declared.Kind.{Kind}
use Rattle.mv_quant.specs.Dequantised.{dequantised}
use Rattle.mv_quant.specs.Macroblocks.{is_absent, coefficient_at, AbsentIsZero, CoefficientIsSaturated}
use Rattle.mv_quant.proofs.BlockLemmas.{dequantised_is_saturated}

pub absent_is_zero : AbsentIsZero
unfolding coefficient_at
absent_is_zero kind levels absent v u = rw absent refl

pub coefficient_is_saturated : CoefficientIsSaturated
unfolding coefficient_at
coefficient_is_saturated kind levels v u = by (is_absent kind levels)
  where
    by : (b : Bool) → (negsuc 2047 ≤ℤ cond b (pos 0) (dequantised kind (entry levels) v u)) × (cond b (pos 0) (dequantised kind (entry levels) v u) ≤ℤ pos 2047)
    by true = (omega (arith, ints), omega (arith, ints))
    by false = dequantised_is_saturated kind (entry levels) v u

-- a block of zeros
pub entry_of_zeros : (v u : ℕ) → v < 8 → u < 8 → entry (replicate 64 (pos 0)) v u ≡ pos 0
entry_of_zeros v u h k =
    let lt : 8 * v + u < 64 = omega arith in
    get_or-replicate 64 (8 * v + u) (pos 0) (pos 0) lt

-- it is what an absent block stands for
pub no_coefficients : (kind : Kind) (levels : List ℤ) (v u : ℕ) → is_absent kind levels ≡ true → v < 8 → u < 8 → entry (replicate 64 (pos 0)) v u ≡ coefficient_at kind levels v u
no_coefficients kind levels v u absent h k = entry_of_zeros v u h k ∙ sym (absent_is_zero kind levels absent v u)
