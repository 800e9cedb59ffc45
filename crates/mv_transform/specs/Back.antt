-- Both directions one after the other: what a block of coefficients is found to be again.
use Rattle.std.specs.Prelude.{◌≡◌, ℕ, ◌<◌, ◌≤◌, ℤ, pos, ◌-ℤ◌, ◌*ℤ◌, unsigned_abs}
use Rattle.mv_terms.specs.Sums.{sum_below}
use Rattle.mv_terms.specs.Block.{IsWithin, IsSameBlock}
use Rattle.mv_transform.specs.Transform.{rounded, inverse_sum, inverse_at, forward_at}

-- the samples f are the inverse transform of the coefficients F, of which saturation cut nothing off
abbrev pub IsInverse : (ℕ → ℕ → ℤ) → (ℕ → ℕ → ℤ) → Type 0
IsInverse F f = IsSameBlock f (λ y x. rounded (inverse_sum F y x))

-- LAWS: the forward transform brings coefficients back within 5, although both directions round;
abbrev pub ForwardOfInverseIsClose : Type 0
ForwardOfInverseIsClose = (F f : ℕ → ℕ → ℤ) → IsWithin 2048 F → IsInverse F f
    → (v u : ℕ) → v < 8 → u < 8 → unsigned_abs (forward_at f v u -ℤ F v u) ≤ 5

-- zeros are the transform of zeros, in both directions;
abbrev pub InverseOfZeros : Type 0
InverseOfZeros = (y x : ℕ) → inverse_at (λ v u. pos 0) y x ≡ pos 0

abbrev pub ForwardOfZeros : Type 0
ForwardOfZeros = (v u : ℕ) → forward_at (λ y x. pos 0) v u ≡ pos 0

-- the first coefficient comes from the sum of the samples.
abbrev pub FirstIsSum : Type 0
FirstIsSum = (f : ℕ → ℕ → ℤ)
    → forward_at f 0 0 ≡ rounded (pos 8386816 *ℤ sum_below 8 (λ y. sum_below 8 (f y)))
