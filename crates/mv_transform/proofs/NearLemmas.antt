-- A block there and back with its coefficients changed, sample by sample.
use Rattle.std.proofs.Common.{◌≡◌, ℕ, ◌+◌, ◌*◌, ◌<◌, ◌≤◌, ℤ, pos, ◌+ℤ◌, ◌-ℤ◌, ◌*ℤ◌, unsigned_abs, arith}
use Rattle.std.proofs.lemmas.Int.{ints, clamps, unsigned_abs-mul}
use Rattle.std.proofs.lemmas.Nat.{mul-le}
use Rattle.mv_terms.specs.Block.{IsWithin}
use Rattle.mv_terms.specs.Sums.{sum_below, total_below}
use Rattle.mv_transform.specs.Transform.{weight, inverse_sum, forward_sum, forward_at, rounded, saturated}
use Rattle.mv_transform.proofs.SparseLemmas.{sum_below_total}
use Rattle.mv_transform.specs.Near.{AreNear, twice, carried, error_at, InverseOfForwardIsNear}
use Rattle.mv_transform.proofs.BackLemmas.{rounded_near}
use Rattle.mv_transform.proofs.PlaceLemmas.{sums_close, inverse_sum_parts}

-- what was changed, in units of 2^-26
abbrev pub change : (ℕ → ℕ → ℤ) → (ℕ → ℕ → ℤ) → ℕ → ℕ → ℤ
change f F v u = forward_sum f v u -ℤ pos 67108864 *ℤ F v u

pub change_size : (m : ℕ → ℕ → ℕ) (f F : ℕ → ℕ → ℤ) → AreNear m f F → (v u : ℕ) → v < 8 → u < 8 → unsigned_abs (change f F v u) ≤ 33554432 * twice m v u
change_size m f F near v u hv hu = by (forward_sum f v u) (forward_at f v u) (F v u) (m v u) (rounded_near (forward_sum f v u)) (near v u hv hu)
  where
    by : (s c F : ℤ) (m : ℕ) → unsigned_abs (pos 67108864 *ℤ c -ℤ s) ≤ 33554432 → unsigned_abs (F -ℤ c) ≤ m → unsigned_abs (s -ℤ pos 67108864 *ℤ F) ≤ 33554432 * (2 * m + 1)
    by s c F m a b = omega (arith, ints)

-- the changes at a sample
pub carried_size : (m : ℕ → ℕ → ℕ) (N : ℕ → ℕ → ℤ) → ((v u : ℕ) → v < 8 → u < 8 → unsigned_abs (N v u) ≤ 33554432 * twice m v u)
    → (y x : ℕ) → unsigned_abs (inverse_sum N y x) ≤ 33554432 * carried m y x
unfolding inverse_sum carried
carried_size m N h y x =
    sum_below_total 33554432 8 (λ v. sum_below 8 (λ u. weight v u y x *ℤ N v u)) (λ v. total_below 8 (λ u. unsigned_abs (weight v u y x) * twice m v u))
    (λ v p. sum_below_total 33554432 8 (λ u. weight v u y x *ℤ N v u) (λ u. unsigned_abs (weight v u y x) * twice m v u)
    (λ u q. let l = mul-le (unsigned_abs (weight v u y x)) (unsigned_abs (N v u)) (unsigned_abs (weight v u y x)) (33554432 * twice m v u) (omega arith) (h v u p q) in
    rw unsigned_abs-mul (omega (arith, l))))

-- an error, in units of 2^-52, is what the changes bring and a rest
pub error_parts : (f F : ℕ → ℕ → ℤ) → IsWithin 255 f → (y x : ℕ) → y < 8 → x < 8
    → 4503599627370496 * error_at f F y x ≤ unsigned_abs (inverse_sum (change f F) y x) + 2955487255461888
error_parts f F small y x hy hx =
    cut (rounded (inverse_sum F y x)) (f y x) (small y x hy hx) (unsigned_abs (inverse_sum (change f F) y x) + 2955487255461888)
    (by (inverse_sum (forward_sum f) y x) (inverse_sum F y x) (inverse_sum (change f F) y x) (rounded (inverse_sum F y x)) (f y x)
    (inverse_sum_parts (pos 67108864) F (change f F) (forward_sum f) (λ v u p q. apart (forward_sum f v u) (pos 67108864 *ℤ F v u)) y x)
    (sums_close f small y x hy hx) (rounded_near (inverse_sum F y x)))
  where
    apart : (s t : ℤ) → s ≡ t +ℤ (s -ℤ t)
    apart s t = omega (arith, ints)

    by : (g s n r f : ℤ) → g ≡ pos 67108864 *ℤ s +ℤ n → unsigned_abs (g -ℤ pos 4503599627370496 *ℤ f) ≤ 587658897104640 → unsigned_abs (pos 67108864 *ℤ r -ℤ s) ≤ 33554432
        → 4503599627370496 * unsigned_abs (r -ℤ f) ≤ unsigned_abs n + 2955487255461888
    by g s n r f e a b = omega (arith, ints)

    cut : (r f : ℤ) → unsigned_abs f ≤ 255 → (n : ℕ) → 4503599627370496 * unsigned_abs (r -ℤ f) ≤ n → 4503599627370496 * unsigned_abs (saturated r -ℤ f) ≤ n
    cut r f h n l = let k : unsigned_abs (saturated r -ℤ f) ≤ unsigned_abs (r -ℤ f) = omega (arith, ints, clamps) in omega (arith, l, k)

pub inverse_of_forward_is_near : InverseOfForwardIsNear
inverse_of_forward_is_near m f F small near y x hy hx =
    let parts = error_parts f F small y x hy hx in
    let size = carried_size m (change f F) (change_size m f F near) y x in
    omega (arith, parts, size)
