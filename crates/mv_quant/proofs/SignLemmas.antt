-- From sizes to levels with a sign.
use Rattle.std.proofs.Common.{◌≡◌, ℕ, zero, suc, ◌+◌, ◌-◌, ◌*◌, ◌/◌, ◌<◌, ◌≤◌, min, Bool, true, false, cond, ◌≢◌, ℤ, pos, negsuc, neg_ℤ, ◌+ℤ◌, ◌*ℤ◌, ◌≤ℤ◌, unsigned_abs, int_div, arith, refl, ap, ◌∙◌, ⊎_elim, inl, inr}
use Rattle.std.proofs.lemmas.Int.{ints, clamps}
use Rattle.std.proofs.lemmas.Bool.{cases_lt}
use Rattle.std.specs.Int.{int_signum}
use borrow.Author.Differences.{neg_is}
use Rattle.mv_quant.specs.Steps.{value_size, gap, ComesBefore, scaled_value, oddness, negative, IsNearestOf}
use Rattle.mv_quant.specs.Nearest.{distance, IsSimpler, IsPreferred}
use Rattle.mv_terms.specs.Ranges.{IsLevel}
use Rattle.mv_quant.specs.Dequantised.{saturated, scaled_level}
use Rattle.mv_quant.proofs.SizeLemmas.{none_size}

saturated_pos : (a : ℕ) → saturated (pos a) ≡ pos (min a 2047)
saturated_pos a = omega (arith, ints, clamps)

saturated_neg : (a : ℕ) → saturated (neg_ℤ (pos a)) ≡ neg_ℤ (pos (min a 2048))
saturated_neg a = omega (arith, ints, clamps)

divided_neg : (a : ℕ) → int_div (neg_ℤ (pos a)) (pos 32) ≡ neg_ℤ (pos (a / 32))
divided_neg a = omega (arith, ints)

times_neg : (b step : ℕ) → neg_ℤ (pos b) *ℤ pos step ≡ neg_ℤ (pos (b * step))
times_neg b step = omega (arith, ints, ap (λ (n : ℕ). n * step) (neg_is (pos b)).0, ap (λ (n : ℕ). n * step) (neg_is (pos b)).1)

signum_one : (n : ℕ) → int_signum (pos (suc n)) ≡ pos 1
signum_one n = ap pos (omega arith)

pub value_pos : (intra : Bool) (step n : ℕ) → scaled_value intra step (pos n) ≡ pos (min (value_size (oddness intra) step n) 2047)
unfolding scaled_level value_size
value_pos true step zero = saturated_pos (0 * step / 32) ∙ ap pos (omega arith)
value_pos false step zero = saturated_pos (0 * step / 32) ∙ ap pos (omega arith)
value_pos true step (suc n) = saturated_pos ((2 * suc n + 0) * step / 32)
value_pos false step (suc n) = ap (λ (k : ℤ). saturated (int_div ((pos 2 *ℤ pos (suc n) +ℤ k) *ℤ pos step) (pos 32))) (signum_one n) ∙ saturated_pos ((2 * suc n + 1) * step / 32)

twice_neg : (n : ℕ) (k : ℤ) (odd : ℕ) → k ≡ neg_ℤ (pos odd) → pos 2 *ℤ negsuc n +ℤ k ≡ neg_ℤ (pos (2 * suc n + odd))
twice_neg n k odd e = omega (arith, ints)

negative_value : (n step odd : ℕ) (k : ℤ) → k ≡ neg_ℤ (pos odd) → saturated (int_div ((pos 2 *ℤ negsuc n +ℤ k) *ℤ pos step) (pos 32)) ≡ neg_ℤ (pos (min ((2 * suc n + odd) * step / 32) 2048))
negative_value n step odd k e =
    ap (λ (z : ℤ). saturated (int_div (z *ℤ pos step) (pos 32))) (twice_neg n k odd e)
    ∙ ap (λ (z : ℤ). saturated (int_div z (pos 32))) (times_neg (2 * suc n + odd) step)
    ∙ ap saturated (divided_neg ((2 * suc n + odd) * step))
    ∙ saturated_neg ((2 * suc n + odd) * step / 32)

pub value_neg : (intra : Bool) (step n : ℕ) → scaled_value intra step (negsuc n) ≡ neg_ℤ (pos (min (value_size (oddness intra) step (suc n)) 2048))
unfolding scaled_level value_size
value_neg true step n = negative_value n step 0 (pos 0) refl
value_neg false step n = negative_value n step 1 (negsuc 0) refl

pub value_of_neg : (intra : Bool) (step n : ℕ) → scaled_value intra step (neg_ℤ (pos n)) ≡ neg_ℤ (pos (min (value_size (oddness intra) step n) 2048))
value_of_neg intra step zero = value_pos intra step 0 ∙ rw (none_size (oddness intra) step) refl
value_of_neg intra step (suc n) = value_neg intra step n

-- distances of saturated values
from_pos : (a c : ℕ) → a ≤ 2047 → distance (pos a) (pos c) ≡ gap a (min c 2047) + (c - 2047)
from_pos a c h = omega (arith, ints)

from_neg : (a c : ℕ) → a ≤ 2048 → distance (neg_ℤ (pos a)) (neg_ℤ (pos c)) ≡ gap a (min c 2048) + (c - 2048)
from_neg a c h = omega (arith, ints)

apart : (a c : ℕ) → distance (neg_ℤ (pos a)) (pos c) ≡ a + c
apart a c = omega (arith, ints)

apart' : (a c : ℕ) → distance (pos a) (neg_ℤ (pos c)) ≡ a + c
apart' a c = omega (arith, ints)

-- one level before another, from their distances alone
preferred : (value : ℤ → ℤ) (c q p : ℤ) → distance (value q) c ≤ distance (value p) c → (distance (value q) c ≡ distance (value p) c → IsSimpler q p) → IsPreferred value c q p
preferred value c q p h tie = ⊎_elim
    (λ (b : distance (value q) c < distance (value p) c). inl b)
    (λ (b : distance (value p) c ≤ distance (value q) c). let e : distance (value q) c ≡ distance (value p) c = omega arith in inr (e, tie e))
    (cases_lt (distance (value q) c) (distance (value p) c))

gap_of : (m : ℕ → ℕ) (c q p : ℕ) → ComesBefore m c q p → (gap (m q) c ≤ gap (m p) c) × (gap (m q) c ≡ gap (m p) c → q ≤ p)
gap_of m c q p (inl b) = (omega arith, λ e. absurd (omega arith))
gap_of m c q p (inr b) = (omega (arith, b.0), λ e. b.1)

pub nearest_pos : (intra : Bool) (step c q : ℕ) → 0 < c → q ≤ 2047
    → ((p : ℕ) → p ≤ 2047 → ComesBefore (λ n. min (value_size (oddness intra) step n) 2047) (min c 2047) q p)
    → IsNearestOf (scaled_value intra step) IsLevel (pos c) (pos q)
nearest_pos intra step c q hc hq nearest = record { level = (omega (arith, ints), omega (arith, ints)); first = λ p h. first p h.0 h.1 }
  where
    dist_pos : (n : ℕ) → distance (scaled_value intra step (pos n)) (pos c) ≡ gap (min (value_size (oddness intra) step n) 2047) (min c 2047) + (c - 2047)
    dist_pos n = rw (value_pos intra step n) (from_pos (min (value_size (oddness intra) step n) 2047) c (omega arith))

    dist_neg : (n : ℕ) → distance (scaled_value intra step (negsuc n)) (pos c) ≡ min (value_size (oddness intra) step (suc n)) 2048 + c
    dist_neg n = rw (value_neg intra step n) (apart (min (value_size (oddness intra) step (suc n)) 2048) c)

    first : (p : ℤ) → negsuc 2046 ≤ℤ p → p ≤ℤ pos 2047 → IsPreferred (scaled_value intra step) (pos c) (pos q) p
    first (pos n) l h =
        let fits : n ≤ 2047 = omega (arith, ints) in
        let b = gap_of (λ n. min (value_size (oddness intra) step n) 2047) (min c 2047) q n (nearest n fits) in
        preferred (scaled_value intra step) (pos c) (pos q) (pos n) (omega (arith, dist_pos q, dist_pos n, b.0))
        (λ e. let le : q ≤ n = b.1 (omega (arith, dist_pos q, dist_pos n, e)) in
        ⊎_elim (λ (s : q < n). inl s) (λ (s : n ≤ q). inr (omega arith, omega (arith, ints))) (cases_lt q n))
    first (negsuc n) l h =
        let b = gap_of (λ n. min (value_size (oddness intra) step n) 2047) (min c 2047) q 0 (nearest 0 (omega arith)) in
        let none = none_size (oddness intra) step in
        preferred (scaled_value intra step) (pos c) (pos q) (negsuc n) (omega (arith, dist_pos q, dist_neg n, b.0))
        (λ e. let le : q ≤ 0 = b.1 (omega (arith, dist_pos q, dist_neg n, e, b.0)) in inl (omega arith))

pub nearest_neg : (intra : Bool) (step c q : ℕ) → 0 < c → q ≤ 2047
    → ((p : ℕ) → p ≤ 2047 → ComesBefore (λ n. min (value_size (oddness intra) step n) 2048) (min c 2048) q p)
    → IsNearestOf (scaled_value intra step) IsLevel (neg_ℤ (pos c)) (neg_ℤ (pos q))
nearest_neg intra step c q hc hq nearest = record { level = (omega (arith, ints), omega (arith, ints)); first = λ p h. first p h.0 h.1 }
  where
    dist_neg : (n : ℕ) → distance (scaled_value intra step (neg_ℤ (pos n))) (neg_ℤ (pos c)) ≡ gap (min (value_size (oddness intra) step n) 2048) (min c 2048) + (c - 2048)
    dist_neg n = rw (value_of_neg intra step n) (from_neg (min (value_size (oddness intra) step n) 2048) c (omega arith))

    dist_pos : (n : ℕ) → distance (scaled_value intra step (pos n)) (neg_ℤ (pos c)) ≡ min (value_size (oddness intra) step n) 2047 + c
    dist_pos n = rw (value_pos intra step n) (apart' (min (value_size (oddness intra) step n) 2047) c)

    first : (p : ℤ) → negsuc 2046 ≤ℤ p → p ≤ℤ pos 2047 → IsPreferred (scaled_value intra step) (neg_ℤ (pos c)) (neg_ℤ (pos q)) p
    first (negsuc n) l h =
        let fits : suc n ≤ 2047 = omega (arith, ints) in
        let b = gap_of (λ n. min (value_size (oddness intra) step n) 2048) (min c 2048) q (suc n) (nearest (suc n) fits) in
        preferred (scaled_value intra step) (neg_ℤ (pos c)) (neg_ℤ (pos q)) (negsuc n) (omega (arith, dist_neg q, dist_neg (suc n), b.0))
        (λ e. let le : q ≤ suc n = b.1 (omega (arith, dist_neg q, dist_neg (suc n), e)) in
        ⊎_elim (λ (s : q < suc n). inl (omega (arith, ints))) (λ (s : suc n ≤ q). inr (omega (arith, ints), omega (arith, ints))) (cases_lt q (suc n)))
    first (pos n) l h =
        let b = gap_of (λ n. min (value_size (oddness intra) step n) 2048) (min c 2048) q 0 (nearest 0 (omega arith)) in
        let none = none_size (oddness intra) step in
        preferred (scaled_value intra step) (neg_ℤ (pos c)) (neg_ℤ (pos q)) (pos n) (omega (arith, dist_neg q, dist_pos n, b.0))
        (λ e. let le : q ≤ 0 = b.1 (omega (arith, dist_neg q, dist_pos n, e, b.0)) in
        ⊎_elim (λ (s : 0 < n). inl (omega (arith, ints))) (λ (s : n ≤ 0). inr (omega (arith, ints), omega (arith, ints))) (cases_lt 0 n))

pub nearest_zero : (intra : Bool) (step : ℕ) → IsNearestOf (scaled_value intra step) IsLevel (pos 0) (pos 0)
nearest_zero intra step = record { level = (omega (arith, ints), omega (arith, ints)); first = λ p h. first p h.0 h.1 }
  where
    none : scaled_value intra step (pos 0) ≡ pos 0
    none = value_pos intra step 0 ∙ rw (none_size (oddness intra) step) refl

    first : (p : ℤ) → negsuc 2046 ≤ℤ p → p ≤ℤ pos 2047 → IsPreferred (scaled_value intra step) (pos 0) (pos 0) p
    first (pos zero) l h = inr (refl, inr (refl, omega (arith, ints)))
    first (pos (suc n)) l h = preferred (scaled_value intra step) (pos 0) (pos 0) (pos (suc n)) (rw none (omega (arith, ints))) (λ e. inl (omega arith))
    first (negsuc n) l h = preferred (scaled_value intra step) (pos 0) (pos 0) (negsuc n) (rw none (omega (arith, ints))) (λ e. inl (omega arith))

-- by the sign of the coefficient
pub nearest_signed : (intra : Bool) (step : ℕ) (c : ℤ) (q : ℕ) → c ≢ pos 0 → q ≤ 2047
    → ((p : ℕ) → p ≤ 2047 → ComesBefore (λ n. min (value_size (oddness intra) step n) (cond (negative c) 2048 2047)) (min (unsigned_abs c) (cond (negative c) 2048 2047)) q p)
    → IsNearestOf (scaled_value intra step) IsLevel c (cond (negative c) (neg_ℤ (pos q)) (pos q))
nearest_signed intra step (pos zero) q none h nearest = absurd (none refl)
nearest_signed intra step (pos (suc c)) q none h nearest = nearest_pos intra step (suc c) q (omega arith) h nearest
nearest_signed intra step (negsuc c) q none h nearest = nearest_neg intra step (suc c) q (omega arith) h nearest
