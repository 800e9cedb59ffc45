-- The nearest level's value lies within half of a gap.
use Rattle.std.proofs.Common.{◌≡◌, ℕ, zero, suc, ◌+◌, ◌-◌, ◌*◌, ◌/◌, ◌%◌, ◌^◌, ◌<◌, ◌≤◌, min, Bool, true, false, ℤ, pos, negsuc, neg_ℤ, unsigned_abs, arith, refl, sym, ap, ◌∙◌, ⊎_elim, ◌⊎◌, inl, inr}
use Rattle.std.proofs.Math.Nat.{div-add-mod', mod-lt, mul-le-mul_right}
use Rattle.std.proofs.lemmas.Int.{ints, clamps}
use Rattle.std.proofs.lemmas.Bool.{cases_lt}
use Rattle.mv_terms.specs.Ranges.{IsLevel}
use Rattle.mv_quant.specs.declared.Kind.{Kind}
use Rattle.mv_quant.specs.Dequantised.{value_of, step_at, is_first_of_intra}
use Rattle.mv_quant.specs.Nearest.{distance, nearest_level}
use Rattle.mv_quant.specs.Steps.{value_size, scaled_value, dc_value, dc_size, IsNearestOf}
use Rattle.mv_quant.proofs.OrderLemmas.{no_farther, nearest_same}
use Rattle.mv_quant.proofs.SizeLemmas.{size_grows, none_size, some_size}
use Rattle.mv_quant.proofs.NearestLemmas.{value_scaled, other_is_nearest, dc_is, value_dc, dc_value_8, dc_value_4, dc_value_2, dc_value_1, dc_of_positive, dc_size_0, dc_size_1, dc_size_2, dc_size_3}
use Rattle.mv_quant.proofs.SignLemmas.{value_pos, value_of_neg}
use Rattle.mv_quant.specs.Half.{NearestIsWithinHalf, OtherIsWithinHalf, FirstIsWithinHalf}

even_size : (step n : ℕ) → value_size 0 step n ≡ 2 * n * step / 32
unfolding value_size
even_size step zero = omega arith
even_size step (suc n) = ap (λ (m : ℕ). m * step / 32) (omega arith)

-- a level whose value is close to n
record IsClose (step n q : ℕ) : Type 0 where
  pub fits : q ≤ 2047
  pub below : value_size 0 step q ≤ n + (step + 15) / 32
  pub above : n ≤ value_size 0 step q + (step + 15) / 32

-- the greatest level whose value is at most n, and the next one
around : (step n : ℕ) → 16 ≤ step → n ≤ 2047 → (q : ℕ) × IsClose step n q
around step n h k =
    let low : ℕ = (16 * n + 15) / step in
    let split = div-add-mod' (16 * n + 15) step in
    let some : 0 < step = omega arith in
    let rest = mod-lt (16 * n + 15) some in
    let value = even_size step low in
    let next = even_size step (low + 1) in
    let most : value_size 0 step low ≤ n = omega (arith, split, value) in
    let over : n < value_size 0 step (low + 1) = omega (arith, split, rest, next) in
    let apart : value_size 0 step (low + 1) ≤ value_size 0 step low + (step + 15) / 16 = omega (arith, value, next) in
    ⊎_elim
    (λ (l : low < 2047). ⊎_elim
    (λ (b : value_size 0 step low + (step + 15) / 32 < n). (low + 1, record { fits = omega arith; below = omega (arith, over, apart, b); above = omega (arith, over) }))
    (λ (b : n ≤ value_size 0 step low + (step + 15) / 32). (low, record { fits = omega arith; below = omega (arith, most); above = b }))
    (cases_lt (value_size 0 step low + (step + 15) / 32) n))
    (λ (l : 2047 ≤ low).
    let grows = size_grows 0 step 2047 low l in
    let top = even_size step 2047 in
    (2047, record { fits = omega arith; below = omega (arith, grows, most); above = omega (arith, top) }))
    (cases_lt low 2047)

scaled_is_close : (step : ℕ) (c q : ℤ) → 16 ≤ step → unsigned_abs c ≤ 2047 → IsNearestOf (scaled_value true step) IsLevel c q → distance (scaled_value true step q) c ≤ (step + 15) / 32
scaled_is_close step (pos n) q h k w = by (around step n h k)
  where
    by : (a : ((q : ℕ) × IsClose step n q)) → distance (scaled_value true step q) (pos n) ≤ (step + 15) / 32
    by (a, close) =
        let fits = close.fits in
        let value = value_pos true step a in
        let first = no_farther (scaled_value true step) (pos n) q (pos a) (w.first (pos a) (omega (arith, ints), omega (arith, ints))) in
        let d : distance (scaled_value true step (pos a)) (pos n) ≡ distance (pos (min (value_size 0 step a) 2047)) (pos n) = ap (λ (z : ℤ). distance z (pos n)) value in
        omega (arith, ints, close.below, close.above, first, d)
scaled_is_close step (negsuc n) q h k w = by (around step (suc n) h k)
  where
    by : (a : ((q : ℕ) × IsClose step (suc n) q)) → distance (scaled_value true step q) (negsuc n) ≤ (step + 15) / 32
    by (a, close) =
        let fits = close.fits in
        let value = value_of_neg true step a in
        let first = no_farther (scaled_value true step) (negsuc n) q (neg_ℤ (pos a)) (w.first (neg_ℤ (pos a)) (omega (arith, ints), omega (arith, ints))) in
        let d : distance (scaled_value true step (neg_ℤ (pos a))) (negsuc n) ≡ distance (neg_ℤ (pos (min (value_size 0 step a) 2048))) (negsuc n) = ap (λ (z : ℤ). distance z (negsuc n)) value in
        omega (arith, ints, close.below, close.above, first, d)

pub nearest_is_within_half : NearestIsWithinHalf
nearest_is_within_half kind v u c intra other h k =
    let step : ℕ = step_at kind (8 * v + u) in
    let q : ℤ = nearest_level kind v u c in
    let w = other_is_nearest kind v u c other in
    let same : (p : ℤ) → value_of kind v u p ≡ scaled_value true step p = λ p. value_scaled kind v u p other ∙ ap (λ (b : Bool). scaled_value b step p) intra in
    let n : IsNearestOf (scaled_value true step) IsLevel c q = nearest_same (value_of kind v u) (scaled_value true step) IsLevel IsLevel c q same (λ p l. l) (λ p l. l) w in
    rw (same q) (scaled_is_close step c q h k n)

-- ---- other blocks

record IsCloseOther (step n q : ℕ) : Type 0 where
  pub fits : q ≤ 2047
  pub below : value_size 1 step q ≤ n + (3 * step + 30) / 64
  pub above : n ≤ value_size 1 step q + (3 * step + 30) / 64

around_other : (step n : ℕ) → 16 ≤ step → n ≤ 2047 → (q : ℕ) × IsCloseOther step n q
around_other step n h k =
    let most : ℕ = (32 * n + 31) / step in
    let split = div-add-mod' (32 * n + 31) step in
    let some : 0 < step = omega arith in
    let rest = mod-lt (32 * n + 31) some in
    let none = none_size 1 step in
    ⊎_elim
    (λ (few : most < 3).
    let up = some_size 1 step 1 (omega arith) in
    let over : 32 * n + 31 < 3 * step = omega (arith, split, rest, mul-le-mul_right step (few_more most few)) in
    ⊎_elim
    (λ (b : 2 * n ≤ value_size 1 step 1). (0, record { fits = omega arith; below = omega (arith, none); above = omega (arith, up, b) }))
    (λ (b : value_size 1 step 1 < 2 * n). (1, record { fits = omega arith; below = omega (arith, up, over, b); above = omega (arith, up, over) }))
    (cases_le (2 * n) (value_size 1 step 1)))
    (λ (many : 3 ≤ most).
    let low : ℕ = (most - 1) / 2 in
    let at = some_size 1 step low (omega arith) in
    let next = some_size 1 step (low + 1) (omega arith) in
    let less : (2 * low + 1) * step ≤ most * step = mul-le-mul_right step (omega arith) in
    let more : (most + 1) * step ≤ (2 * (low + 1) + 1) * step = mul-le-mul_right step (omega arith) in
    let below' : value_size 1 step low ≤ n = omega (arith, split, at, less) in
    let over : n < value_size 1 step (low + 1) = omega (arith, split, rest, next, more) in
    let apart : value_size 1 step (low + 1) ≤ value_size 1 step low + (step + 15) / 16 = omega (arith, at, next) in
    ⊎_elim
    (λ (l : low < 2047). ⊎_elim
    (λ (b : value_size 1 step low + (3 * step + 30) / 64 < n). (low + 1, record { fits = omega arith; below = omega (arith, over, apart, b); above = omega (arith, over) }))
    (λ (b : n ≤ value_size 1 step low + (3 * step + 30) / 64). (low, record { fits = omega arith; below = omega (arith, below'); above = b }))
    (cases_lt (value_size 1 step low + (3 * step + 30) / 64) n))
    (λ (l : 2047 ≤ low).
    let grows = size_grows 1 step 2047 low l in
    let top = some_size 1 step 2047 (omega arith) in
    (2047, record { fits = omega arith; below = omega (arith, grows, below'); above = omega (arith, top) }))
    (cases_lt low 2047))
    (cases_lt most 3)
  where
    few_more : (m : ℕ) → m < 3 → m + 1 ≤ 3
    few_more m l = omega arith

    cases_le : (a b : ℕ) → (a ≤ b) ⊎ (b < a)
    cases_le a b = ⊎_elim (λ (l : b < a). inr l) (λ (l : a ≤ b). inl l) (cases_lt b a)

other_scaled_close : (step : ℕ) (c q : ℤ) → 16 ≤ step → unsigned_abs c ≤ 2047 → IsNearestOf (scaled_value false step) IsLevel c q → distance (scaled_value false step q) c ≤ (3 * step + 30) / 64
other_scaled_close step (pos n) q h k w = by (around_other step n h k)
  where
    by : (a : ((q : ℕ) × IsCloseOther step n q)) → distance (scaled_value false step q) (pos n) ≤ (3 * step + 30) / 64
    by (a, close) =
        let fits = close.fits in
        let value = value_pos false step a in
        let first = no_farther (scaled_value false step) (pos n) q (pos a) (w.first (pos a) (omega (arith, ints), omega (arith, ints))) in
        let d : distance (scaled_value false step (pos a)) (pos n) ≡ distance (pos (min (value_size 1 step a) 2047)) (pos n) = ap (λ (z : ℤ). distance z (pos n)) value in
        omega (arith, ints, close.below, close.above, first, d)
other_scaled_close step (negsuc n) q h k w = by (around_other step (suc n) h k)
  where
    by : (a : ((q : ℕ) × IsCloseOther step (suc n) q)) → distance (scaled_value false step q) (negsuc n) ≤ (3 * step + 30) / 64
    by (a, close) =
        let fits = close.fits in
        let value = value_of_neg false step a in
        let first = no_farther (scaled_value false step) (negsuc n) q (neg_ℤ (pos a)) (w.first (neg_ℤ (pos a)) (omega (arith, ints), omega (arith, ints))) in
        let d : distance (scaled_value false step (neg_ℤ (pos a))) (negsuc n) ≡ distance (neg_ℤ (pos (min (value_size 1 step a) 2048))) (negsuc n) = ap (λ (z : ℤ). distance z (negsuc n)) value in
        omega (arith, ints, close.below, close.above, first, d)

pub other_is_within_half : OtherIsWithinHalf
other_is_within_half kind v u c inter h k =
    let step : ℕ = step_at kind (8 * v + u) in
    let q : ℤ = nearest_level kind v u c in
    let other : is_first_of_intra kind v u ≡ false = rw inter refl in
    let w = other_is_nearest kind v u c other in
    let same : (p : ℤ) → value_of kind v u p ≡ scaled_value false step p = λ p. value_scaled kind v u p other ∙ ap (λ (b : Bool). scaled_value b step p) inter in
    let n : IsNearestOf (scaled_value false step) IsLevel c q = nearest_same (value_of kind v u) (scaled_value false step) IsLevel IsLevel c q same (λ p l. l) (λ p l. l) w in
    rw (same q) (other_scaled_close step c q h k n)

-- ---- the first level of an intra block

near : (a c m : ℕ) (z : ℤ) → z ≡ pos a → 2 * a ≤ 2 * c + m → 2 * c ≤ 2 * a + m → 2 * distance z (pos c) ≤ m
near a c m z e low high = rw e (omega (arith, ints))

dc_close : (precision c : ℕ) → precision ≤ 3 → c ≤ 2040 → 2 * distance (dc_value precision (pos (dc_size precision c))) (pos c) ≤ 8 / 2 ^ precision
dc_close zero c h k = rw (dc_size_0 c) (near (8 * min ((2 * c + 7) / 16) 255) c 8 _ (dc_value_8 (min ((2 * c + 7) / 16) 255) (omega arith)) (omega arith) (omega arith))
dc_close (suc zero) c h k = rw (dc_size_1 c) (near (4 * min ((2 * c + 3) / 8) 511) c 4 _ (dc_value_4 (min ((2 * c + 3) / 8) 511) (omega arith)) (omega arith) (omega arith))
dc_close (suc (suc zero)) c h k = rw (dc_size_2 c) (near (2 * min ((2 * c + 1) / 4) 1023) c 2 _ (dc_value_2 (min ((2 * c + 1) / 4) 1023) (omega arith)) (omega arith) (omega arith))
dc_close (suc (suc (suc zero))) c h k = rw (dc_size_3 c) (near (1 * min c 2047) c 1 _ (dc_value_1 (min c 2047) (omega arith)) (omega arith) (omega arith))
dc_close (suc (suc (suc (suc p)))) c h k = absurd (omega arith)

pub first_is_within_half : FirstIsWithinHalf
first_is_within_half kind c intra precision k =
    let first : is_first_of_intra kind 0 0 ≡ true = rw intra refl in
    let level = dc_is kind 0 0 (pos c) (pos (dc_size kind.dc_precision c)) first (dc_of_positive kind.dc_precision c precision) in
    let value : value_of kind 0 0 (nearest_level kind 0 0 (pos c)) ≡ dc_value kind.dc_precision (pos (dc_size kind.dc_precision c)) =
    ap (value_of kind 0 0) (sym level) ∙ value_dc kind 0 0 (pos (dc_size kind.dc_precision c)) first in
    rw value (dc_close kind.dc_precision c precision k)
