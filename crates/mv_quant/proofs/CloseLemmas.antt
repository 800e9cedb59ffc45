-- The values of levels lie apart: what is close to one of them has its level.
use Rattle.std.proofs.Common.{◌≡◌, ℕ, zero, suc, ◌+◌, ◌*◌, ◌/◌, ◌<◌, ◌≤◌, min, Bool, true, ℤ, pos, negsuc, neg_ℤ, unsigned_abs, arith, refl, sym, ap, ◌∙◌, ⊎_elim}
use Rattle.std.proofs.Math.Nat.{div-add-mod', mod-lt, mul-le-mul_right}
use Rattle.std.proofs.lemmas.Int.{ints}
use Rattle.std.proofs.lemmas.Bool.{cases_lt}
use Rattle.mv_quant.specs.Steps.{value_size, scaled_value, oddness, gap, IsNearestOf}
use Rattle.mv_quant.specs.Nearest.{distance, nearest_level, CloseIsNearest}
use Rattle.mv_terms.specs.Ranges.{IsLevel}
use Rattle.mv_quant.specs.Dequantised.{value_of, step_at}
use Rattle.mv_quant.proofs.SizeLemmas.{close_size, sizes_apart, none_size}
use Rattle.mv_quant.proofs.OrderLemmas.{no_farther, nearest_same}
use Rattle.mv_quant.proofs.NearestLemmas.{level_is, value_scaled, other_is_nearest}
use Rattle.mv_quant.proofs.SignLemmas.{value_pos, value_neg, value_of_neg, nearest_pos, nearest_neg, nearest_zero}

at_zero : (intra : Bool) (step n : ℕ) → 2 * value_size (oddness intra) step n < step / 16 → n ≡ 0
at_zero intra step zero h = refl
at_zero intra step (suc n) h = absurd (omega (arith, sizes_apart (oddness intra) step 0 (suc n) (omega arith)))

dist_pos : (a c : ℕ) → distance (pos a) (pos c) ≡ gap a c
dist_pos a c = omega (arith, ints)

dist_across : (a c : ℕ) → distance (pos a) (negsuc c) ≡ a + suc c
dist_across a c = omega (arith, ints)

dist_back : (a c : ℕ) → distance (neg_ℤ (pos a)) (pos c) ≡ a + c
dist_back a c = omega (arith, ints)

dist_neg : (a c : ℕ) → distance (neg_ℤ (pos a)) (negsuc c) ≡ gap a (suc c)
dist_neg a c = omega (arith, ints)

size_neg : (a : ℕ) → unsigned_abs (neg_ℤ (pos a)) ≡ a
size_neg a = omega (arith, ints)

pub close_nearest : (intra : Bool) (step : ℕ) (level c : ℤ) → IsLevel level → 2 * distance (scaled_value intra step level) c < step / 16 → unsigned_abs (scaled_value intra step level) + step / 16 ≤ 2047
    → IsNearestOf (scaled_value intra step) IsLevel c level
close_nearest intra step (pos n) (pos zero) l near room =
    let e = value_pos intra step n in
    let near' : 2 * distance (pos (min (value_size (oddness intra) step n) 2047)) (pos 0) < step / 16 = rw e at near in
    let room' : min (value_size (oddness intra) step n) 2047 + step / 16 ≤ 2047 = rw e at room in
    let none : n ≡ 0 = at_zero intra step n (omega (arith, dist_pos (min (value_size (oddness intra) step n) 2047) 0)) in
    rw none (nearest_zero intra step)
close_nearest intra step (pos n) (pos (suc t)) l near room =
    let e = value_pos intra step n in
    let near' : 2 * distance (pos (min (value_size (oddness intra) step n) 2047)) (pos (suc t)) < step / 16 = rw e at near in
    let room' : min (value_size (oddness intra) step n) 2047 + step / 16 ≤ 2047 = rw e at room in
    let d = dist_pos (min (value_size (oddness intra) step n) 2047) (suc t) in
    let whole : min (value_size (oddness intra) step n) 2047 ≡ value_size (oddness intra) step n = omega arith in
    let cut : min (suc t) 2047 ≡ suc t = omega (arith, d) in
    nearest_pos intra step (suc t) n (omega arith) (omega (arith, ints, l.1))
    (rw cut (close_size (oddness intra) step 2047 n (suc t) (omega (arith, d, whole)) (omega (arith, whole))))
close_nearest intra step (pos n) (negsuc t) l near room =
    let e = value_pos intra step n in
    let near' : 2 * distance (pos (min (value_size (oddness intra) step n) 2047)) (negsuc t) < step / 16 = rw e at near in
    let room' : min (value_size (oddness intra) step n) 2047 + step / 16 ≤ 2047 = rw e at room in
    let d = dist_across (min (value_size (oddness intra) step n) 2047) t in
    let none : n ≡ 0 = at_zero intra step n (omega (arith, d)) in
    let zero_raw = none_size (oddness intra) step in
    let cut : min (suc t) 2048 ≡ suc t = omega (arith, d) in
    rw none (nearest_neg intra step (suc t) 0 (omega arith) (omega arith)
    (rw cut (close_size (oddness intra) step 2048 0 (suc t) (omega (arith, d, zero_raw)) (omega (arith, zero_raw)))))
close_nearest intra step (negsuc n) (pos t) l near room =
    let e = value_neg intra step n in
    let near' : 2 * distance (neg_ℤ (pos (min (value_size (oddness intra) step (suc n)) 2048))) (pos t) < step / 16 = rw e at near in
    let room' : unsigned_abs (neg_ℤ (pos (min (value_size (oddness intra) step (suc n)) 2048))) + step / 16 ≤ 2047 = rw e at room in
    let d = dist_back (min (value_size (oddness intra) step (suc n)) 2048) t in
    let s = size_neg (min (value_size (oddness intra) step (suc n)) 2048) in
    let never : suc n ≡ 0 = at_zero intra step (suc n) (omega (arith, d, s)) in
    absurd (omega (arith, never))
close_nearest intra step (negsuc n) (negsuc t) l near room =
    let e = value_neg intra step n in
    let near' : 2 * distance (neg_ℤ (pos (min (value_size (oddness intra) step (suc n)) 2048))) (negsuc t) < step / 16 = rw e at near in
    let room' : unsigned_abs (neg_ℤ (pos (min (value_size (oddness intra) step (suc n)) 2048))) + step / 16 ≤ 2047 = rw e at room in
    let d = dist_neg (min (value_size (oddness intra) step (suc n)) 2048) t in
    let s = size_neg (min (value_size (oddness intra) step (suc n)) 2048) in
    let whole : min (value_size (oddness intra) step (suc n)) 2048 ≡ value_size (oddness intra) step (suc n) = omega (arith, s) in
    let cut : min (suc t) 2048 ≡ suc t = omega (arith, d, s) in
    nearest_neg intra step (suc t) (suc n) (omega arith) (omega (arith, ints, l.0))
    (rw cut (close_size (oddness intra) step 2048 (suc n) (suc t) (omega (arith, d, whole)) (omega (arith, whole, s))))

pub close_is_nearest : CloseIsNearest
close_is_nearest kind v u level c other l near room =
    let e = value_scaled kind v u level other in
    sym (level_is kind v u c level other (close_nearest kind.intra (step_at kind (8 * v + u)) level c l (rw e at near) (rw e at room)))
