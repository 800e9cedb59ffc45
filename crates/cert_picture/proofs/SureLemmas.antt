-- When the levels of a decoded block are the nearest ones again.
use Rattle.std.proofs.Common.{◌≡◌, ◌≢◌, ◌∙◌, ℕ, zero, suc, ◌+◌, ◌*◌, ◌/◌, ◌^◌, ◌<◌, ◌≤◌, ◌-◌, min, max, ltb, Bool, true, false, ◌&&◌, nat_eq, List, ℤ, pos, negsuc, neg_ℤ, ◌+ℤ◌, ◌-ℤ◌, ◌*ℤ◌, ◌≤ℤ◌, ◌<ℤ◌, unsigned_abs, refl, sym, ap, arith, add-one}
use Rattle.std.specs.Prelude.{slice_index}
use Rattle.std.specs.Int.{int_shr}
use Rattle.std.proofs.lemmas.Int.{ints}
use Rattle.std.proofs.lemmas.Bool.{ltb-true}
use Rattle.std.proofs.lemmas.Bool.Decides.{nat_tests}
use Rattle.std.proofs.Math.Nat.{mul-le-mul, mul-le-mul_right}
use Rattle.mv_terms.specs.Block.{item, entry}
use Rattle.mv_terms.specs.Sums.{sum_below, total_below}
use Rattle.mv_terms.proofs.SumLemmas.{sum_below_same}
use Rattle.mv_transform.specs.Transform.{forward_at, rounded}
use Rattle.mv_transform.proofs.BackLemmas.{first_is_sum}
use Rattle.mv_quant.specs.declared.Kind.{Kind}
use Rattle.mv_quant.specs.Dequantised.{value_of, is_first_of_intra, step_at}
use Rattle.mv_quant.specs.Macroblocks.{is_absent}
use Rattle.mv_quant.specs.Nearest.{nearest_level}
use Rattle.mv_quant.specs.Steps.{value_size, scaled_value, oddness, dc_size}
use Rattle.mv_quant.proofs.SizeLemmas.{some_size, none_size}
use Rattle.mv_quant.proofs.SignLemmas.{value_pos, value_neg}
use Rattle.mv_quant.proofs.NearestLemmas.{value_scaled, dc_is, dc_of_positive, dc_size_0, dc_size_1, dc_size_2, dc_size_3}
use Rattle.cert_requant.specs.Stays.{reach, found_level}
use Rattle.cert_requant.proofs.StaysLaws.{present_stays}
use Rattle.cert_picture.specs.Steps.{reach_at, AreApart, AreUpTo, StandAlone, StaysFound, IsDecodedFrom, first_coefficient, sample_at, total_of}

-- ---- sums

pub total_none : (f : ℕ → ℕ) → total_below 0 f ≡ 0
unfolding total_below
total_none f = refl

pub total_more : (n : ℕ) (f : ℕ → ℕ) → total_below (n + 1) f ≡ total_below n f + f n
unfolding total_below
total_more n f = rw add-one refl

sum_of_total : (n : ℕ) (f : ℕ → ℕ) → sum_below n (λ k. pos (f k)) ≡ pos (total_below n f)
unfolding sum_below total_below
sum_of_total zero f = refl
sum_of_total (suc n) f = rw (sum_of_total n f) (omega (arith, ints))

sum_of_block : (samples : List ℕ) (f : ℕ → ℕ → ℤ) → ((y x : ℕ) → y < 8 → x < 8 → f y x ≡ pos (sample_at samples y x)) → sum_below 8 (λ y. sum_below 8 (f y)) ≡ pos (total_of samples)
sum_of_block samples f same =
    sum_below_same 8 (λ y. sum_below 8 (f y)) (λ y. pos (total_below 8 (sample_at samples y)))
    (λ y h. sum_below_same 8 (f y) (λ x. pos (sample_at samples y x)) (λ x k. same y x h k) ∙ sum_of_total 8 (sample_at samples y))
    ∙ sum_of_total 8 (λ y. total_below 8 (sample_at samples y))

shifted : (t : ℕ) (z : ℤ) → z ≡ pos (8386816 * t + 2 ^ 25) → int_shr z 26 ≡ pos (first_coefficient t)
shifted t z e = rw e refl

first_of_sum : (t : ℕ) (s : ℤ) → s ≡ pos t → rounded (pos 8386816 *ℤ s) ≡ pos (first_coefficient t)
first_of_sum t s e = shifted t (pos 8386816 *ℤ s +ℤ pos (2 ^ 25)) (omega (arith, ints, e))

-- ---- the first level of an intra block

near_first : (precision size c value multiplier : ℕ) → precision ≤ 3 → size < 2 ^ (8 + precision) → value ≡ 8 / 2 ^ precision * size → multiplier ≡ 8 / 2 ^ precision → 2 * (max value c - min value c) < multiplier → dc_size precision c ≡ size
near_first zero size c value multiplier h top v m near = dc_size_0 c ∙ omega (arith, near, top, v, m)
near_first (suc zero) size c value multiplier h top v m near = dc_size_1 c ∙ omega (arith, near, top, v, m)
near_first (suc (suc zero)) size c value multiplier h top v m near = dc_size_2 c ∙ omega (arith, near, top, v, m)
near_first (suc (suc (suc zero))) size c value multiplier h top v m near = dc_size_3 c ∙ omega (arith, near, top, v, m)
near_first (suc (suc (suc (suc p)))) size c value multiplier h top v m near = absurd (omega (arith, h))

pub first_is_near : (precision size coefficient multiplier widened high low : ℕ) → precision ≤ 3 → multiplier ≡ 8 / 2 ^ precision → widened ≡ size
    → high ≡ max (multiplier * widened) coefficient → low ≡ min (multiplier * widened) coefficient → ltb (2 * (high - low)) multiplier ≡ true → size < 2 ^ (8 + precision) → dc_size precision coefficient ≡ size
first_is_near precision size coefficient multiplier widened high low h m w hi lo near top =
    let value : multiplier * widened ≡ 8 / 2 ^ precision * size = rw (m, w) refl in
    let close = ltb-true (2 * (high - low)) multiplier near in
    let closer : 2 * (max (multiplier * widened) coefficient - min (multiplier * widened) coefficient) < multiplier = rw (← hi, ← lo) close in
    near_first precision size coefficient (multiplier * widened) multiplier h top value m closer

-- ---- the other levels

size_bound : (odd step m : ℕ) → odd ≤ 1 → 32 * value_size odd step m ≤ (2 * m + 1) * step
size_bound odd step zero h = omega (arith, none_size odd step)
size_bound odd step (suc m) h =
    let e = some_size odd step (suc m) (omega arith) in
    let more : (2 * suc m + odd) * step ≤ (2 * suc m + 1) * step = mul-le-mul_right step (omega (arith, h)) in
    omega (arith, e, more)

oddness_small : (intra : Bool) → oddness intra ≤ 1
oddness_small true = omega arith
oddness_small false = omega arith

scaled_bound : (intra : Bool) (step : ℕ) (level : ℤ) → 32 * unsigned_abs (scaled_value intra step level) ≤ (2 * unsigned_abs level + 1) * step
scaled_bound intra step (pos n) =
    let b = size_bound (oddness intra) step n (oddness_small intra) in
    let e : unsigned_abs (scaled_value intra step (pos n)) ≡ min (value_size (oddness intra) step n) 2047 = ap unsigned_abs (value_pos intra step n) in
    omega (arith, b, e)
scaled_bound intra step (negsuc n) =
    let b = size_bound (oddness intra) step (suc n) (oddness_small intra) in
    let e : unsigned_abs (scaled_value intra step (negsuc n)) ≡ unsigned_abs (neg_ℤ (pos (min (value_size (oddness intra) step (suc n)) 2048))) = ap unsigned_abs (value_neg intra step n) in
    let a : unsigned_abs (neg_ℤ (pos (min (value_size (oddness intra) step (suc n)) 2048))) ≡ min (value_size (oddness intra) step (suc n)) 2048 = omega (arith, ints) in
    omega (arith, b, e, a)

fits : (a s m step n : ℕ) → 32 * a ≤ (2 * m + 1) * s → s ≤ step → m ≤ n → (2 * n + 3) * step ≤ 65504 → a + s / 16 ≤ 2047
fits a s m step n h below small top =
    let more : (2 * m + 1) * s ≤ (2 * n + 1) * step = mul-le-mul (omega (arith, small)) below in
    omega (arith, h, more, below, top)

pub not_first : (kind : Kind) (v u : ℕ) → is_first_of_intra kind v u ≡ false → kind.intra ≡ true → 8 * v + u ≢ 0
not_first kind v u other intra none =
    let a : v ≡ 0 = omega (arith, none) in
    let b : u ≡ 0 = omega (arith, none) in
    let c : true ≡ false = sym (rw (intra, a, b) refl) ∙ other in
    cc

reach_same : (v u : ℕ) → v < 8 → u < 8 → reach v u ≤ reach_at (8 * v + u)
reach_same v u h k = grind (arith, nat_tests)

pub stand_alone : (kind : Kind) (step size : ℕ) → ((k : ℕ) → k < 64 → step_at kind k ≤ step) → AreApart kind → (2 * size + 3) * step ≤ 65504 → StandAlone kind size
stand_alone kind step size above apart top v u hv hu other level legal small =
    let k : ℕ = 8 * v + u in
    let lt : k < 64 = omega arith in
    let far = apart k lt (not_first kind v u other) in
    let r = reach_same v u hv hu in
    let value : unsigned_abs (value_of kind v u level) ≡ unsigned_abs (scaled_value kind.intra (step_at kind k) level) = ap unsigned_abs (value_scaled kind v u level other) in
    let room = fits (unsigned_abs (scaled_value kind.intra (step_at kind k) level)) (step_at kind k) (unsigned_abs level) step size (scaled_bound kind.intra (step_at kind k) level) (above k lt) small top in
    record {
      other = other;
      legal = legal;
      apart = omega (arith, far, r);
      room = omega (arith, value, room);
    }

-- ---- a block

pub natural : (z : ℤ) (top : ℕ) → pos 0 ≤ℤ z → z <ℤ pos top → (unsigned_abs z < top) × (z ≡ pos (unsigned_abs z))
natural z top h k = (omega (arith, ints, h, k), omega (arith, ints, h, k))

pub zeros_of : (intra : Bool) (v u : ℕ) → (intra && (nat_eq v 0 && nat_eq u 0)) ≡ true → (v ≡ 0) × (u ≡ 0)
zeros_of true zero zero h = (refl, refl)
zeros_of true zero (suc u) h = absurd (grind (arith, nat_tests))
zeros_of true (suc v) u h = absurd (grind (arith, nat_tests))
zeros_of false v u h = absurd cc

-- the first level of an intra block whose size is the nearest one
pub first_is_level : (kind : Kind) (level : ℤ) (size c : ℕ) → kind.intra ≡ true → kind.dc_precision ≤ 3 → size ≡ unsigned_abs level → (size < 2 ^ (8 + kind.dc_precision) → dc_size kind.dc_precision c ≡ size)
    → (pos 0 ≤ℤ level) × (level <ℤ pos (2 ^ (8 + kind.dc_precision))) → nearest_level kind 0 0 (pos c) ≡ level
first_is_level kind level size c intra precision size_is same d =
    let n = natural level (2 ^ (8 + kind.dc_precision)) d.0 d.1 in
    let is : is_first_of_intra kind 0 0 ≡ true = rw intra refl in
    sym (dc_is kind 0 0 (pos c) (pos (dc_size kind.dc_precision c)) is (dc_of_positive kind.dc_precision c precision))
    ∙ ap pos (same (rw size_is n.0) ∙ size_is)
    ∙ sym n.1

module _ (samples : List ℕ) (levels : List ℤ) (kind : Kind) (size : ℕ) (alone : StandAlone kind size) (present : is_absent kind levels ≡ false)
    (uncut : (k : ℕ) → k < 64 → (0 < slice_index samples k) × (slice_index samples k < 255)) (small : AreUpTo kind.intra levels size) where
  others_stay : (prediction : ℕ → ℕ → ℤ) → IsDecodedFrom kind levels prediction (sample_at samples) → (v u : ℕ) → v < 8 → u < 8 → is_first_of_intra kind v u ≡ false
      → found_level kind prediction (sample_at samples) v u ≡ entry levels v u
  others_stay prediction from v u hv hu other =
      let k : ℕ = 8 * v + u in
      let lt : k < 64 = omega arith in
      present_stays kind levels prediction (sample_at samples) present from.predicted from.decoded
      (λ y x p q. uncut (8 * y + x) (omega arith)) v u hv hu
      (alone v u hv hu other (entry levels v u) (from.legal k lt) (small k lt (not_first kind v u other)))

  pub inter_stays : kind.intra ≡ false → StaysFound kind levels (sample_at samples)
  inter_stays inter prediction from v u hv hu = others_stay prediction from v u hv hu (rw inter refl)

  module _ (first : ℕ) (intra : kind.intra ≡ true) (precision : kind.dc_precision ≤ 3) (first_is : first ≡ unsigned_abs (item levels 0))
      (same : first < 2 ^ (8 + kind.dc_precision) → dc_size kind.dc_precision (first_coefficient (total_of samples)) ≡ first) where
    first_found : (prediction : ℕ → ℕ → ℤ) → IsDecodedFrom kind levels prediction (sample_at samples) → found_level kind prediction (sample_at samples) 0 0 ≡ item levels 0
    first_found prediction from =
        let c : ℕ = first_coefficient (total_of samples) in
        let f : ℕ → ℕ → ℤ = λ y x. pos (sample_at samples y x) -ℤ prediction y x in
        let sum = sum_of_block samples f (λ y x p q. rw (from.intra intra y x p q) (omega (arith, ints))) in
        let coefficient : forward_at f 0 0 ≡ pos c = first_is_sum f ∙ first_of_sum (total_of samples) (sum_below 8 (λ y. sum_below 8 (f y))) sum in
        ap (nearest_level kind 0 0) coefficient ∙ first_is_level kind (item levels 0) first c intra precision first_is same (from.dc intra)

    pub intra_stays : StaysFound kind levels (sample_at samples)
    intra_stays prediction from v u hv hu = by (is_first_of_intra kind v u) refl
      where
        by : (b : Bool) → is_first_of_intra kind v u ≡ b → found_level kind prediction (sample_at samples) v u ≡ entry levels v u
        by true is = let none = zeros_of kind.intra v u is in rw (none.0, none.1) (first_found prediction from)
        by false other = others_stay prediction from v u hv hu other
