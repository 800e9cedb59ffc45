-- The level of a coefficient by its place: the laws of the definition, and the first level of an intra block.
use Rattle.std.proofs.Common.{◌≡◌, ℕ, zero, suc, ◌+◌, ◌-◌, ◌*◌, ◌/◌, ◌^◌, ◌<◌, ◌≤◌, min, Bool, true, false, ℤ, pos, negsuc, ◌≤ℤ◌, ◌<ℤ◌, unsigned_abs, arith, refl, sym, ap, ◌∙◌, ⊎_elim, inl, inr}
use Rattle.std.proofs.lemmas.Int.{ints, clamps}
use Rattle.std.proofs.lemmas.Nat.{pow_pos}
use Rattle.std.proofs.lemmas.Bool.{cases_lt}
use Rattle.mv_terms.specs.Ranges.{IsLevel}
use Rattle.mv_quant.specs.declared.Kind.{Kind}
use Rattle.mv_quant.specs.Dequantised.{value_of, is_first_of_intra, step_at}
use Rattle.mv_quant.specs.Nearest.{distance, first_nearest, nearest_level, CanStand, IsNearest, IsPreferred, NearestIsNearest, OneIsNearest, NearestIsLevel, NearestDcIsInRange}
use Rattle.mv_quant.specs.Steps.{value_size, scaled_value, oddness, ComesBefore, gap, dc_value, dc_size, IsNearestOf, IsUpTo}
use Rattle.mv_quant.proofs.SizeLemmas.{stays_none, dc_8, dc_4, dc_2, dc_1}
use Rattle.mv_quant.proofs.SignLemmas.{nearest_zero, nearest_pos, nearest_neg}
use Rattle.mv_quant.proofs.OrderLemmas.{HasSize, first_of_signed, first_of_unsigned, one_is_nearest, nearest_same}

pub value_scaled : (kind : Kind) (v u : ℕ) (level : ℤ) → is_first_of_intra kind v u ≡ false → value_of kind v u level ≡ scaled_value kind.intra (step_at kind (8 * v + u)) level
unfolding value_of
value_scaled kind v u level h = rw h refl

pub value_dc : (kind : Kind) (v u : ℕ) (level : ℤ) → is_first_of_intra kind v u ≡ true → value_of kind v u level ≡ dc_value kind.dc_precision level
unfolding value_of
value_dc kind v u level h = rw h refl

-- ---- the definition and the relation

pub other_is_nearest : (kind : Kind) (v u : ℕ) (c : ℤ) → is_first_of_intra kind v u ≡ false → IsNearestOf (value_of kind v u) IsLevel c (nearest_level kind v u c)
unfolding nearest_level
other_is_nearest kind v u c h =
    rw h (nearest_same (value_of kind v u) (value_of kind v u) (HasSize 2047) IsLevel c (first_nearest true (value_of kind v u) c 2047) (λ p. refl)
    (λ p l. (omega (arith, ints), omega (arith, ints))) (λ p l. omega (arith, ints, l.0, l.1)) (first_of_signed (value_of kind v u) c 2047))

pub dc_is_nearest : (kind : Kind) (v u : ℕ) (c : ℤ) → is_first_of_intra kind v u ≡ true → IsNearestOf (value_of kind v u) (IsUpTo (2 ^ (8 + kind.dc_precision) - 1)) c (nearest_level kind v u c)
unfolding nearest_level
dc_is_nearest kind v u c h = rw h (first_of_unsigned (value_of kind v u) c (2 ^ (8 + kind.dc_precision) - 1))

-- the levels that can stand at a place, by the place
allowed : (kind : Kind) (v u : ℕ) (c q : ℤ) → IsNearestOf (value_of kind v u) (CanStand kind v u) c q → IsNearest kind v u c q
allowed kind v u c q w = record { level = w.level; first = w.first }

allowed_back : (kind : Kind) (v u : ℕ) (c q : ℤ) → IsNearest kind v u c q → IsNearestOf (value_of kind v u) (CanStand kind v u) c q
allowed_back kind v u c q w = record { level = w.level; first = w.first }

-- what is nearest of the levels of a range is nearest of those that can stand, where these are the same
can_stand : (kind : Kind) (v u : ℕ) (c q : ℤ) (IsAllowed : ℤ → Type 0) → ((p : ℤ) → IsAllowed p → CanStand kind v u p) → ((p : ℤ) → CanStand kind v u p → IsAllowed p)
    → IsNearestOf (value_of kind v u) IsAllowed c q → IsNearest kind v u c q
can_stand kind v u c q IsAllowed into back w =
    allowed kind v u c q (nearest_same (value_of kind v u) (value_of kind v u) IsAllowed (CanStand kind v u) c q (λ p. refl) into back w)

pub nearest_is_nearest : NearestIsNearest
nearest_is_nearest kind v u c = by (is_first_of_intra kind v u) refl
  where
    by : (b : Bool) → is_first_of_intra kind v u ≡ b → IsNearest kind v u c (nearest_level kind v u c)
    by true e =
        can_stand kind v u c (nearest_level kind v u c) (IsUpTo (2 ^ (8 + kind.dc_precision) - 1))
        (λ p h. rw e h) (λ p h. rw e at h) (dc_is_nearest kind v u c e)
    by false e =
        can_stand kind v u c (nearest_level kind v u c) IsLevel
        (λ p h. rw e h) (λ p h. rw e at h) (other_is_nearest kind v u c e)

pub one_level : OneIsNearest
one_level kind v u c q w =
    one_is_nearest (value_of kind v u) (CanStand kind v u) c q (nearest_level kind v u c) (allowed_back kind v u c q w)
    (allowed_back kind v u c (nearest_level kind v u c) (nearest_is_nearest kind v u c))

-- what is nearest by the step of its place is the level there, unless it is the first of an intra block,
pub level_is : (kind : Kind) (v u : ℕ) (c q : ℤ) → is_first_of_intra kind v u ≡ false → IsNearestOf (scaled_value kind.intra (step_at kind (8 * v + u))) IsLevel c q → q ≡ nearest_level kind v u c
level_is kind v u c q h w = one_is_nearest (value_of kind v u) IsLevel c q (nearest_level kind v u c)
    (nearest_same (scaled_value kind.intra (step_at kind (8 * v + u))) (value_of kind v u) IsLevel IsLevel c q (λ p. sym (value_scaled kind v u p h)) (λ p l. l) (λ p l. l) w)
    (other_is_nearest kind v u c h)

-- and what is nearest by the precision is that one
pub dc_is : (kind : Kind) (v u : ℕ) (c q : ℤ) → is_first_of_intra kind v u ≡ true → IsNearestOf (dc_value kind.dc_precision) (IsUpTo (2 ^ (8 + kind.dc_precision) - 1)) c q → q ≡ nearest_level kind v u c
dc_is kind v u c q h w = one_is_nearest (value_of kind v u) (IsUpTo (2 ^ (8 + kind.dc_precision) - 1)) c q (nearest_level kind v u c)
    (nearest_same (dc_value kind.dc_precision) (value_of kind v u) (IsUpTo (2 ^ (8 + kind.dc_precision) - 1)) (IsUpTo (2 ^ (8 + kind.dc_precision) - 1)) c q (λ p. sym (value_dc kind v u p h)) (λ p l. l) (λ p l. l) w)
    (dc_is_nearest kind v u c h)

-- ---- ranges

dc_fits : (precision : ℕ) (level : ℤ) → precision ≤ 3 → IsUpTo (2 ^ (8 + precision) - 1) level → IsLevel level
dc_fits zero level h l = (omega (arith, ints, l.0), omega (arith, ints, l.0, l.1))
dc_fits (suc zero) level h l = (omega (arith, ints, l.0), omega (arith, ints, l.0, l.1))
dc_fits (suc (suc zero)) level h l = (omega (arith, ints, l.0), omega (arith, ints, l.0, l.1))
dc_fits (suc (suc (suc zero))) level h l = (omega (arith, ints, l.0), omega (arith, ints, l.0, l.1))
dc_fits (suc (suc (suc (suc p)))) level h l = absurd (omega arith)

pub nearest_is_level : NearestIsLevel
nearest_is_level kind v u c h = by (is_first_of_intra kind v u) refl
  where
    by : (b : Bool) → is_first_of_intra kind v u ≡ b → IsLevel (nearest_level kind v u c)
    by true e = let w = dc_is_nearest kind v u c e in dc_fits kind.dc_precision (nearest_level kind v u c) h w.level
    by false e = let w = other_is_nearest kind v u c e in w.level

pub nearest_dc_is_in_range : NearestDcIsInRange
nearest_dc_is_in_range kind c intra =
    let first : is_first_of_intra kind 0 0 ≡ true = rw intra refl in
    let w = dc_is_nearest kind 0 0 c first in
    let some : 0 < 2 ^ (8 + kind.dc_precision) = pow_pos (8 + kind.dc_precision) in
    (w.level.0, below (2 ^ (8 + kind.dc_precision)) (nearest_level kind 0 0 c) some w.level.0 w.level.1)
  where
    below : (n : ℕ) (level : ℤ) → 0 < n → pos 0 ≤ℤ level → level ≤ℤ pos (n - 1) → level <ℤ pos n
    below n level some low high = omega (arith, ints)

-- ---- small coefficients

pub small_is_zero : (intra : Bool) (step : ℕ) (c : ℤ) → 2 * unsigned_abs c ≤ min (value_size (oddness intra) step 1) 2047 → IsNearestOf (scaled_value intra step) IsLevel c (pos 0)
small_is_zero intra step (pos zero) h = nearest_zero intra step
small_is_zero intra step (pos (suc c)) h =
    let t : min (suc c) 2047 ≡ suc c = omega arith in
    nearest_pos intra step (suc c) 0 (omega arith) (omega arith) (rw t (stays_none (oddness intra) step 2047 (suc c) h))
small_is_zero intra step (negsuc c) h =
    let t : min (suc c) 2048 ≡ suc c = omega arith in
    nearest_neg intra step (suc c) 0 (omega arith) (omega arith) (rw t (stays_none (oddness intra) step 2048 (suc c) (omega arith)))

-- ---- the first level of an intra block

from_below : (a c : ℕ) → distance (pos a) (pos c) ≡ gap a c
from_below a c = omega (arith, ints)

-- levels up to `top`, each of m times its own size
dc_from : (value : ℤ → ℤ) (m top : ℕ) → ((r : ℕ) → r ≤ top → value (pos r) ≡ pos (m * r))
    → (c q : ℕ) → q ≤ top → ((r : ℕ) → r ≤ top → ComesBefore (λ n. m * n) c q r) → IsNearestOf value (IsUpTo top) (pos c) (pos q)
dc_from value m top values c q h first = record {
  level = (omega (arith, ints), omega (arith, ints));
  first = λ p l. by p l.0 l.1;
}
  where
    by : (p : ℤ) → pos 0 ≤ℤ p → p ≤ℤ pos top → IsPreferred value (pos c) (pos q) p
    by (pos r) low high =
        let fits : r ≤ top = omega (arith, ints) in
        let dq : distance (value (pos q)) (pos c) ≡ gap (m * q) c = ap (λ (z : ℤ). distance z (pos c)) (values q h) ∙ from_below (m * q) c in
        let dr : distance (value (pos r)) (pos c) ≡ gap (m * r) c = ap (λ (z : ℤ). distance z (pos c)) (values r fits) ∙ from_below (m * r) c in
        rw (dq, dr) (⊎_elim
        (λ (b : gap (m * q) c < gap (m * r) c). inl b)
        (λ (b : (gap (m * q) c ≡ gap (m * r) c) × (q ≤ r)). inr (
          b.0,
          ⊎_elim
              (λ (l : q < r). inl l)
              (λ (l : r ≤ q). let e : r ≡ q = omega (arith, b.1) in inr (omega arith, omega (arith, ints)))
              (cases_lt q r),
        ))
        (first r fits))
    by (negsuc r) low high = absurd (omega (arith, ints, low))

pub dc_value_8 : (r : ℕ) → r ≤ 255 → dc_value 0 (pos r) ≡ pos (8 * r)
dc_value_8 r h = omega (arith, ints, clamps)

pub dc_value_4 : (r : ℕ) → r ≤ 511 → dc_value 1 (pos r) ≡ pos (4 * r)
dc_value_4 r h = omega (arith, ints, clamps)

pub dc_value_2 : (r : ℕ) → r ≤ 1023 → dc_value 2 (pos r) ≡ pos (2 * r)
dc_value_2 r h = omega (arith, ints, clamps)

pub dc_value_1 : (r : ℕ) → r ≤ 2047 → dc_value 3 (pos r) ≡ pos (1 * r)
dc_value_1 r h = omega (arith, ints, clamps)

pub dc_of_positive : (precision c : ℕ) → precision ≤ 3 → IsNearestOf (dc_value precision) (IsUpTo (2 ^ (8 + precision) - 1)) (pos c) (pos (dc_size precision c))
unfolding dc_size
dc_of_positive zero c h = dc_from (dc_value 0) 8 255 dc_value_8 c (min ((2 * c + 7) / 16) 255) (omega arith) (dc_8 c)
dc_of_positive (suc zero) c h = dc_from (dc_value 1) 4 511 dc_value_4 c (min ((2 * c + 3) / 8) 511) (omega arith) (dc_4 c)
dc_of_positive (suc (suc zero)) c h = dc_from (dc_value 2) 2 1023 dc_value_2 c (min ((2 * c + 1) / 4) 1023) (omega arith) (dc_2 c)
dc_of_positive (suc (suc (suc zero))) c h = dc_from (dc_value 3) 1 2047 dc_value_1 c (min c 2047) (omega arith) (dc_1 c)
dc_of_positive (suc (suc (suc (suc p)))) c h = absurd (omega arith)

dc_zero : (precision : ℕ) → dc_value precision (pos 0) ≡ pos 0
dc_zero precision = omega (arith, ints, clamps)

dc_some : (precision r : ℕ) → pos 0 ≤ℤ dc_value precision (pos r)
dc_some precision r = omega (arith, ints, clamps)

pub dc_of_negative : (precision top : ℕ) (c : ℤ) → c ≤ℤ pos 0 → IsNearestOf (dc_value precision) (IsUpTo top) c (pos 0)
dc_of_negative precision top c h = record { level = (omega (arith, ints), omega (arith, ints)); first = λ p l. by p l.0 }
  where
    by : (p : ℤ) → pos 0 ≤ℤ p → IsPreferred (dc_value precision) c (pos 0) p
    by (pos zero) low = inr (refl, inr (refl, omega (arith, ints)))
    by (pos (suc r)) low =
        let none = dc_zero precision in
        let some = dc_some precision (suc r) in
        ⊎_elim
        (λ (b : distance (dc_value precision (pos 0)) c < distance (dc_value precision (pos (suc r))) c). inl b)
        (λ (b : distance (dc_value precision (pos (suc r))) c ≤ distance (dc_value precision (pos 0)) c). inr (omega (arith, ints, none, some, b), inl (omega arith)))
        (cases_lt (distance (dc_value precision (pos 0)) c) (distance (dc_value precision (pos (suc r))) c))
    by (negsuc r) low = absurd (omega (arith, ints, low))

pub dc_size_0 : (c : ℕ) → dc_size 0 c ≡ min ((2 * c + 7) / 16) 255
unfolding dc_size
dc_size_0 c = refl

pub dc_size_1 : (c : ℕ) → dc_size 1 c ≡ min ((2 * c + 3) / 8) 511
unfolding dc_size
dc_size_1 c = refl

pub dc_size_2 : (c : ℕ) → dc_size 2 c ≡ min ((2 * c + 1) / 4) 1023
unfolding dc_size
dc_size_2 c = refl

pub dc_size_3 : (c : ℕ) → dc_size 3 c ≡ min c 2047
unfolding dc_size
dc_size_3 c = refl
