-- Levels whose values lie close to coefficients are the nearest ones.
use Rattle.std.proofs.Common.{◌≡◌, ◌≢◌, ℕ, zero, suc, ◌+◌, ◌*◌, ◌/◌, ◌^◌, ◌<◌, ◌≤◌, Bool, true, false, nat_eq, ◌&&◌, cond, List, ℤ, pos, ◌+ℤ◌, ◌-ℤ◌, ◌≤ℤ◌, unsigned_abs, refl, sym, subst, arith}
use Rattle.std.proofs.lemmas.Int.{ints}
use Rattle.std.proofs.lemmas.Bool.Decides.{nat_tests}
use Rattle.mv_terms.specs.Block.{item, entry}
use Rattle.mv_terms.specs.Ranges.{IsLevel, IsDcLevel}
use Rattle.mv_quant.specs.declared.Kind.{Kind}
use Rattle.mv_quant.specs.Dequantised.{value_of, value_sum, is_even, toggled, dequantised, is_first_of_intra, step_at}
use Rattle.mv_quant.specs.Nearest.{nearest_level}
use Rattle.mv_quant.specs.Steps.{dc_size}
use Rattle.mv_quant.proofs.CloseLemmas.{close_is_nearest}
use Rattle.cert_picture.specs.Steps.{IsClose, change_at}
use Rattle.cert_picture.proofs.SureLemmas.{not_first, natural, zeros_of, first_is_level}

-- ---- mismatch control changes the last value alone

toggled_near : (z : ℤ) → unsigned_abs (toggled z -ℤ z) ≤ 1
toggled_near z = by (is_even z)
  where
    by : (b : Bool) → unsigned_abs (cond b (z +ℤ pos 1) (z -ℤ pos 1) -ℤ z) ≤ 1
    by true = omega (arith, ints)
    by false = omega (arith, ints)

dequantised_near : (kind : Kind) (QF : ℕ → ℕ → ℤ) (v u : ℕ) → unsigned_abs (dequantised kind QF v u -ℤ value_of kind v u (QF v u)) ≤ cond (nat_eq v 7 && nat_eq u 7) 1 0
unfolding dequantised
dequantised_near kind QF v u = by (nat_eq v 7 && nat_eq u 7) (is_even (value_sum kind QF)) (value_of kind v u (QF v u)) (toggled_near (value_of kind v u (QF v u)))
  where
    by : (a b : Bool) (z : ℤ) → unsigned_abs (toggled z -ℤ z) ≤ 1 → unsigned_abs (cond (a && b) (toggled z) z -ℤ z) ≤ cond a 1 0
    by true true z h = omega (arith, h)
    by true false z h = omega (arith, ints)
    by false b z h = omega (arith, ints)

change_same : (v u : ℕ) → v < 8 → u < 8 → cond (nat_eq v 7 && nat_eq u 7) 1 0 ≤ change_at (8 * v + u)
change_same v u h k = grind (arith, nat_tests)

-- ---- one level

less : (a f c : ℤ) (gap r s : ℕ) → unsigned_abs (f -ℤ a) ≤ r → r ≤ s → 2 * (unsigned_abs (f -ℤ c) + s) < gap → 2 * unsigned_abs (a -ℤ c) < gap
less a f c gap r s h m k = omega (arith, ints)

room : (a f : ℤ) (gap r s : ℕ) → unsigned_abs (f -ℤ a) ≤ r → r ≤ s → unsigned_abs f + s + gap ≤ 2047 → unsigned_abs a + gap ≤ 2047
room a f gap r s h m k = omega (arith, ints)

close_is_level : (kind : Kind) (levels : List ℤ) (v u : ℕ) (value c : ℤ) → v < 8 → u < 8 → is_first_of_intra kind v u ≡ false → IsLevel (entry levels v u)
    → value ≡ dequantised kind (entry levels) v u → IsClose kind (8 * v + u) value c → nearest_level kind v u c ≡ entry levels v u
close_is_level kind levels v u value c hv hu other legal is close =
    let a : ℤ = value_of kind v u (entry levels v u) in
    let gap : ℕ = step_at kind (8 * v + u) / 16 in
    let r : ℕ = cond (nat_eq v 7 && nat_eq u 7) 1 0 in
    let near : unsigned_abs (value -ℤ a) ≤ r = subst (λ (z : ℤ). unsigned_abs (z -ℤ a) ≤ r) (sym is) (dequantised_near kind (entry levels) v u) in
    close_is_nearest kind v u (entry levels v u) c other legal
    (less a value c gap r (change_at (8 * v + u)) near (change_same v u hv hu) close.0)
    (room a value gap r (change_at (8 * v + u)) near (change_same v u hv hu) close.1)

-- ---- the first level of an intra block

whole : (c : ℤ) → pos 0 ≤ℤ c → c ≡ pos (unsigned_abs c)
whole c h = omega (arith, ints, h)

pub intra_first : (kind : Kind) (level c : ℤ) (size : ℕ) → kind.intra ≡ true → kind.dc_precision ≤ 3 → size ≡ unsigned_abs level
    → (size < 2 ^ (8 + kind.dc_precision) → (pos 0 ≤ℤ c) × (dc_size kind.dc_precision (unsigned_abs c) ≡ size)) → IsDcLevel kind.dc_precision level → nearest_level kind 0 0 c ≡ level
intra_first kind level c size intra precision is same d =
    let n = natural level (2 ^ (8 + kind.dc_precision)) d.0 d.1 in
    let s = same (rw is n.0) in
    subst (λ (z : ℤ). nearest_level kind 0 0 z ≡ level) (sym (whole c s.0)) (first_is_level kind level size (unsigned_abs c) intra precision is (λ _. s.1) d)

-- ---- a block

some : (n : ℕ) → n ≢ 0 → 0 < n
some zero h = absurd (h refl)
some (suc n) h = omega arith

module _ (kind : Kind) (levels values coefs : List ℤ) (are : (v u : ℕ) → v < 8 → u < 8 → entry values v u ≡ dequantised kind (entry levels) v u)
    (legal : (k : ℕ) → k < 64 → IsLevel (item levels k)) (others : (k : ℕ) → 0 < k → k < 64 → IsClose kind k (item values k) (item coefs k)) where
  one : (v u : ℕ) → v < 8 → u < 8 → is_first_of_intra kind v u ≡ false → IsClose kind (8 * v + u) (entry values v u) (entry coefs v u) → nearest_level kind v u (entry coefs v u) ≡ entry levels v u
  one v u hv hu other close = close_is_level kind levels v u (entry values v u) (entry coefs v u) hv hu other (legal (8 * v + u) (omega arith)) (are v u hv hu) close

  pub inter_close : kind.intra ≡ false → IsClose kind 0 (item values 0) (item coefs 0) → (v u : ℕ) → v < 8 → u < 8 → nearest_level kind v u (entry coefs v u) ≡ entry levels v u
  inter_close inter first v u hv hu = one v u hv hu (rw inter refl) (at (8 * v + u) (omega arith))
    where
      at : (k : ℕ) → k < 64 → IsClose kind k (item values k) (item coefs k)
      at zero h = first
      at (suc k) h = others (suc k) (omega arith) h

  pub intra_close : kind.intra ≡ true → nearest_level kind 0 0 (item coefs 0) ≡ item levels 0 → (v u : ℕ) → v < 8 → u < 8 → nearest_level kind v u (entry coefs v u) ≡ entry levels v u
  intra_close intra first v u hv hu = by (is_first_of_intra kind v u) refl
    where
      by : (b : Bool) → is_first_of_intra kind v u ≡ b → nearest_level kind v u (entry coefs v u) ≡ entry levels v u
      by true is = let none = zeros_of kind.intra v u is in rw (none.0, none.1) first
      by false other = one v u hv hu other (others (8 * v + u) (some (8 * v + u) (not_first kind v u other intra)) (omega arith))
