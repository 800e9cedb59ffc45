-- Levels found place by place, with the rows that are passed over.
use Rattle.std.proofs.Common.{◌≡◌, ◌≢◌, ℕ, ◌+◌, ◌-◌, ◌*◌, ◌^◌, ◌<◌, ◌≤◌, ℤ, pos, List, ◌∙◌, sym, subst, refl, arith, length, set, replicate, slice_index, get_or-set_other, get_or-set_same, length-set, ⊎_elim, Bool, true, false, ◌&&◌, nat_eq}
use Rattle.std.proofs.lemmas.Bool.{cases_lt, cases_eq}
use Rattle.std.proofs.lemmas.Bool.Decides.{nat_tests}
use Rattle.std.proofs.lemmas.List.{get_or-replicate}
use Rattle.mv_terms.specs.Block.{item, entry}
use Rattle.mv_quant.specs.declared.Kind.{Kind}
use Rattle.mv_quant.specs.Dequantised.{is_first_of_intra, step_at}
use Rattle.mv_quant.specs.Nearest.{nearest_level}
use Rattle.mv_quant.specs.Steps.{dc_value, IsNearestOf, IsUpTo, IsSmall, IsNearestAt, AreFound}
use Rattle.mv_quant.proofs.NearestLemmas.{small_is_zero, level_is, dc_is}

pub found_none : (kind : Kind) (coefs : List ℤ) → AreFound kind coefs (replicate 64 (pos 0)) 0
found_none kind coefs = record { long = refl; found = λ k l. absurd (omega (arith, l)); rest = λ k l h. get_or-replicate 64 k (pos 0) (pos 0) h }

pub found_more : (kind : Kind) (coefs levels : List ℤ) (n m : ℕ) (level : ℤ) → AreFound kind coefs levels n → n < 64 → IsNearestAt kind coefs n level → m ≡ n + 1 → AreFound kind coefs (set levels n level) m
found_more kind coefs levels n m level w h p e =
    let near : n < length levels = omega (arith, w.long) in
    record {
      long = length-set levels n level ∙ w.long;
      found = λ k l. ⊎_elim
          (λ (b : k < n). subst (IsNearestAt kind coefs k) (sym (get_or-set_other levels n k level (pos 0) (omega arith))) (w.found k b))
          (λ (b : n ≤ k). let same : k ≡ n = omega arith in rw same (subst (IsNearestAt kind coefs n) (sym (get_or-set_same levels n level (pos 0) near)) p))
          (cases_lt k n);
      rest = λ k l b. get_or-set_other levels n k level (pos 0) (omega arith) ∙ w.rest k (omega arith) b;
    }

-- a row of small coefficients is passed over
pub found_row : (kind : Kind) (coefs levels : List ℤ) (row : ℕ) → row < 8 → AreFound kind coefs levels (8 * row) → ((j : ℕ) → j < 8 → IsSmall kind coefs (8 * row + j)) → AreFound kind coefs levels (8 * row + 8)
found_row kind coefs levels row h w small = record {
  long = w.long;
  found = λ k l. ⊎_elim
      (λ (b : k < 8 * row). w.found k b)
      (λ (b : 8 * row ≤ k).
      let e : 8 * row + (k - 8 * row) ≡ k = omega arith in
      subst (IsNearestAt kind coefs k) (sym (w.rest k b (omega arith))) (small_is_zero kind.intra (step_at kind k) (item coefs k) (rw e at (small (k - 8 * row) (omega arith)))))
      (cases_lt k (8 * row));
  rest = λ k l b. w.rest k (omega arith) b;
}

-- what a zero of a list says of its place
pub told_more : (P : ℕ → Type 0) (s : List ℕ) (n a : ℕ) → length s ≡ 64 → n < 64 → ((k : ℕ) → k < n → slice_index s k ≡ 0 → P k) → (a ≡ 0 → P n) → (k : ℕ) → k < n + 1 → slice_index (set s n a) k ≡ 0 → P k
told_more P s n a long h before now k l e = ⊎_elim
    (λ (b : k < n). before k b (sym (get_or-set_other s n k a 0 (omega arith)) ∙ e))
    (λ (b : n ≤ k). let same : k ≡ n = omega arith in
    let is : slice_index (set s n a) n ≡ 0 = rw same at e in
    rw same (now (sym (get_or-set_same s n a 0 (omega (arith, long))) ∙ is)))
    (cases_lt k n)

-- ---- blocks

not_first : (v u : ℕ) → 8 * v + u ≢ 0 → (nat_eq v 0 && nat_eq u 0) ≡ false
not_first v u h = grind (arith, nat_tests)

and_false : (b : Bool) → (b && false) ≡ false
and_false true = refl
and_false false = refl

other_place : (kind : Kind) (v u : ℕ) → 8 * v + u ≢ 0 → is_first_of_intra kind v u ≡ false
other_place kind v u h = rw (not_first v u h) (and_false kind.intra)

inter_place : (kind : Kind) (v u : ℕ) → kind.intra ≡ false → is_first_of_intra kind v u ≡ false
inter_place kind v u h = rw h refl

first_place : (kind : Kind) → kind.intra ≡ true → is_first_of_intra kind 0 0 ≡ true
first_place kind h = rw h refl

pub inter_levels : (kind : Kind) (coefs levels : List ℤ) → kind.intra ≡ false → ((k : ℕ) → k < 64 → IsNearestAt kind coefs k (item levels k))
    → (v u : ℕ) → v < 8 → u < 8 → entry levels v u ≡ nearest_level kind v u (entry coefs v u)
inter_levels kind coefs levels inter all v u p q = level_is kind v u (entry coefs v u) (entry levels v u) (inter_place kind v u inter) (all (8 * v + u) (omega arith))

-- the first level of an intra block is written over the others
pub intra_levels : (kind : Kind) (coefs levels : List ℤ) (first : ℤ) → kind.intra ≡ true → length levels ≡ 64 → ((k : ℕ) → k < 64 → IsNearestAt kind coefs k (item levels k))
    → IsNearestOf (dc_value kind.dc_precision) (IsUpTo (2 ^ (8 + kind.dc_precision) - 1)) (item coefs 0) first
    → (v u : ℕ) → v < 8 → u < 8 → entry (set levels 0 first) v u ≡ nearest_level kind v u (entry coefs v u)
intra_levels kind coefs levels first intra long all dc v u p q = ⊎_elim
    (λ (e : 8 * v + u ≡ 0).
    let a : v ≡ 0 = omega arith in
    let b : u ≡ 0 = omega arith in
    rw (a, b) (get_or-set_same levels 0 first (pos 0) (omega (arith, long)) ∙ dc_is kind 0 0 (item coefs 0) first (first_place kind intra) dc))
    (λ (n : 8 * v + u ≢ 0).
    get_or-set_other levels 0 (8 * v + u) first (pos 0) n ∙ level_is kind v u (entry coefs v u) (entry levels v u) (other_place kind v u n) (all (8 * v + u) (omega arith)))
    (cases_eq (8 * v + u) 0)
