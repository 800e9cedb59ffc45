-- The bound is sharper than the one by the simpler sum.
use Rattle.std.proofs.Common.{◌≡◌, ◌∙◌, ℕ, zero, suc, ◌+◌, ◌-◌, ◌*◌, ◌/◌, ◌^◌, ◌<◌, ◌≤◌, Bool, true, false, unsigned_abs, cond, nat_eq, ◌&&◌, refl, ap, arith, ⊎_elim}
use Rattle.std.proofs.lemmas.Bool.{cases_lt}
use Rattle.std.proofs.lemmas.Nat.{mul-le}
use Rattle.std.proofs.Math.Nat.{div-le_self}
use Rattle.mv_transform.proofs.TotalLemmas.{total_same}
use Rattle.mv_terms.specs.Sums.{total_below}
use Rattle.mv_transform.specs.Basis.{basis}
use Rattle.mv_transform.specs.Transform.{weight}
use Rattle.mv_quant.specs.declared.Kind.{Kind}
use Rattle.mv_quant.specs.Dequantised.{step_at}
use Rattle.mv_transform.specs.Near.{twice, carried}
use Rattle.mv_transform.proofs.TotalLemmas.{total_plus, total_le, total_scaled}
use Rattle.enc_near.specs.Blocks.{change_of, simple_sum, greatest_of, ErrorIsWithinSimple}

-- no function value is above the greatest one
greatest_is : (n : ℕ) (f : ℕ → ℕ) (k : ℕ) → k < n → f k ≤ greatest_of n f
unfolding greatest_of
greatest_is zero f k h = absurd (omega (arith, h))
greatest_is (suc n) f k h = ⊎_elim
    (λ (l : k < n). let r : f k ≤ greatest_of n f = greatest_is n f k l in omega (arith, r))
    (λ (l : n ≤ k). let e : k ≡ n = omega arith in rw e (omega arith))
    (cases_lt k n)

-- what only the first coefficient has beyond the simpler sum
extra : ℕ → ℕ → ℕ
extra v u = cond (nat_eq v 0 && nat_eq u 0) 80 0

-- one coefficient
term : (kind : Kind) (v u : ℕ) → kind.intra ≡ true → 16 * twice (change_of kind) v u ≤ (step_at kind (8 * v + u) + 64) + extra v u
unfolding extra
term kind v u intra = rw intra (by (nat_eq v 0 && nat_eq u 0) (nat_eq v 7 && nat_eq u 7) (4 / 2 ^ kind.dc_precision) (step_at kind (8 * v + u)) (most kind.dc_precision))
  where
    most : (p : ℕ) → 4 / 2 ^ p ≤ 4
    most p = div-le_self 4 (2 ^ p)

    by : (first last : Bool) (d s : ℕ) → d ≤ 4 → 16 * (2 * cond first d ((s + 15) / 32 + cond last 1 0) + 1) ≤ (s + 64) + cond first 80 0
    by true last d s h = omega arith
    by false true d s h = omega arith
    by false false d s h = omega arith

weight_of_first : (y x : ℕ) → unsigned_abs (weight 0 0 y x) ≡ 8386816
unfolding basis
weight_of_first y x = refl

-- a sum over a block of which only the first term is there
only_first : (g : ℕ → ℕ → ℕ) → total_below 8 (λ v. total_below 8 (λ u. g v u * extra v u)) ≡ g 0 0 * 80
unfolding total_below extra
only_first g = omega arith

sums : (kind : Kind) (y x : ℕ) → kind.intra ≡ true → 16 * carried (change_of kind) y x ≤ simple_sum kind.matrix kind.scale y x + 8386816 * 80
unfolding carried simple_sum
sums kind y x intra =
    let scaled : total_below 8 (λ v. total_below 8 (λ u. 16 * (unsigned_abs (weight v u y x) * twice (change_of kind) v u))) ≡ 16 * total_below 8 (λ v. total_below 8 (λ u. unsigned_abs (weight v u y x) * twice (change_of kind) v u)) =
    total_same 8 (λ v. total_below 8 (λ u. 16 * (unsigned_abs (weight v u y x) * twice (change_of kind) v u))) (λ v. 16 * total_below 8 (λ u. unsigned_abs (weight v u y x) * twice (change_of kind) v u))
    (λ v h. total_scaled 16 8 (λ u. unsigned_abs (weight v u y x) * twice (change_of kind) v u))
    ∙ total_scaled 16 8 (λ v. total_below 8 (λ u. unsigned_abs (weight v u y x) * twice (change_of kind) v u)) in
    let less = total_le 8 (λ v. total_below 8 (λ u. 16 * (unsigned_abs (weight v u y x) * twice (change_of kind) v u)))
    (λ v. total_below 8 (λ u. unsigned_abs (weight v u y x) * (step_at kind (8 * v + u) + 64) + unsigned_abs (weight v u y x) * extra v u))
    (λ v h. total_le 8 (λ u. 16 * (unsigned_abs (weight v u y x) * twice (change_of kind) v u)) (λ u. unsigned_abs (weight v u y x) * (step_at kind (8 * v + u) + 64) + unsigned_abs (weight v u y x) * extra v u)
    (λ u k. let m = mul-le (unsigned_abs (weight v u y x)) (16 * twice (change_of kind) v u) (unsigned_abs (weight v u y x)) ((step_at kind (8 * v + u) + 64) + extra v u) (omega arith) (term kind v u intra) in omega (arith, m))) in
    let parts : total_below 8 (λ v. total_below 8 (λ u. unsigned_abs (weight v u y x) * (step_at kind (8 * v + u) + 64) + unsigned_abs (weight v u y x) * extra v u))
    ≡ total_below 8 (λ v. total_below 8 (λ u. unsigned_abs (weight v u y x) * (step_at kind (8 * v + u) + 64))) + total_below 8 (λ v. total_below 8 (λ u. unsigned_abs (weight v u y x) * extra v u)) =
    total_same 8 (λ v. total_below 8 (λ u. unsigned_abs (weight v u y x) * (step_at kind (8 * v + u) + 64) + unsigned_abs (weight v u y x) * extra v u))
    (λ v. total_below 8 (λ u. unsigned_abs (weight v u y x) * (step_at kind (8 * v + u) + 64)) + total_below 8 (λ u. unsigned_abs (weight v u y x) * extra v u))
    (λ v h. total_plus 8 (λ u. unsigned_abs (weight v u y x) * (step_at kind (8 * v + u) + 64)) (λ u. unsigned_abs (weight v u y x) * extra v u))
    ∙ total_plus 8 (λ v. total_below 8 (λ u. unsigned_abs (weight v u y x) * (step_at kind (8 * v + u) + 64))) (λ v. total_below 8 (λ u. unsigned_abs (weight v u y x) * extra v u)) in
    let first : total_below 8 (λ v. total_below 8 (λ u. unsigned_abs (weight v u y x) * extra v u)) ≡ 8386816 * 80 = only_first (λ v u. unsigned_abs (weight v u y x)) ∙ ap (λ (n : ℕ). n * 80) (weight_of_first y x) in
    omega (arith, scaled, less, parts, first)

pub error_is_within_simple : ErrorIsWithinSimple
error_is_within_simple kind y x intra hy hx =
    let s = sums kind y x intra in
    let row = greatest_is 8 (λ x. (simple_sum kind.matrix kind.scale y x + 2 ^ 31 - 1) / 2 ^ 31 + 4) x hx in
    let all = greatest_is 8 (λ y. greatest_of 8 (λ x. (simple_sum kind.matrix kind.scale y x + 2 ^ 31 - 1) / 2 ^ 31 + 4)) y hy in
    let here = divided (carried (change_of kind) y x) (simple_sum kind.matrix kind.scale y x) s in
    omega (arith, row, all, here)
  where
    divided : (c a : ℕ) → 16 * c ≤ a + 8386816 * 80 → (c + 88080384) / 134217728 ≤ (a + 2147483648 - 1) / 2147483648 + 4
    divided c a h = omega arith
