-- The size of a DC difference, as the number of its bits.
use Rattle.std.proofs.Common.{List, ◌++◌, ◌≡◌, ℕ, zero, suc, ◌+◌, ◌-◌, ◌*◌, ◌^◌, ◌<◌, ◌≤◌, Bool, true, false, cond, ltb, refl, ap, sym, ◌∙◌, subst, arith, inl, inr, ℤ}
use Rattle.std.specs.Prelude.{IsTrue, unsigned_abs}
use Rattle.std.specs.Int.Count.{count_leading_zeros}
use Rattle.std.proofs.lemmas.Bool.{cases_lt}
use Rattle.std.proofs.lemmas.Bool.Decides.{nat_tests}
use Rattle.std.proofs.lemmas.Nat.{leading_length}
use Rattle.std.proofs.Math.Nat.{pow-suc}
use Rattle.std.proofs.Math.Pow.{pow_mono}
use Rattle.mv_bits.specs.Bits.{digits}
use Rattle.mv_bits.specs.Writing.{Writes}
use Rattle.mv_bits.proofs.WritingLemmas.{Writes-append}
use Rattle.mv_codes.specs.Sizes.{dc_size_codes}
use Rattle.mv_codes.specs.Spelled.{code_of, has_code, same_number}
use Rattle.mv_codes.proofs.SpelledLaws.{each_below}
use Rattle.mv_blocks.specs.Written.{size_within, differential, dc_bits}
use Rattle.mv_blocks.proofs.DcBack.{size_bound, size_enough, each_size_coded}

-- a power of two that is at most twice a number and one, which lies below another
below_power : (m n a : ℕ) → 2 ^ m ≤ 2 * a + 1 → a < 2 ^ n → m ≤ n
below_power m n a most h =
    elim (cases_lt n m) [
      | inl more ↦
          absurd (let e = pow_mono {i = suc n} {j = m} (omega arith) in let f = pow-suc 2 n in omega (arith, e, f, most, h))
      | inr few ↦ few
    ]

cond_true : {A : Type 0} (t : Bool) (x y : A) → t ≡ true → cond t x y ≡ x
cond_true t x y e = rw e refl

cond_false : {A : Type 0} (t : Bool) (x y : A) → t ≡ false → cond t x y ≡ y
cond_false t x y e = rw e refl

size_is : (n m a : ℕ) → m ≤ n → a < 2 ^ m → 2 ^ m ≤ 2 * a + 1 → size_within n a ≡ m
size_is zero m a few h most = omega arith
size_is (suc n) m a few h most =
    elim (cases_lt a (2 ^ n)) [
      | inl less ↦ cond_true (ltb a (2 ^ n)) (size_within n a) (suc n) (grind (arith, nat_tests)) ∙ size_is n m a (below_power m n a most less) h most
      | inr more ↦ cond_false (ltb a (2 ^ n)) (size_within n a) (suc n) (grind (arith, nat_tests)) ∙ last more
    ]
  where
    last : 2 ^ n ≤ a → suc n ≡ m
    last more =
        elim (cases_lt n m) [
          | inl up ↦ omega arith
          | inr low ↦ absurd (let e = pow_mono {i = m} {j = n} low in omega (arith, e, more, h))
        ]

-- 32 bits without their leading zeros
pub size_leading : (a : ℕ) → a < 2 ^ 11 → 32 - count_leading_zeros 32 a ≡ size_within 11 a
size_leading a h =
    let wide : a < 2 ^ 32 = let p = pow_mono {i = 11} {j = 32} (omega arith) in omega (arith, p, h) in
    let found = leading_length 32 a wide in
    let m = found.0 in
    let count : count_leading_zeros 32 a + m ≡ 32 = found.1 in
    let same : 32 - count_leading_zeros 32 a ≡ m = omega (arith, count) in
    same ∙ sym (size_is 11 m a (below_power m 11 a found.3 h) found.2 found.3)

pub size_few : (a : ℕ) → size_within 11 a ≤ 11
size_few a = size_bound 11 a

pub size_room : (a : ℕ) → a < 2 ^ 11 → a < 2 ^ size_within 11 a
size_room a h = size_enough 11 a h

pub size_coded : (luma : Bool) (size : ℕ) → size ≤ 11 → IsTrue (has_code (same_number size) (dc_size_codes luma))
size_coded luma size few = each_below (λ n. has_code (same_number n) (dc_size_codes luma)) 12 size (each_size_coded luma) (omega arith)

-- a size and the bits behind it
pub difference_put : {S Kind : Type 0} (stands : S → Kind → List ℕ → Type 0) (a b c : S) (old mid new : List Bool) (luma : Bool) (difference : ℤ) (size count number magnitude : ℕ)
    → size ≡ size_within 11 magnitude → magnitude ≡ unsigned_abs difference → count ≡ size → number ≡ differential size difference
    → Writes stands a b old mid (code_of (same_number size) (dc_size_codes luma)) → Writes stands b c mid new (digits count number) → Writes stands a c old new (dc_bits luma difference)
difference_put stands a b c old mid new luma difference size count number magnitude e m k f v w =
    let whole : (n : ℕ) → n ≡ differential size difference → Writes stands b c mid new (digits size n) → Writes stands a c old new (code_of (same_number size) (dc_size_codes luma) ++ digits size (differential size difference)) =
    λ n g x. Writes-append stands a b c old mid new _ _ v (subst (λ (k : ℕ). Writes stands b c mid new (digits size k)) g x) in
    subst (λ (k : ℕ). Writes stands a c old new (code_of (same_number k) (dc_size_codes luma) ++ digits k (differential k difference))) (e ∙ ap (size_within 11) m) (whole number f (subst (λ (n : ℕ). Writes stands b c mid new (digits n number)) k w))
