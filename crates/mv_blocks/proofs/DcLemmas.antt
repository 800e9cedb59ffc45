-- The arithmetic of a DC difference.
use Rattle.std.proofs.Common.{◌≡◌, ℕ, zero, suc, ◌+◌, ◌*◌, ◌/◌, ◌%◌, ◌^◌, ◌<◌, ◌≤◌, cond, ltb, ℤ, pos, ◌+ℤ◌, ◌-ℤ◌, w32, to_z, of_z, ap, sym, ◌∙◌, arith}
use Rattle.std.proofs.lemmas.Nat.{one_shl, pow-add}
use Rattle.std.proofs.Math.Pow.{pow_mono}
use Rattle.std.proofs.lemmas.Bool.Decides.{nat_tests}
use Rattle.std.proofs.lemmas.Int.{ints}
use Rattle.mv_blocks.specs.Blocks.{dct_diff}

pub size_small : (size : ℕ) → size ≤ 11 → (2 ^ size ≤ 2048) × (1 * 2 ^ size % 4294967296 ≡ 2 ^ size)
size_small size h = (pow_mono {i = size} {j = 11} h, one_shl size 32 (omega arith))

twice : (size : ℕ) → 2 * 2 ^ size ≡ 2 ^ suc size
twice size = let e : 2 ^ (1 + size) ≡ 2 ^ 1 * 2 ^ size = pow-add 2 1 size in sym e ∙ ap (λ (k : ℕ). 2 ^ k) (next size)
  where
    next : (n : ℕ) → 1 + n ≡ suc n
    next n = omega arith

half_of : (size : ℕ) → 2 ^ suc size / 2 ≡ 2 ^ size
half_of size = let e = twice size in omega (arith, e)

pub choose_first : (n h : ℕ) (x y : ℤ) → n < h → cond (ltb n h) x y ≡ x
choose_first n h x y l = grind (arith, nat_tests)

pub choose_second : (n h : ℕ) (x y : ℤ) → h ≤ n → cond (ltb n h) x y ≡ y
choose_second n h x y l = grind (arith, nat_tests)

-- a differential in the lower half is negative
pub dct_diff-lower : (size n : ℕ) → n < 2 ^ size / 2 → dct_diff size n ≡ (pos (n + 1) -ℤ pos (2 ^ size))
dct_diff-lower zero n h = absurd (omega arith)
dct_diff-lower (suc size) n h =
    let e = half_of size in
    choose_first n (2 ^ size) (pos (n + 1) -ℤ pos (2 * 2 ^ size)) (pos n) (omega (arith, e)) ∙ ap (λ (k : ℕ). pos (n + 1) -ℤ pos k) (twice size)

pub dct_diff-upper : (size n : ℕ) → n < 2 ^ size → 2 ^ size / 2 ≤ n → dct_diff size n ≡ pos n
dct_diff-upper zero n h l = ap pos (omega arith)
dct_diff-upper (suc size) n h l = let e = half_of size in choose_second n (2 ^ size) (pos (n + 1) -ℤ pos (2 * 2 ^ size)) (pos n) (omega (arith, e))

-- where nothing wraps
pub unwrapped : (n p : ℕ) → n < 2048 → p ≤ 2048 → to_z w32 (of_z w32 (to_z w32 (of_z w32 (to_z w32 n +ℤ pos 1)) -ℤ to_z w32 p)) ≡ (pos (n + 1) -ℤ pos p)
unwrapped n p h l = omega (arith, ints)

pub positive : (n : ℕ) → n < 2048 → to_z w32 n ≡ pos n
positive n h = omega (arith, ints)
