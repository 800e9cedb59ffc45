-- The bits of a number that is written as bytes, and of a code with a bit 1 behind it.
use Rattle.std.proofs.Common.{◌≡◌, ℕ, zero, suc, ◌+◌, ◌-◌, ◌*◌, ◌/◌, ◌%◌, ◌^◌, ◌<◌, true, false, [], ◌∷◌, ◌++◌, replicate, refl, ap, sym, arith, zero-add, suc-add}
use Rattle.std.proofs.lemmas.Nat.{pow_pos, pow-add, shl-shr, shr-shr, shr_high}
use Rattle.std.proofs.Math.Nat.{pow-suc}
use Rattle.std.specs.Int.{to_be_bytes, w64, bytes_high_first, byte_at}
use Rattle.mv_bits.specs.Bits.{digits, bits_of}

-- the digits of a number, in two parts
digits-add : (m k n : ℕ) → digits (m + k) n ≡ digits m (n / 2 ^ k) ++ digits k n
unfolding digits
digits-add zero k n = rw (zero-add k) refl
digits-add (suc m) k n =
    let e : n / 2 ^ (m + k) ≡ n / 2 ^ k / 2 ^ m = rw (shr-shr n k m) (ap (λ j. n / 2 ^ j) (omega arith)) in
    rw (suc-add m k, e, digits-add m k n) refl

-- the digits of a byte of a number
digits_byte : (n : ℕ) → digits 8 (n % 256) ≡ digits 8 n
unfolding digits
digits_byte n =
    let a : (n % 256) / 128 % 2 ≡ n / 128 % 2 = omega arith in
    let b : (n % 256) / 64 % 2 ≡ n / 64 % 2 = omega arith in
    let c : (n % 256) / 32 % 2 ≡ n / 32 % 2 = omega arith in
    let d : (n % 256) / 16 % 2 ≡ n / 16 % 2 = omega arith in
    let e : (n % 256) / 8 % 2 ≡ n / 8 % 2 = omega arith in
    let f : (n % 256) / 4 % 2 ≡ n / 4 % 2 = omega arith in
    let g : (n % 256) / 2 % 2 ≡ n / 2 % 2 = omega arith in
    let h : (n % 256) / 1 % 2 ≡ n / 1 % 2 = omega arith in
    rw (a, b, c, d, e, f, g, h) refl

-- the worth of a byte
pow-bytes : (k : ℕ) → 256 ^ k ≡ 2 ^ (8 * k)
pow-bytes zero = refl
pow-bytes (suc k) =
    let e : 8 * suc k ≡ 8 + 8 * k = omega arith in
    rw (e, pow-add 2 8 (8 * k)) (omega (arith, pow-bytes k, pow-suc 256 k))

-- a byte of a number, by its place in bits
byte_at_is : (k n : ℕ) → byte_at k n ≡ n / 2 ^ (8 * k) % 256
byte_at_is zero n = omega arith
byte_at_is (suc k) n = rw (sym (pow-bytes (suc k))) refl

digits_none : (n : ℕ) → digits 0 n ≡ []
unfolding digits
digits_none n = refl

-- the bits of a number's bytes are its digits
bits_of_bytes : (k n : ℕ) → bits_of (bytes_high_first k n) ≡ digits (8 * k) n
unfolding bits_of
bits_of_bytes zero n = sym (digits_none n)
bits_of_bytes (suc k) n =
    let e : 8 * suc k ≡ 8 + 8 * k = omega arith in
    rw (e, digits-add 8 (8 * k) n, byte_at_is k n, digits_byte (n / 2 ^ (8 * k)), bits_of_bytes k n) refl

double_of : (m p : ℕ) → m * (2 * p) ≡ (2 * m) * p
double_of m p = grind arith

odd_of : (v p : ℕ) → (2 * v + 1) * p ≡ v * (2 * p) + p
odd_of v p = grind arith

pow_double : (k : ℕ) → 2 ^ suc k ≡ 2 * 2 ^ k
pow_double k = omega (arith, pow-suc 2 k)

-- a number moved up ends in zeros
digits_zeros : (k m : ℕ) → digits k (m * 2 ^ k) ≡ replicate k false
unfolding digits
digits_zeros zero m = refl
digits_zeros (suc k) m =
    let e : m * 2 ^ suc k ≡ (2 * m) * 2 ^ k = rw (pow_double k) (double_of m (2 ^ k)) in
    let even : (2 * m) % 2 ≡ 0 = omega arith in
    rw (e, shl-shr (2 * m) k, even, digits_zeros k (2 * m)) refl

-- a code, a bit 1 and zeros, as one number
digits_code : (size k value : ℕ) → digits (size + suc k) ((2 * value + 1) * 2 ^ k) ≡ digits size value ++ true ∷ replicate k false
unfolding digits
digits_code size k value =
    let e : (2 * value + 1) * 2 ^ k ≡ value * 2 ^ suc k + 2 ^ k = rw (pow_double k) (odd_of value (2 ^ k)) in
    let small : 2 ^ k < 2 ^ suc k = omega (arith, pow-suc 2 k, pow_pos k) in
    let high : (2 * value + 1) * 2 ^ k / 2 ^ suc k ≡ value = rw e (shr_high value (suc k) (2 ^ k) small) in
    let odd : (2 * value + 1) % 2 ≡ 1 = omega arith in
    rw (digits-add size (suc k) ((2 * value + 1) * 2 ^ k), high, shl-shr (2 * value + 1) k, odd, digits_zeros k (2 * value + 1)) refl

-- the same, as eight bytes
pub code_bits : (value size : ℕ) → size < 64 → bits_of (to_be_bytes w64 ((2 * value + 1) * 2 ^ (63 - size))) ≡ digits size value ++ true ∷ replicate (63 - size) false
code_bits value size h =
    let e : 64 ≡ size + suc (63 - size) = omega arith in
    rw (bits_of_bytes 8 ((2 * value + 1) * 2 ^ (63 - size)), e) (digits_code size (63 - size) value)

mul_below : (a b p : ℕ) → a < b → 0 < p → a * p < b * p
mul_below a b p less positive = grind arith

-- the number of a code and what is behind it fits 64 bits
pub code_fits : (value size : ℕ) → size < 64 → value < 2 ^ size → (2 * value + 1) * 2 ^ (63 - size) < 2 ^ 64
code_fits value size room fits =
    let total : suc size + (63 - size) ≡ 64 = omega arith in
    let whole : 2 ^ suc size * 2 ^ (63 - size) ≡ 2 ^ 64 = rw (sym (pow-add 2 (suc size) (63 - size)), total) refl in
    let below : 2 * value + 1 < 2 ^ suc size = omega (arith, pow_double size) in
    let less : (2 * value + 1) * 2 ^ (63 - size) < 2 ^ suc size * 2 ^ (63 - size) = mul_below (2 * value + 1) (2 ^ suc size) (2 ^ (63 - size)) below (pow_pos (63 - size)) in
    omega (arith, whole, less)
