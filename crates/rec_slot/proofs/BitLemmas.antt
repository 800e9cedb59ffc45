-- Bits of a byte and bytes of a component, both ways.
use Rattle.std.proofs.Common.{◌≡◌, ℕ, zero, suc, ◌+◌, ◌*◌, ◌/◌, ◌%◌, ◌^◌, ◌<◌, ◌∙◌, Bool, true, false, cond, List, [], ◌∷◌, length, arith, ap, refl, sym, ℤ}
use Rattle.std.specs.Prelude.{nat_eq, FitsSigned}
use Rattle.std.specs.Int.{cast_unsigned, cast_signed, w16}
use Rattle.std.proofs.lemmas.Int.{of_z-to_z, to_z-of_z}
use Rattle.std.proofs.Math.Nat.{pow-succ'}
use Rattle.rec_slot.specs.Slot.{number_of}

-- the bit of this worth in a byte
abbrev pub bit_at : ℕ → ℕ → Bool
bit_at byte worth = nat_eq (byte / worth % 2) 1

-- a bit is worth as much as its digit says
worth_of_digit : (digit worth : ℕ) → digit < 2 → cond (nat_eq digit 1) worth 0 ≡ worth * digit
worth_of_digit zero worth small = omega arith
worth_of_digit (suc zero) worth small = omega arith
worth_of_digit (suc (suc digit)) worth small = absurd (omega arith)

worth_of : (quotient worth : ℕ) → cond (nat_eq (quotient % 2) 1) worth 0 ≡ worth * (quotient % 2)
worth_of quotient worth = worth_of_digit (quotient % 2) worth (omega arith)

-- a byte is the number of its bits
pub eight_bits : (b : ℕ) → b < 256 → number_of (bit_at b 128 ∷ bit_at b 64 ∷ bit_at b 32 ∷ bit_at b 16 ∷ bit_at b 8 ∷ bit_at b 4 ∷ bit_at b 2 ∷ bit_at b 1 ∷ []) ≡ b
eight_bits b small = omega (arith, worth_of (b / 128) 128, worth_of (b / 64) 64, worth_of (b / 32) 32, worth_of (b / 16) 16, worth_of (b / 8) 8, worth_of (b / 4) 4, worth_of (b / 2) 2, worth_of (b / 1) 1)

pub high_nibble : (b : ℕ) → b < 256 → b % 16 ≡ 0 → number_of (bit_at b 128 ∷ bit_at b 64 ∷ bit_at b 32 ∷ bit_at b 16 ∷ false ∷ false ∷ false ∷ false ∷ []) ≡ b
high_nibble b small empty = omega (arith, worth_of (b / 128) 128, worth_of (b / 64) 64, worth_of (b / 32) 32, worth_of (b / 16) 16)

-- a component that is read of two bytes has these bytes
read_back : (v : ℤ) (high low : ℕ) → high < 256 → low < 256 → v ≡ cast_signed w16 (256 * high + low) → cast_unsigned w16 v ≡ 256 * high + low
read_back v high low a b is = ap (cast_unsigned w16) is ∙ of_z-to_z w16 (256 * high + low) (omega arith)

pub high_byte : (v : ℤ) (high low : ℕ) → high < 256 → low < 256 → v ≡ cast_signed w16 (256 * high + low) → cast_unsigned w16 v / 256 ≡ high
high_byte v high low a b is = omega (arith, read_back v high low a b is)

pub low_byte : (v : ℤ) (high low : ℕ) → high < 256 → low < 256 → v ≡ cast_signed w16 (256 * high + low) → cast_unsigned w16 v % 256 ≡ low
low_byte v high low a b is = omega (arith, read_back v high low a b is)

-- as many bits with the same number are the same bits
below : (bits : List Bool) → number_of bits < 2 ^ length bits
below [] = omega arith
below (true ∷ bits) = omega (arith, below bits, pow-succ' 2 (length bits))
below (false ∷ bits) = omega (arith, below bits, pow-succ' 2 (length bits))

pub same_bits : (xs ys : List Bool) → length xs ≡ length ys → number_of xs ≡ number_of ys → xs ≡ ys
same_bits [] [] size same = refl
same_bits [] (y ∷ ys) size same = absurd (omega arith)
same_bits (x ∷ xs) [] size same = absurd (omega arith)
same_bits (true ∷ xs) (true ∷ ys) size same = let k : length xs ≡ length ys = omega arith in ap (λ bits. true ∷ bits) (same_bits xs ys k (omega (arith, ap (λ n. 2 ^ n) k)))
same_bits (false ∷ xs) (false ∷ ys) size same = let k : length xs ≡ length ys = omega arith in ap (λ bits. false ∷ bits) (same_bits xs ys k (omega arith))
same_bits (true ∷ xs) (false ∷ ys) size same = let k : length xs ≡ length ys = omega arith in absurd (omega (arith, below ys, ap (λ n. 2 ^ n) k))
same_bits (false ∷ xs) (true ∷ ys) size same = let k : length xs ≡ length ys = omega arith in absurd (omega (arith, below xs, ap (λ n. 2 ^ n) k))

-- components with the same bytes are the same
pub same_component : (a b : ℤ) → FitsSigned w16 a → FitsSigned w16 b → cast_unsigned w16 a / 256 ≡ cast_unsigned w16 b / 256 → cast_unsigned w16 a % 256 ≡ cast_unsigned w16 b % 256 → a ≡ b
same_component a b fits_a fits_b high low =
    let same : cast_unsigned w16 a ≡ cast_unsigned w16 b = omega arith in
    sym (to_z-of_z w16 a fits_a) ∙ (ap (cast_signed w16) same ∙ to_z-of_z w16 b fits_b)
