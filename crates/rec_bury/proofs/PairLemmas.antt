-- The eight pairs of two bytes, and back.
use Rattle.std.proofs.Common.{◌≡◌, ℕ, zero, suc, ◌+◌, ◌*◌, ◌/◌, ◌%◌, ◌<◌, arith}
use Rattle.rec_bury.specs.Buried.{pair_of}
use Rattle.rec_bury.specs.Steps.{pair_of_word}

at_byte : (f : ℕ → ℕ) (k n j i w : ℕ) → j ≡ n / 4 → i ≡ n % 4 → w ≡ pair_of (f j) i → w ≡ pair_of (f (n / 4)) (n % 4)
at_byte f k n j i w e g h = rw (← e, ← g) h

-- the pairs of the two bytes 2b and 2b + 1, of bytes by their number
pub word_pair : (f : ℕ → ℕ) (b x : ℕ) → f (2 * b) < 256 → f (2 * b + 1) < 256 → x < 8 → pair_of_word (256 * f (2 * b) + f (2 * b + 1)) x ≡ pair_of (f ((8 * b + x) / 4)) ((8 * b + x) % 4)
word_pair f b zero h l s = at_byte f b (8 * b + 0) (2 * b) 0 _ (omega arith) (omega arith) (omega arith)
word_pair f b (suc zero) h l s = at_byte f b (8 * b + 1) (2 * b) 1 _ (omega arith) (omega arith) (omega arith)
word_pair f b (suc (suc zero)) h l s = at_byte f b (8 * b + 2) (2 * b) 2 _ (omega arith) (omega arith) (omega arith)
word_pair f b (suc (suc (suc zero))) h l s = at_byte f b (8 * b + 3) (2 * b) 3 _ (omega arith) (omega arith) (omega arith)
word_pair f b (suc (suc (suc (suc zero)))) h l s = at_byte f b (8 * b + 4) (2 * b + 1) 0 _ (omega arith) (omega arith) (omega arith)
word_pair f b (suc (suc (suc (suc (suc zero))))) h l s = at_byte f b (8 * b + 5) (2 * b + 1) 1 _ (omega arith) (omega arith) (omega arith)
word_pair f b (suc (suc (suc (suc (suc (suc zero)))))) h l s = at_byte f b (8 * b + 6) (2 * b + 1) 2 _ (omega arith) (omega arith) (omega arith)
word_pair f b (suc (suc (suc (suc (suc (suc (suc zero))))))) h l s = at_byte f b (8 * b + 7) (2 * b + 1) 3 _ (omega arith) (omega arith) (omega arith)
word_pair f b (suc (suc (suc (suc (suc (suc (suc (suc x)))))))) h l s = absurd (omega arith)

pub small_pair : (byte n : ℕ) → pair_of byte n < 4
small_pair byte n = omega arith

-- a byte of its four pairs
pub byte_of_pairs : (byte : ℕ) → byte < 256 → 64 * pair_of byte 0 + 16 * pair_of byte 1 + 4 * pair_of byte 2 + pair_of byte 3 ≡ byte
byte_of_pairs byte h = omega arith
