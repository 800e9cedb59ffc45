-- Bits that are kept as a number.
use Rattle.std.proofs.Common.{◌&&◌, eqb, ◌≡◌, ℕ, zero, suc, ◌+◌, ◌-◌, ◌*◌, ◌/◌, ◌%◌, ◌^◌, ◌<◌, ◌≤◌, Bool, true, false, List, [], ◌∷◌, ◌++◌, get_or, drop, refl, ap, sym, ◌∙◌, arith, append_assoc, zero-add, suc-add, add_comm, add-zero, drop-drop, get_or-drop}
use Rattle.std.proofs.lemmas.Nat.{pow_pos, shr_high, mod_low, one_shl, field_of, shr-shr}
use Rattle.std.proofs.Math.Pow.{mod-mod-pow, pow_mono}
use Rattle.std.specs.List.{list_all}
use Rattle.mv_bits.specs.Bits.{digits, bits_of, front, worth, trim, none_left}
use Rattle.mv_bits.proofs.BitLaws.{front_lt, front-digits, drop-digits, front_byte, drop_bytes, IsBytes-drop, IsBytes}
use Rattle.mv_bits.proofs.TrimLaws.{front-trim, drop-trim, trim-append, none_left-split, none_left-bytes}

pub digits-mod : (n k v : ℕ) → digits n (v % 2 ^ (n + k)) ≡ digits n v
unfolding digits
digits-mod zero k v = refl
digits-mod (suc n) k v =
    let split : suc n + k ≡ (1 + k) + n = omega arith in
    let other : suc n + k ≡ n + (1 + k) = omega arith in
    let one : 1 + k ≡ k + 1 = omega arith in
    let bit : v % 2 ^ (suc n + k) / 2 ^ n % 2 ≡ v / 2 ^ n % 2 =
    ap (λ e. v % 2 ^ e / 2 ^ n % 2) split ∙ ap (λ x. x % 2) (field_of v (1 + k) n) ∙ ap (λ e. v / 2 ^ n % 2 ^ e % 2) one ∙ mod-mod-pow (v / 2 ^ n) k 1 in
    let rest : digits n (v % 2 ^ (suc n + k)) ≡ digits n v = ap (λ e. digits n (v % 2 ^ e)) other ∙ digits-mod n (1 + k) v in
    rw (bit, rest) refl

pub digits-add : (m n v : ℕ) → digits (m + n) v ≡ digits m (v / 2 ^ n) ++ digits n v
unfolding digits
digits-add zero n v = rw (zero-add n) refl
digits-add (suc m) n v =
    let e : v / 2 ^ n / 2 ^ m ≡ v / 2 ^ (m + n) = shr-shr v n m ∙ ap (λ e. v / 2 ^ e) (add_comm n m) in
    rw (suc-add m n, digits-add m n v, e) refl

-- the byte at a place, with n bits behind it
front_at : (k n : ℕ) (bytes : List ℕ) → IsBytes bytes → front (8 + n) (bits_of (drop k bytes)) ≡ get_or bytes k 0 * 2 ^ n + front n (bits_of (drop (k + 1) bytes))
front_at k n bytes h =
    let e = front_byte n (drop k bytes) (IsBytes-drop k bytes h) in
    rw (get_or-drop k bytes 0 0, add-zero k, drop-drop 1 k bytes) at e

pub front_word : (bytes : List ℕ) → IsBytes bytes → (get_or bytes 0 0 * 256 + get_or bytes 1 0) * 65536 + (get_or bytes 2 0 * 256 + get_or bytes 3 0) ≡ front 32 (bits_of bytes)
unfolding front
front_word bytes h = omega (arith, front_at 0 24 bytes h, front_at 1 16 bytes h, front_at 2 8 bytes h, front_at 3 0 bytes h)

pub drop_word : (bytes : List ℕ) → bits_of (drop 4 bytes) ≡ drop 32 (bits_of bytes)
drop_word bytes = sym (drop_bytes 4 bytes)

zero_div : (n : ℕ) → 0 / n ≡ 0
zero_div n = omega arith

zeros : (n : ℕ) → trim (digits n 0 ++ []) ≡ []
unfolding digits trim
zeros zero = refl
zeros (suc n) = rw (zero_div (2 ^ n), zeros n) refl

worth_bit : (b : Bool) → eqb (worth b % 2) 1 ≡ b
worth_bit true = refl
worth_bit false = refl

-- the lower digits of a number
digits_low : (n high low : ℕ) → low < 2 ^ n → digits n (high * 2 ^ n + low) ≡ digits n low
digits_low n high low h =
    let same : n + 0 ≡ n = omega arith in
    sym (digits-mod n 0 (high * 2 ^ n + low)) ∙ rw (same, mod_low high n low h) refl

-- the first n bits as digits of their number, with what is behind them, read the same
pub split_front : (n : ℕ) (bits : List Bool) → trim (digits n (front n bits) ++ drop n bits) ≡ trim bits
unfolding digits front trim
split_front zero bits = refl
split_front (suc n) [] = zeros (suc n)
split_front (suc n) (b ∷ bits) =
    let low = front_lt n bits in
    rw (shr_high (worth b) n (front n bits) low, worth_bit b, digits_low n (worth b) (front n bits) low, split_front n bits) refl

-- a word more is kept
pub word_kept : (kept count word : ℕ) (rest behind : List ℕ) → count < 32 → word < 2 ^ 32 → word ≡ front 32 (bits_of rest) → bits_of behind ≡ drop 32 (bits_of rest)
    → trim (digits (count + 32) (kept % 2 ^ 32 * 2 ^ 32 + word) ++ bits_of behind) ≡ trim (digits count kept ++ bits_of rest)
word_kept kept count word rest behind few small is next =
    let whole : count + (32 - count) ≡ 32 = omega arith in
    let high = digits-mod count (32 - count) kept in
    let high' : digits count (kept % 2 ^ 32) ≡ digits count kept = rw whole at high in
    let split : digits (count + 32) (kept % 2 ^ 32 * 2 ^ 32 + word) ≡ digits count kept ++ digits 32 word =
    digits-add count 32 (kept % 2 ^ 32 * 2 ^ 32 + word) ∙ rw (shr_high (kept % 2 ^ 32) 32 word small, digits_low 32 (kept % 2 ^ 32) word small, high') refl in
    let word_is : trim (digits 32 word ++ bits_of behind) ≡ trim (bits_of rest) = rw (next, is) (split_front 32 (bits_of rest)) in
    rw (split, append_assoc (digits count kept) (digits 32 word) (bits_of behind))
    (sym (trim-append (digits count kept) (digits 32 word ++ bits_of behind)) ∙ rw word_is (trim-append (digits count kept) (bits_of rest)))

kept_split : (kept count n : ℕ) → n ≤ count → digits count kept ≡ digits n (kept / 2 ^ (count - n)) ++ digits (count - n) kept
kept_split kept count n h = let e : count ≡ n + (count - n) = omega arith in ap (λ c. digits c kept) e ∙ digits-add n (count - n) kept

pub front_kept : (kept count n value : ℕ) (tail bits : List Bool) → n ≤ count → trim (digits count kept ++ tail) ≡ bits → value ≡ kept / 2 ^ (count - n) % 2 ^ n → value ≡ front n bits
front_kept kept count n value tail bits h e v =
    v ∙ sym (rw (← e, front-trim n (digits count kept ++ tail), kept_split kept count n h, append_assoc (digits n (kept / 2 ^ (count - n))) (digits (count - n) kept) tail) (front-digits n (kept / 2 ^ (count - n)) (digits (count - n) kept ++ tail)))

pub drop_kept : (kept count n : ℕ) (tail bits shown : List Bool) → n ≤ count → trim (digits count kept ++ tail) ≡ bits → shown ≡ trim (digits (count - n) kept ++ tail) → shown ≡ drop n bits
drop_kept kept count n tail bits shown h e s =
    s ∙ sym (rw (← e, drop-trim n (digits count kept ++ tail), kept_split kept count n h, append_assoc (digits n (kept / 2 ^ (count - n))) (digits (count - n) kept) tail, drop-digits n (kept / 2 ^ (count - n)) (digits (count - n) kept ++ tail)) refl)

pub none_kept : (kept count : ℕ) (rest : List ℕ) → IsBytes rest → none_left (trim (digits count kept ++ bits_of rest)) ≡ (eqb (kept % 2 ^ count) 0 && list_all (λ b. eqb b 0) rest)
none_kept kept count rest bytes =
    none_left-split count (digits count kept ++ bits_of rest) ∙ rw (front-digits count kept (bits_of rest), drop-digits count kept (bits_of rest), none_left-bytes rest bytes) refl

-- what the test of the kept bits leaves to the others
pub none_then : (kept count : ℕ) (rest : List ℕ) (first others : Bool) → IsBytes rest → first ≡ eqb (kept % 2 ^ count) 0 → first ≡ true → others ≡ list_all (λ b. eqb b 0) rest → others ≡ none_left (trim (digits count kept ++ bits_of rest))
none_then kept count rest first others bytes z t o = rw (none_kept kept count rest bytes, ← z, t) o

pub none_else : (kept count : ℕ) (rest : List ℕ) (first : Bool) → IsBytes rest → first ≡ eqb (kept % 2 ^ count) 0 → first ≡ false → first ≡ none_left (trim (digits count kept ++ bits_of rest))
none_else kept count rest first bytes z f = rw (none_kept kept count rest bytes, ← z, f) refl

pub first_fits : (v n : ℕ) → n ≤ 32 → v % (1 * 2 ^ n % 2 ^ 64) < 2 ^ 32
first_fits v n h = rw (one_shl n 64 (omega arith)) (omega (arith, pow_pos n, pow_mono h))

pub first_value : (v n : ℕ) → n ≤ 32 → v % (1 * 2 ^ n % 2 ^ 64) ≡ v % 2 ^ n
first_value v n h = rw (one_shl n 64 (omega arith)) refl
