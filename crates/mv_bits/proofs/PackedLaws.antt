-- Bits as bytes, and bytes without the zero bytes that end them.
use Rattle.std.proofs.Common.{◌≡◌, ◌⊎◌, ℕ, zero, suc, ◌+◌, ◌-◌, ◌*◌, ◌/◌, ◌%◌, ◌^◌, ◌<◌, ◌≤◌, Bool, true, false, List, [], ◌∷◌, ◌++◌, length, take, drop, replicate, refl, sym, subst, ap, ◌∙◌, inl, inr, arith, append_assoc, length-append, mod-eq_of_lt}
use Rattle.std.proofs.lemmas.Bool.{cases_lt}
use Rattle.std.proofs.lemmas.List.{append-nil, length-replicate, replicate-append-replicate, length-drop, length-take-le, take-append-drop, drop_all}
use Rattle.mv_bits.specs.Bits.{worth, digits, bits_of, front, trim}
use Rattle.mv_bits.specs.Packed.{bytes_from, packed, in_front, without_last_zeros}
use Rattle.mv_bits.specs.Writing.{AreBytes}
use Rattle.mv_bits.specs.Zeros.{zero_bytes, zeros_at_end}
use Rattle.mv_bits.proofs.BitLaws.{front_lt, front-digits, drop-digits, length-digits, length-bits_of}
use Rattle.mv_bits.proofs.TrimLaws.{front-trim, drop-trim, trim-zeros}
use Rattle.mv_bits.proofs.WritingLemmas.{bits_of-append}
use Rattle.mv_bits.proofs.ZeroByteLaws.{zero_len, zeros_more, solid, solid_split}

same_bit : (b c : Bool) (p x y : ℕ) → x < p → y < p → worth b * p + x ≡ worth c * p + y → (b ≡ c) × (x ≡ y)
same_bit true true p x y h k e = (refl, omega (arith, e))
same_bit true false p x y h k e = absurd (omega (arith, e, h, k))
same_bit false true p x y h k e = absurd (omega (arith, e, h, k))
same_bit false false p x y h k e = (refl, omega (arith, e))

-- as many bits that are the same number are the same
pub front_once : (n : ℕ) (xs ys : List Bool) → length xs ≡ n → length ys ≡ n → front n xs ≡ front n ys → xs ≡ ys
unfolding front
front_once zero [] [] h k e = refl
front_once zero (x ∷ xs) ys h k e = absurd (omega (arith, h))
front_once zero [] (y ∷ ys) h k e = absurd (omega (arith, k))
front_once (suc n) [] ys h k e = absurd (omega (arith, h))
front_once (suc n) (x ∷ xs) [] h k e = absurd (omega (arith, k))
front_once (suc n) (x ∷ xs) (y ∷ ys) h k e =
    let f = same_bit x y (2 ^ n) (front n xs) (front n ys) (front_lt n xs) (front_lt n ys) e in
    rw (f.0, front_once n xs ys (omega (arith, h)) (omega (arith, k)) f.1) refl

front_take : (n : ℕ) (bits : List Bool) → front n (take n bits) ≡ front n bits
unfolding front
front_take zero bits = refl
front_take (suc n) [] = refl
front_take (suc n) (b ∷ bits) = ap (λ (z : ℕ). worth b * 2 ^ n + z) (front_take n bits)

digits_front : (n : ℕ) (xs bits : List Bool) → length xs ≡ n → front n xs ≡ front n bits → digits n (front n bits) ≡ xs
digits_front n xs bits h e =
    let small : front n bits % 2 ^ n ≡ front n bits = mod-eq_of_lt (front_lt n bits) in
    let f = rw (append-nil (digits n (front n bits))) at (front-digits n (front n bits) []) in
    front_once n (digits n (front n bits)) xs (length-digits n (front n bits)) h (f ∙ small ∙ sym e)

front_padded : (n k : ℕ) (bits : List Bool) → front n (bits ++ replicate k false) ≡ front n bits
front_padded n k bits = sym (front-trim n (bits ++ replicate k false)) ∙ ap (front n) (trim-zeros bits k) ∙ front-trim n bits

zero_byte_bits : digits 8 0 ≡ replicate 8 false
unfolding digits
zero_byte_bits = refl

pub bits_of-zero_bytes : (k : ℕ) → bits_of (zero_bytes k) ≡ replicate (8 * k) false
unfolding bits_of
bits_of-zero_bytes zero = refl
bits_of-zero_bytes (suc k) =
    let more : 8 * suc k ≡ 8 + 8 * k = omega arith in
    rw more (ap (λ (z : List Bool). z ++ bits_of (zero_bytes k)) zero_byte_bits ∙ ap (λ (z : List Bool). replicate 8 false ++ z) (bits_of-zero_bytes k) ∙ replicate-append-replicate 8 (8 * k) false)

no_bytes : bits_of (bytes_from 0 []) ≡ [] ++ replicate (8 * 0 - 0) false
unfolding bits_of bytes_from
no_bytes = refl

bytes_of_none : (n : ℕ) → bytes_from n [] ≡ zero_bytes n
unfolding bytes_from front
bytes_of_none zero = refl
bytes_of_none (suc n) = ap (λ (z : List ℕ). 0 ∷ z) (bytes_of_none n)

one_byte : (n : ℕ) (bits : List Bool) → bits_of (bytes_from (suc n) bits) ≡ digits 8 (front 8 bits) ++ bits_of (bytes_from n (drop 8 bits))
unfolding bits_of bytes_from
one_byte n bits = refl

-- bytes of bits are the bits, with zeros behind them
pub bits_of-bytes_from : (n : ℕ) (bits : List Bool) → length bits ≤ 8 * n → bits_of (bytes_from n bits) ≡ bits ++ replicate (8 * n - length bits) false
bits_of-bytes_from zero [] h = no_bytes
bits_of-bytes_from zero (b ∷ bits) h = absurd (omega (arith, h))
bits_of-bytes_from (suc n) bits h = by_length (cases_lt (length bits) 8) (bits_of-bytes_from n (drop 8 bits) (omega (arith, h, length-drop 8 bits))) where
  by_length : (length bits < 8) ⊎ (8 ≤ length bits) → bits_of (bytes_from n (drop 8 bits)) ≡ drop 8 bits ++ replicate (8 * n - length (drop 8 bits)) false
      → bits_of (bytes_from (suc n) bits) ≡ bits ++ replicate (8 * suc n - length bits) false
  by_length (inl short) later =
      let some : 8 ≡ length bits + (8 - length bits) = omega (arith, short) in
      let len : length (bits ++ replicate (8 - length bits) false) ≡ 8 = length-append bits (replicate (8 - length bits) false) ∙ ap (λ (z : ℕ). length bits + z) (length-replicate (8 - length bits) false) ∙ sym some in
      let first = digits_front 8 (bits ++ replicate (8 - length bits) false) bits len (front_padded 8 (8 - length bits) bits) in
      let none : drop 8 bits ≡ [] = drop_all 8 bits (omega (arith, short)) in
      let rest : bits_of (bytes_from n (drop 8 bits)) ≡ replicate (8 * n) false = ap (λ (z : List Bool). bits_of (bytes_from n z)) none ∙ ap bits_of (bytes_of_none n) ∙ bits_of-zero_bytes n in
      let sum : 8 - length bits + 8 * n ≡ 8 * suc n - length bits = omega (arith, short) in
      one_byte n bits ∙ ap (λ (z : List Bool). z ++ bits_of (bytes_from n (drop 8 bits))) first ∙ ap (λ (z : List Bool). (bits ++ replicate (8 - length bits) false) ++ z) rest
      ∙ append_assoc bits (replicate (8 - length bits) false) (replicate (8 * n) false) ∙ ap (λ (z : List Bool). bits ++ z) (replicate-append-replicate (8 - length bits) (8 * n) false) ∙ ap (λ (z : ℕ). bits ++ replicate z false) sum
  by_length (inr long) later =
      let first = digits_front 8 (take 8 bits) bits (length-take-le 8 bits long) (front_take 8 bits) in
      let sum : 8 * n - length (drop 8 bits) ≡ 8 * suc n - length bits = omega (arith, long, length-drop 8 bits) in
      one_byte n bits ∙ ap (λ (z : List Bool). z ++ bits_of (bytes_from n (drop 8 bits))) first ∙ ap (λ (z : List Bool). take 8 bits ++ z) later
      ∙ sym (append_assoc (take 8 bits) (drop 8 bits) (replicate (8 * n - length (drop 8 bits)) false))
      ∙ ap (λ (z : List Bool). z ++ replicate (8 * n - length (drop 8 bits)) false) (take-append-drop 8 bits) ∙ ap (λ (z : ℕ). bits ++ replicate z false) sum

-- how many zero bits fill the last byte
abbrev pub fill : List Bool → ℕ
fill bits = 8 * ((length bits + 7) / 8) - length bits

pub fill_few : (bits : List Bool) → fill bits < 8
fill_few bits = omega arith

pub bits_of-packed : (bits : List Bool) → bits_of (packed bits) ≡ bits ++ replicate (fill bits) false
bits_of-packed bits = bits_of-bytes_from ((length bits + 7) / 8) bits (omega arith)

length-bytes_from : (n : ℕ) (bits : List Bool) → length (bytes_from n bits) ≡ n
unfolding bytes_from
length-bytes_from zero bits = refl
length-bytes_from (suc n) bits = ap suc (length-bytes_from n (drop 8 bits))

pub length-packed : (bits : List Bool) → length (packed bits) ≡ (length bits + 7) / 8
length-packed bits = length-bytes_from ((length bits + 7) / 8) bits

are_bytes_from : (n : ℕ) (bits : List Bool) → AreBytes (bytes_from n bits)
unfolding bytes_from
are_bytes_from zero bits = tt
are_bytes_from (suc n) bits = (front_lt 8 bits, are_bytes_from n (drop 8 bits))

pub packed_are_bytes : (bits : List Bool) → AreBytes (packed bits)
packed_are_bytes bits = are_bytes_from ((length bits + 7) / 8) bits

-- packed bits read as the bits
pub trim-packed : (bits : List Bool) → trim (bits_of (packed bits)) ≡ trim bits
trim-packed bits = ap trim (bits_of-packed bits) ∙ trim-zeros bits (fill bits)

-- ---- bytes are known by their bits

from_trim : (bytes : List ℕ) (bits : List Bool) → AreBytes bytes → trim (bits_of bytes) ≡ trim bits → bytes_from (length bytes) bits ≡ bytes
unfolding bytes_from bits_of
from_trim [] bits h e = refl
from_trim (b ∷ bytes) bits h e =
    let small : b % 256 ≡ b = mod-eq_of_lt h.0 in
    let first : front 8 bits ≡ b = sym (front-trim 8 bits) ∙ ap (front 8) (sym e) ∙ front-trim 8 (digits 8 b ++ bits_of bytes) ∙ front-digits 8 b (bits_of bytes) ∙ small in
    let rest : trim (bits_of bytes) ≡ trim (drop 8 bits) =
    sym (ap trim (drop-digits 8 b (bits_of bytes))) ∙ sym (drop-trim 8 (digits 8 b ++ bits_of bytes)) ∙ ap (λ (z : List Bool). drop 8 z) e ∙ drop-trim 8 bits in
    rw (first, from_trim bytes (drop 8 bits) h.1 rest) refl

-- fewer than eight zero bits behind bits: these are their bytes
pub packed_only : (bytes : List ℕ) (bits : List Bool) (k : ℕ) → AreBytes bytes → k < 8 → bits_of bytes ≡ bits ++ replicate k false → bytes ≡ packed bits
packed_only bytes bits k h few e =
    let len = sym (length-bits_of bytes) ∙ ap (λ (z : List Bool). length z) e ∙ length-append bits (replicate k false) in
    let more : length (replicate k false) ≡ k = length-replicate k false in
    let count : length bytes ≡ (length bits + 7) / 8 = omega (arith, len, more, few) in
    sym (from_trim bytes bits h (ap trim e ∙ trim-zeros bits k)) ∙ ap (λ (n : ℕ). bytes_from n bits) count

-- ---- zero bytes at the end

in_front_length : (b : ℕ) (xs : List ℕ) → length (in_front b xs) ≤ suc (length xs)
in_front_length zero [] = omega arith
in_front_length zero (x ∷ xs) = omega arith
in_front_length (suc b) [] = omega arith
in_front_length (suc b) (x ∷ xs) = omega arith

pub without_last_zeros_shorter : (bytes : List ℕ) → length (without_last_zeros bytes) ≤ length bytes
unfolding without_last_zeros
without_last_zeros_shorter [] = omega arith
without_last_zeros_shorter (b ∷ bytes) = omega (arith, in_front_length b (without_last_zeros bytes), without_last_zeros_shorter bytes)

-- how many they are, by their lengths
abbrev dropped : List ℕ → ℕ
dropped bytes = length bytes - length (without_last_zeros bytes)

without_dropped : (bytes : List ℕ) → without_last_zeros bytes ++ zero_bytes (dropped bytes) ≡ bytes
unfolding without_last_zeros
without_dropped [] = refl
without_dropped (b ∷ bytes) = go b (without_last_zeros bytes) (without_last_zeros_shorter bytes) (without_dropped bytes) where
  go : (b : ℕ) (t : List ℕ) → length t ≤ length bytes → t ++ zero_bytes (length bytes - length t) ≡ bytes → in_front b t ++ zero_bytes (suc (length bytes) - length (in_front b t)) ≡ b ∷ bytes
  go zero [] h e = let n : suc (length bytes) - 0 ≡ suc (length bytes - 0) = omega arith in rw n (ap (λ (l : List ℕ). 0 ∷ l) e)
  go zero (x ∷ xs) h e = let n : suc (length bytes) - suc (suc (length xs)) ≡ length bytes - suc (length xs) = omega arith in rw n (ap (λ (l : List ℕ). 0 ∷ l) e)
  go (suc b) [] h e = let n : suc (length bytes) - 1 ≡ length bytes - 0 = omega arith in rw n (ap (λ (l : List ℕ). suc b ∷ l) e)
  go (suc b) (x ∷ xs) h e = let n : suc (length bytes) - suc (suc (length xs)) ≡ length bytes - suc (length xs) = omega arith in rw n (ap (λ (l : List ℕ). suc b ∷ l) e)

without_last_zeros_none : (k : ℕ) → without_last_zeros (zero_bytes k) ≡ []
unfolding without_last_zeros
without_last_zeros_none zero = refl
without_last_zeros_none (suc k) = rw (without_last_zeros_none k) refl

pub without_last_zeros-append : (bytes : List ℕ) (k : ℕ) → without_last_zeros (bytes ++ zero_bytes k) ≡ without_last_zeros bytes
unfolding without_last_zeros
without_last_zeros-append [] k = without_last_zeros_none k
without_last_zeros-append (b ∷ bytes) k = ap (in_front b) (without_last_zeros-append bytes k)

in_front_twice : (b : ℕ) (xs : List ℕ) → without_last_zeros (in_front b xs) ≡ in_front b (without_last_zeros xs)
unfolding without_last_zeros
in_front_twice zero [] = refl
in_front_twice zero (x ∷ xs) = refl
in_front_twice (suc b) [] = refl
in_front_twice (suc b) (x ∷ xs) = refl

pub without_last_zeros_twice : (bytes : List ℕ) → without_last_zeros (without_last_zeros bytes) ≡ without_last_zeros bytes
unfolding without_last_zeros
without_last_zeros_twice [] = refl
without_last_zeros_twice (b ∷ bytes) = in_front_twice b (without_last_zeros bytes) ∙ ap (in_front b) (without_last_zeros_twice bytes)

-- no zero byte ends what they leave
no_zeros_left : (bytes : List ℕ) → without_last_zeros bytes ≡ bytes → zeros_at_end bytes ≡ 0
no_zeros_left bytes e =
    let k : ℕ = zeros_at_end bytes in
    let split = (solid_split bytes).0 in
    let same : bytes ≡ without_last_zeros (solid bytes) = sym e ∙ ap without_last_zeros split ∙ without_last_zeros-append (solid bytes) k in
    let len = ap (λ (z : List ℕ). length z) split ∙ length-append (solid bytes) (zero_bytes k) in
    omega (arith, ap (λ (z : List ℕ). length z) same, without_last_zeros_shorter (solid bytes), len, zero_len k)

pub without_last_zeros_ends : (bytes : List ℕ) → zeros_at_end (without_last_zeros bytes) ≡ 0
without_last_zeros_ends bytes = no_zeros_left (without_last_zeros bytes) (without_last_zeros_twice bytes)

-- the bytes are those that are left, and the zero bytes at their end
pub without_last_zeros_whole : (bytes : List ℕ) → without_last_zeros bytes ++ zero_bytes (zeros_at_end bytes) ≡ bytes
without_last_zeros_whole bytes =
    let same : dropped bytes ≡ zeros_at_end bytes = sym (zeros_more (without_last_zeros bytes) (dropped bytes) (without_last_zeros_ends bytes)) ∙ ap zeros_at_end (without_dropped bytes) in
    subst (λ (n : ℕ). without_last_zeros bytes ++ zero_bytes n ≡ bytes) same (without_dropped bytes)

-- bytes that no zero byte ends, and how many zero bytes stand behind them, are known by the whole
pub without_last_zeros_once : (xs ys : List ℕ) (m n : ℕ) → without_last_zeros xs ≡ xs → without_last_zeros ys ≡ ys → xs ++ zero_bytes m ≡ ys ++ zero_bytes n → (xs ≡ ys) × (m ≡ n)
without_last_zeros_once xs ys m n x y e =
    let same : xs ≡ ys = sym x ∙ sym (without_last_zeros-append xs m) ∙ ap without_last_zeros e ∙ without_last_zeros-append ys n ∙ y in
    let len = sym (length-append xs (zero_bytes m)) ∙ ap (λ (z : List ℕ). length z) e ∙ length-append ys (zero_bytes n) in
    (same, omega (arith, len, zero_len m, zero_len n, ap (λ (z : List ℕ). length z) same))

pub trim-zero_bytes : (bytes : List ℕ) (k : ℕ) → trim (bits_of (bytes ++ zero_bytes k)) ≡ trim (bits_of bytes)
trim-zero_bytes bytes k = ap trim (bits_of-append bytes (zero_bytes k) ∙ ap (λ (z : List Bool). bits_of bytes ++ z) (bits_of-zero_bytes k)) ∙ trim-zeros (bits_of bytes) (8 * k)

-- they read the same
pub trim-without_last_zeros : (bytes : List ℕ) → trim (bits_of (without_last_zeros bytes)) ≡ trim (bits_of bytes)
trim-without_last_zeros bytes = sym (trim-zero_bytes (without_last_zeros bytes) (zeros_at_end bytes)) ∙ ap (λ (z : List ℕ). trim (bits_of z)) (without_last_zeros_whole bytes)

pub without_last_zeros_bytes : (bytes : List ℕ) → AreBytes bytes → AreBytes (without_last_zeros bytes)
unfolding without_last_zeros
without_last_zeros_bytes [] h = tt
without_last_zeros_bytes (b ∷ bytes) h = go b (without_last_zeros bytes) h.0 (without_last_zeros_bytes bytes h.1) where
  go : (b : ℕ) (t : List ℕ) → b < 256 → AreBytes t → AreBytes (in_front b t)
  go zero [] small h = tt
  go zero (x ∷ xs) small h = (small, h)
  go (suc b) [] small h = (small, h)
  go (suc b) (x ∷ xs) small h = (small, h)
