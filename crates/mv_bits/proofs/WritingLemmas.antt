-- Bits that were put, part by part.
use Rattle.std.proofs.Common.{◌≡◌, ℕ, zero, suc, ◌+◌, ◌-◌, ◌*◌, ◌/◌, ◌%◌, ◌^◌, ◌<◌, ◌≤◌, Bool, true, false, List, [], ◌∷◌, ◌++◌, length, replicate, refl, ap, sym, ◌∙◌, subst, arith, append_assoc, add-zero}
use Rattle.std.proofs.lemmas.List.{append-nil}
use Rattle.std.proofs.lemmas.Nat.{pow-add, mod_low, shr_high, shl_whole, mul-add-lt, shr_below, one_shl, mod_below, pow_pos}
use Rattle.std.proofs.Math.Nat.{zero-div}
use Rattle.mv_bits.specs.Bits.{digits, bits_of, worth}
use Rattle.mv_bits.specs.Receivers.{HasPut}
use Rattle.mv_bits.specs.Writing.{AreBytes, Writes, padding}
use Rattle.mv_bits.proofs.BitLaws.{length-digits}
use Rattle.mv_bits.proofs.KeptLaws.{digits-mod, digits-add}

pub bits_of-append : (xs ys : List ℕ) → bits_of (xs ++ ys) ≡ bits_of xs ++ bits_of ys
unfolding bits_of
bits_of-append [] ys = refl
bits_of-append (x ∷ xs) ys = rw (bits_of-append xs ys) (sym (append_assoc (digits 8 x) (bits_of xs) (bits_of ys)))

pub AreBytes-append : (xs ys : List ℕ) → AreBytes xs → AreBytes ys → AreBytes (xs ++ ys)
AreBytes-append [] ys h k = k
AreBytes-append (x ∷ xs) ys h k = (h.0, AreBytes-append xs ys h.1 k)

flag_digits : (flag : Bool) → digits 1 (worth flag) ≡ flag ∷ []
unfolding digits
flag_digits true = refl
flag_digits false = refl

module _ {P Kind : Type 0} (stands : P → Kind → List ℕ → Type 0) where
  pub Writes-none : (p : P) (pending : List Bool) → Writes stands p p pending pending []
  unfolding bits_of
  Writes-none p pending = record {
    whole = [];
    are_bytes = tt;
    has_put = λ kind before s. rw (append-nil before) s;
    in_order = sym (append-nil pending);
  }

  pub Writes-append : (p q r : P) (a b c xs ys : List Bool) → Writes stands p q a b xs → Writes stands q r b c ys → Writes stands p r a c (xs ++ ys)
  Writes-append p q r a b c xs ys v w = record {
    whole = v.whole ++ w.whole;
    are_bytes = AreBytes-append v.whole w.whole v.are_bytes w.are_bytes;
    has_put = λ kind before s. rw (← append_assoc before v.whole w.whole) (w.has_put kind (before ++ v.whole) (v.has_put kind before s));
    in_order =
        ap (λ (z : List Bool). z ++ c) (bits_of-append v.whole w.whole) ∙ append_assoc (bits_of v.whole) (bits_of w.whole) c ∙ ap (λ (z : List Bool). bits_of v.whole ++ z) w.in_order
        ∙ sym (append_assoc (bits_of v.whole) b ys) ∙ ap (λ (z : List Bool). z ++ ys) v.in_order ∙ append_assoc a xs ys;
  }

  -- pending bits and others behind them, as if nothing had been pending
  pub Writes-behind : (p q : P) (pending left xs : List Bool) → Writes stands p q [] left (pending ++ xs) → Writes stands p q pending left xs
  Writes-behind p q pending left xs v = record { whole = v.whole; are_bytes = v.are_bytes; has_put = v.has_put; in_order = v.in_order }

  pub Writes-start : (p : P) (xs : List Bool) → Writes stands p p [] xs xs
  unfolding bits_of
  Writes-start p xs = record { whole = []; are_bytes = tt; has_put = λ kind before s. rw (append-nil before) s; in_order = refl }

  -- the first byte of what is left goes into the receiver
  byte_more : (p q r : P) (xs : List Bool) (count bits : ℕ) → Writes stands p q [] (digits (8 + count) bits) xs → HasPut stands q r (bits / 2 ^ count ∷ []) → bits / 2 ^ count < 256 → Writes stands p r [] (digits count (bits % 2 ^ count)) xs
  unfolding bits_of
  byte_more p q r xs count bits v h small =
      let byte = bits / 2 ^ count in
      let low = rw (add-zero count) at (digits-mod count 0 bits) in
      record {
        whole = v.whole ++ byte ∷ [];
        are_bytes = AreBytes-append v.whole (byte ∷ []) v.are_bytes (small, tt);
        has_put = λ kind before s. rw (← append_assoc before v.whole (byte ∷ [])) (h kind (before ++ v.whole) (v.has_put kind before s));
        in_order =
            ap (λ (z : List Bool). z ++ digits count (bits % 2 ^ count)) (bits_of-append v.whole (byte ∷ [])) ∙ append_assoc (bits_of v.whole) (digits 8 byte ++ []) (digits count (bits % 2 ^ count))
            ∙ ap (λ (z : List Bool). bits_of v.whole ++ z) (rw (append-nil (digits 8 byte), low) (sym (digits-add 8 count bits))) ∙ v.in_order;
      }

  pub Writes-byte : (p q r : P) (xs : List Bool) (count bits : ℕ) → 8 ≤ count → count ≤ 40 → Writes stands p q [] (digits count bits) xs → HasPut stands q r (bits / 2 ^ (count - 8) ∷ []) → bits / 2 ^ (count - 8) < 256
      → Writes stands p r [] (digits (count - 8) (bits % (1 * 2 ^ (count - 8) % 2 ^ 64))) xs
  Writes-byte p q r xs count bits some most v h small =
      let k : count ≡ 8 + (count - 8) = omega arith in
      rw (one_shl (count - 8) 64 (omega arith)) (byte_more p q r xs (count - 8) bits (subst (λ (n : ℕ). Writes stands p q [] (digits n bits) xs) k v) h small)

  -- a field of one bit is the bit
  pub flag_put : (p q : P) (a b : List Bool) (flag : Bool) (n : ℕ) → n ≡ worth flag → Writes stands p q a b (digits 1 n) → Writes stands p q a b (flag ∷ [])
  flag_put p q a b flag n e w = subst (λ (xs : List Bool). Writes stands p q a b xs) (ap (digits 1) e ∙ flag_digits flag) w

  -- whole bytes leave nothing
  pub all_put : (p q : P) (left count : ℕ) (xs : List Bool) → count ≡ 0 → Writes stands p q [] (digits count left) xs → Writes stands p q [] [] xs
  unfolding digits
  all_put p q left count xs e w = subst (λ (n : ℕ). Writes stands p q [] (digits n left) xs) e w

  -- a whole word in front of what is left
  pub word_put : (p q : P) (count bits : ℕ) → 32 ≤ count → count < 64 → Writes stands p q [] [] (digits 32 (bits / 2 ^ (count - 32)))
      → Writes stands p q [] (digits (count - 32) (bits % (1 * 2 ^ (count - 32) % 2 ^ 64))) (digits count bits)
  word_put p q count bits some few w =
      let k : count ≡ 32 + (count - 32) = omega arith in
      let low = rw (add-zero (count - 32)) at (digits-mod (count - 32) 0 bits) in
      let rest : digits (count - 32) (bits % (1 * 2 ^ (count - 32) % 2 ^ 64)) ≡ digits (count - 32) bits = rw (one_shl (count - 32) 64 (omega arith)) low in
      let whole : digits 32 (bits / 2 ^ (count - 32)) ++ digits (count - 32) bits ≡ digits count bits = sym (ap (λ (n : ℕ). digits n bits) k ∙ digits-add 32 (count - 32) bits) in
      subst (λ (xs : List Bool). Writes stands p q [] (digits (count - 32) (bits % (1 * 2 ^ (count - 32) % 2 ^ 64))) xs) whole
      (subst (λ (xs : List Bool). Writes stands p q [] xs (digits 32 (bits / 2 ^ (count - 32)) ++ digits (count - 32) bits)) (sym rest)
      (Writes-append p q q [] [] (digits (count - 32) bits) _ _ w (Writes-start q (digits (count - 32) bits))))

digits_below : (c n pending value : ℕ) → value < 2 ^ n → digits (c + n) (pending * 2 ^ n + value) ≡ digits c pending ++ digits n value
digits_below c n pending value h =
    let low : digits n (pending * 2 ^ n + value) ≡ digits n value = sym (rw (add-zero n) at (digits-mod n 0 (pending * 2 ^ n + value))) ∙ ap (digits n) (mod_low pending n value h) in
    digits-add c n (pending * 2 ^ n + value) ∙ rw (shr_high pending n value h, low) refl

-- the pending bits with the digits of a value behind them
pub shifted_fits : (c n pending value : ℕ) → pending < 2 ^ c → c < 32 → n ≤ 32 → value < 2 ^ n → (pending * 2 ^ n) % 2 ^ 64 + value < 2 ^ (c + n)
shifted_fits c n pending value p hc hn h =
    rw (shl_whole pending c n 64 p (omega arith), pow-add 2 c n) (omega (arith, mul-add-lt pending (2 ^ n) value (2 ^ c) p h))

pub shifted_bits : (c n pending value : ℕ) → pending < 2 ^ c → c < 32 → n ≤ 32 → value < 2 ^ n → digits (c + n) ((pending * 2 ^ n) % 2 ^ 64 + value) ≡ digits c pending ++ digits n value
shifted_bits c n pending value p hc hn h = rw (shl_whole pending c n 64 p (omega arith)) (digits_below c n pending value h)

pub byte_fits : (bits count : ℕ) → bits < 2 ^ count → 8 ≤ count → bits / 2 ^ (count - 8) < 2 ^ 8
byte_fits bits count h e = shr_below bits 8 (count - 8) (let k : 8 + (count - 8) ≡ count = omega arith in rw k h)

pub low_fits : (bits count : ℕ) → count ≤ 40 → bits % (1 * 2 ^ (count - 8) % 2 ^ 64) < 2 ^ (count - 8)
low_fits bits count m = rw (one_shl (count - 8) 64 (omega arith)) (mod_below bits (2 ^ (count - 8)) (pow_pos (count - 8)))

digits_zero : (n : ℕ) → digits n 0 ≡ replicate n false
unfolding digits
digits_zero zero = refl
digits_zero (suc n) = let e : 0 / 2 ^ n ≡ 0 = zero-div (2 ^ n) in rw (e, digits_zero n) refl

pub word_fits : (bits count : ℕ) → bits < 2 ^ count → 32 ≤ count → bits / 2 ^ (count - 32) < 2 ^ 32
word_fits bits count h e = shr_below bits 32 (count - 32) (let k : 32 + (count - 32) ≡ count = omega arith in rw k h)

pub no_digits : (n v : ℕ) → n ≡ 0 → digits n v ≡ []
unfolding digits
no_digits n v e = ap (λ (m : ℕ). digits m v) e

-- what `align` puts
module _ (count number free : ℕ) (pending : List Bool) (view : digits count number ≡ pending) (few : count < 32) (fits : number < 2 ^ count) (is_free : free ≡ (8 - count % 8) % 8) where
  count_is : length pending ≡ count
  count_is = ap length (sym view) ∙ length-digits count number

  padding_is : digits free 0 ≡ padding pending
  padding_is = digits_zero free ∙ ap (λ (n : ℕ). replicate n false) (is_free ∙ ap (λ (n : ℕ). (8 - n % 8) % 8) (sym count_is))

  pub free_few : free < 8
  free_few = omega (arith, is_free)

  pub no_bits_left : (count + free) % 8 ≡ 0
  no_bits_left = omega (arith, is_free)

  pub padded_fits : (number * 2 ^ free) % 2 ^ 64 < 2 ^ (count + free)
  padded_fits = rw (shl_whole number count free 64 fits (let f = free_few in omega (arith, f)), pow-add 2 count free) (mul_lt number (2 ^ free) (2 ^ count) fits (pow_pos free))
    where
      mul_lt : (a b c : ℕ) → a < c → 0 < b → a * b < c * b
      mul_lt a b c h k = grind (arith, h, k)

  pub padded : digits (count + free) ((number * 2 ^ free) % 2 ^ 64) ≡ pending ++ padding pending
  padded =
      rw (shl_whole number count free 64 fits (let f = free_few in omega (arith, f)))
      (ap (digits (count + free)) (sym (add-zero (number * 2 ^ free))) ∙ digits_below count free number 0 (pow_pos free) ∙ ap (λ (xs : List Bool). xs ++ digits free 0) view ∙ ap (λ (xs : List Bool). pending ++ xs) padding_is)
