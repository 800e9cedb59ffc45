-- The words of a line, and the parts at a byte.
use Rattle.std.proofs.Common.{◌≡◌, ℕ, ◌+◌, ◌-◌, ◌<◌, Bool, true, false, List, [], ◌∷◌, length, take, drop, refl, sym, ap, ◌∙◌, arith, Some, None, le_refl}
use Rattle.std.specs.List.{position_or_len, slice_split, before_first, after_first}
use Rattle.std.proofs.lemmas.List.{take_rest, take_all, drop_all, get_or_default}
use Rattle.std.proofs.lemmas.List.Sums.{position_or_len_is}
use Rattle.std.proofs.lemmas.List.Splits.{slice_split_first, slice_split_none}
use Rattle.memchr.specs.Find.{IsFirstByte, is_byte}
use Rattle.y4m_frames.specs.Lines.{words, is_space}
use Rattle.y4m_frames.specs.Header.{is_colon}

not_true : (b : Bool) → (b ≡ true → ⊥) → b ≡ false
not_true true h = absurd (h refl)
not_true false h = refl

pub first_at : (a k : ℕ) (xs : List ℕ) → IsFirstByte (is_byte a) xs (Some k) → position_or_len (is_byte a) xs ≡ k
first_at a k xs h = position_or_len_is (is_byte a) xs k 0 (omega (arith, h.0.high)) (λ j l. not_true _ (λ t. h.0.before j (omega arith) l t)) (λ _. h.1)

pub first_none : (a : ℕ) (xs : List ℕ) → IsFirstByte (is_byte a) xs None → position_or_len (is_byte a) xs ≡ length xs
first_none a xs h = position_or_len_is (is_byte a) xs (length xs) 0 (le_refl (length xs)) (λ j l. not_true _ (λ t. h j (omega arith) l t)) (λ l. absurd (omega arith))

pub words_at : (k : ℕ) (xs : List ℕ) → IsFirstByte (is_byte 32) xs (Some k) → words xs ≡ take k xs ∷ words (take (length xs - (k + 1)) (drop (k + 1) xs))
unfolding words
words_at k xs h =
    let e = first_at 32 k xs h in
    let within : k < length xs = h.0.high in
    slice_split_first is_space xs 0 (omega (arith, e, within))
    ∙ ap (λ n. take n xs ∷ slice_split is_space (drop (n + 1) xs)) e
    ∙ ap (λ t. take k xs ∷ slice_split is_space t) (sym (take_rest xs (k + 1)))

pub words_none : (xs : List ℕ) → IsFirstByte (is_byte 32) xs None → words xs ≡ xs ∷ []
unfolding words
words_none xs h = slice_split_none is_space xs (λ j d l. ap is_space (get_or_default xs j d 0 l) ∙ not_true _ (λ t. h j (omega arith) l t))

pub before_colon : (k : ℕ) (xs : List ℕ) → IsFirstByte (is_byte 58) xs (Some k) → take k xs ≡ before_first is_colon xs
before_colon k xs h = ap (λ n. take n xs) (sym (first_at 58 k xs h))

pub after_colon : (k : ℕ) (xs : List ℕ) → IsFirstByte (is_byte 58) xs (Some k) → take (length xs - (k + 1)) (drop (k + 1) xs) ≡ after_first is_colon xs
after_colon k xs h = take_rest xs (k + 1) ∙ ap (λ n. drop (n + 1) xs) (sym (first_at 58 k xs h))

pub before_none : (xs : List ℕ) → IsFirstByte (is_byte 58) xs None → xs ≡ before_first is_colon xs
before_none xs h = sym (take_all (length xs) xs (le_refl (length xs))) ∙ ap (λ n. take n xs) (sym (first_none 58 xs h))

pub after_none : (xs : List ℕ) → IsFirstByte (is_byte 58) xs None → take (length xs - length xs) (drop (length xs) xs) ≡ after_first is_colon xs
after_none xs h = take_rest xs (length xs) ∙ drop_all (length xs) xs (le_refl (length xs)) ∙ sym (drop_all (length xs + 1) xs (omega arith)) ∙ ap (λ n. drop (n + 1) xs) (sym (first_none 58 xs h))
