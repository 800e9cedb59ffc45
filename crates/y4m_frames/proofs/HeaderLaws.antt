-- The header line that is written is read as its header.
use Rattle.std.proofs.Common.{◌≡◌, ℕ, ◌+◌, ◌%◌, ◌^◌, ◌<◌, ◌≤◌, Bool, true, false, cond, List, [], ◌∷◌, ◌++◌, length, take, drop, get_or, filter, refl, sym, ap, ◌∙◌, subst, arith, Option, Some, None, Ok, Err, nat_eq, nat_le, ◌&&◌, ◌||◌, le-leb, eq-eqb, ne_eqb, append_assoc, codes, ⊎_elim}
use Rattle.std.specs.List.{list_any, list_all, slice_split, before_first, after_first, position_or_len}
use Rattle.std.specs.Fmt.{decimal}
use Rattle.std.specs.Str.Parse.{digits_value}
use Rattle.std.specs.Int.{IsInRange}
use Rattle.std.proofs.lemmas.Bool.{cases_eq}
use Rattle.std.proofs.lemmas.Fmt.{decimal_nonempty, digits_decimal, digits_value-decimal, length-decimal-le}
use Rattle.std.proofs.lemmas.List.{get_or_default, length-append, get_or_append_left, get_or_at, take_at, drop_at}
use Rattle.std.proofs.lemmas.List.Folds.{list_any_none, list_any_at, list_any-append}
use Rattle.std.proofs.lemmas.List.Splits.{slice_split_at}
use Rattle.std.proofs.lemmas.List.Sums.{list_all-from_AllPass, position_or_len_is}
use Rattle.std.proofs.lemmas.Str.Parse.{numerals_by_value, tells_by_index}
use Rattle.mv_terms.specs.Ranges.{IsFrameHeader, row_lines}
use Rattle.mv_terms.specs.declared.frame_header.FrameHeader.{FrameHeader}
use Rattle.y4m_frames.specs.FrameFile.{header_line, scan}
use Rattle.y4m_frames.specs.Frames.{IsHeaderLine}
use Rattle.y4m_frames.specs.Header.{◌>>=◌, absent, once, begins_with, fields, header, header_by, header_of, is_colon, is_right_size, kind, known_rate, needed, one_of, optional, rate, said, says, token}
use Rattle.y4m_frames.specs.Lines.{is_digit, is_line_feed, is_space, number, words}

-- the digits of a number
abbrev IsDigit : ℕ → Type 0
IsDigit b = (48 ≤ b) × (b ≤ 57)

digit_at : (n : ℕ) → n < 10 ^ 9 → (i d : ℕ) → i < length (decimal n) → IsDigit (get_or (decimal n) i d)
digit_at n small i d l =
    let in_range = digits_decimal (numerals_by_value (λ ds. (i : ℕ) → i < length ds → IsInRange 48 57 (get_or ds i 0)) tells_by_index) n (omega arith) i l in
    subst IsDigit (get_or_default (decimal n) i 0 d l) in_range

none_in_digits : (b n : ℕ) → b < 48 → n < 10 ^ 9 → list_any (λ x. nat_eq x b) (decimal n) ≡ false
none_in_digits b n low small = list_any_none (λ x. nat_eq x b) (decimal n) (λ i d l. let at = digit_at n small i d l in ne_eqb (get_or (decimal n) i d) b (λ e. absurd (omega (arith, at.0, e))))

no_colon : (n : ℕ) → n < 10 ^ 9 → list_any is_colon (decimal n) ≡ false
no_colon n small = list_any_none is_colon (decimal n) (λ i d l. let at = digit_at n small i d l in ne_eqb (get_or (decimal n) i d) 58 (λ e. absurd (omega (arith, at.1, e))))

number_written : (n : ℕ) → n < 10 ^ 9 → number (decimal n) ≡ Some n
unfolding number
number_written n small =
    let some = decimal_nonempty n (omega arith) in
    let few = length-decimal-le 9 n (omega arith) small (omega arith) in
    let all : list_all is_digit (decimal n) ≡ true = list_all-from_AllPass is_digit (decimal n) (λ i d l. let at = digit_at n small i d l in
    ap (λ b. b && nat_le (get_or (decimal n) i d) 57) (le-leb 48 (get_or (decimal n) i d) at.0) ∙ le-leb (get_or (decimal n) i d) 57 at.1) in
    let value = digits_value-decimal (numerals_by_value (λ ds. (i : ℕ) → i < length ds → IsInRange 48 57 (get_or ds i 0)) tells_by_index) n (omega arith) in
    ap (λ b. cond (b && nat_le (length (decimal n)) 9 && list_all is_digit (decimal n)) (Some (digits_value 10 (decimal n))) None) (le-leb 1 (length (decimal n)) (omega (arith, some)))
    ∙ ap (λ b. cond (true && b && list_all is_digit (decimal n)) (Some (digits_value 10 (decimal n))) None) (le-leb (length (decimal n)) 9 few)
    ∙ ap (λ b. cond (true && true && b) (Some (digits_value 10 (decimal n))) None) all
    ∙ ap (λ v. Some v) value

-- what doesn't pass a test
none_at : (p : ℕ → Bool) (xs : List ℕ) → list_any p xs ≡ false → (i d : ℕ) → i < length xs → p (get_or xs i d) ≡ false
none_at p xs none i d l = by_answer (p (get_or xs i d)) refl
  where
    by_answer : (b : Bool) → p (get_or xs i d) ≡ b → p (get_or xs i d) ≡ false
    by_answer false e = e
    by_answer true e = let yes : list_any p xs ≡ true = list_any_at p xs i d l e in cc

split_word : (word behind : List ℕ) → list_any is_space word ≡ false → slice_split is_space (word ++ 32 ∷ behind) ≡ word ∷ slice_split is_space behind
split_word word behind none = slice_split_at is_space word 32 behind (λ i d l. none_at is_space word none i d l) refl

-- the parts of a rate
abbrev rate_text : ℕ → ℕ → List ℕ
rate_text n m = decimal n ++ 58 ∷ decimal m

colon_place : (n m : ℕ) → n < 10 ^ 9 → position_or_len is_colon (rate_text n m) ≡ length (decimal n)
colon_place n m small =
    let k = length (decimal n) in
    position_or_len_is is_colon (rate_text n m) k 0 (omega (arith, length-append (decimal n) (58 ∷ decimal m)))
    (λ i l. ap is_colon (get_or_append_left (decimal n) (58 ∷ decimal m) 0 i l) ∙ none_at is_colon (decimal n) (no_colon n small) i 0 l)
    (λ _. ap is_colon (get_or_at (decimal n) 58 (decimal m) 0 k refl))

rate_written : (n m : ℕ) → n < 10 ^ 9 → m < 10 ^ 9 → (n ≡ 0 → m ≡ 0) → (m ≡ 0 → n ≡ 0) → rate (rate_text n m) ≡ Some (n, m)
unfolding rate
rate_written n m small_n small_m with_den with_num =
    let place = colon_place n m small_n in
    let before : before_first is_colon (rate_text n m) ≡ decimal n = ap (λ k. take k (rate_text n m)) place ∙ take_at (decimal n) (58 ∷ decimal m) (length (decimal n)) refl in
    let after : after_first is_colon (rate_text n m) ≡ decimal m =
    ap (λ k. drop (k + 1) (rate_text n m)) place ∙ ap (drop (length (decimal n) + 1)) (sym (append_assoc (decimal n) (58 ∷ []) (decimal m))) ∙ drop_at (decimal n ++ 58 ∷ []) (decimal m) (length (decimal n) + 1) (length-append (decimal n) (58 ∷ [])) in
    ap (λ t. number t >>= λ a. number (after_first is_colon (rate_text n m)) >>= λ b. Some (known_rate a b)) before
    ∙ ap (λ r. r >>= λ a. number (after_first is_colon (rate_text n m)) >>= λ b. Some (known_rate a b)) (number_written n small_n)
    ∙ ap (λ t. number t >>= λ b. Some (known_rate n b)) after
    ∙ ap (λ r. r >>= λ b. Some (known_rate n b)) (number_written m small_m)
    ∙ ap (λ r. Some r) known
  where
    known : known_rate n m ≡ (n, m)
    known = ⊎_elim
        (λ (z : n ≡ 0). subst (λ k. known_rate k m ≡ (k, m)) (sym z) (ap (λ k. (0, k)) (sym (with_den z))))
        (λ (s : n ≡ 0 → ⊥).
        ap (λ b. cond (b || nat_eq m 0) (0, 0) (n, m)) (ne_eqb n 0 s) ∙ ap (λ b. cond b (0, 0) (n, m)) (ne_eqb m 0 (λ z. s (with_num z))))
        (cases_eq n 0)

fields_written : (progressive bottom_first : Bool) → (progressive ≡ true → bottom_first ≡ false) → fields (scan progressive bottom_first) ≡ Some (progressive, bottom_first)
unfolding fields
fields_written true true h = (let e = h refl in cc)
fields_written true false h = refl
fields_written false true h = refl
fields_written false false h = refl

scan_word : (progressive bottom_first : Bool) → list_any is_space (scan progressive bottom_first) ≡ false
scan_word true b = refl
scan_word false true = refl
scan_word false false = refl

-- the header line without its line feed, and its words
abbrev text_of : FrameHeader → List ℕ
text_of h =
    codes "YUV4MPEG2 W" ++ (decimal h.wide
    ++ (codes " H" ++ (decimal h.high
    ++ (codes " F" ++ (decimal h.rate_num ++ (codes ":" ++ (decimal h.rate_den
    ++ (codes " I" ++ (scan h.progressive h.bottom_first
    ++ codes " A0:0 C420p10")))))))))

abbrev words_of : FrameHeader → List (List ℕ)
words_of h = codes "YUV4MPEG2" ∷ (87 ∷ decimal h.wide) ∷ (72 ∷ decimal h.high) ∷ (70 ∷ rate_text h.rate_num h.rate_den) ∷ (73 ∷ scan h.progressive h.bottom_first) ∷ codes "A0:0" ∷ codes "C420p10" ∷ []

-- what stands behind each word
abbrev behind_rate : FrameHeader → List ℕ
behind_rate h = (73 ∷ scan h.progressive h.bottom_first) ++ 32 ∷ codes "A0:0 C420p10"

abbrev behind_high : FrameHeader → List ℕ
behind_high h = (70 ∷ rate_text h.rate_num h.rate_den) ++ 32 ∷ behind_rate h

abbrev behind_wide : FrameHeader → List ℕ
behind_wide h = (72 ∷ decimal h.high) ++ 32 ∷ behind_high h

text_parts : (h : FrameHeader) → text_of h ≡ codes "YUV4MPEG2" ++ 32 ∷ ((87 ∷ decimal h.wide) ++ 32 ∷ ((72 ∷ decimal h.high) ++ 32 ∷ ((70 ∷ rate_text h.rate_num h.rate_den) ++ 32 ∷ ((73 ∷ scan h.progressive h.bottom_first) ++ 32 ∷ codes "A0:0 C420p10"))))
text_parts h = ap (λ x. codes "YUV4MPEG2" ++ 32 ∷ ((87 ∷ decimal h.wide) ++ 32 ∷ ((72 ∷ decimal h.high) ++ 32 ∷ (70 ∷ x))))
    (sym (append_assoc (decimal h.rate_num) (58 ∷ decimal h.rate_den) (32 ∷ ((73 ∷ scan h.progressive h.bottom_first) ++ 32 ∷ codes "A0:0 C420p10"))))

module _ (h : FrameHeader) (is : IsFrameHeader h) where
  small_wide : h.wide < 10 ^ 9
  small_wide = omega (arith, is.wide)

  small_high : h.high < 10 ^ 9
  small_high = omega (arith, is.high)

  rate_word : list_any is_space (rate_text h.rate_num h.rate_den) ≡ false
  rate_word = list_any-append is_space (decimal h.rate_num) (58 ∷ decimal h.rate_den) ∙ ap (λ b. b || list_any is_space (decimal h.rate_den)) (none_in_digits 32 h.rate_num (omega arith) is.rate_num) ∙ none_in_digits 32 h.rate_den (omega arith) is.rate_den

  words_written : words (text_of h) ≡ words_of h
  unfolding words
  words_written =
      ap (slice_split is_space) (text_parts h)
      ∙ split_word (codes "YUV4MPEG2") ((87 ∷ decimal h.wide) ++ 32 ∷ behind_wide h) refl
      ∙ ap (λ ws. codes "YUV4MPEG2" ∷ ws) (split_word (87 ∷ decimal h.wide) (behind_wide h) (none_in_digits 32 h.wide (omega arith) small_wide)
      ∙ ap (λ ws. (87 ∷ decimal h.wide) ∷ ws) (split_word (72 ∷ decimal h.high) (behind_high h) (none_in_digits 32 h.high (omega arith) small_high)
      ∙ ap (λ ws. (72 ∷ decimal h.high) ∷ ws) (split_word (70 ∷ rate_text h.rate_num h.rate_den) (behind_rate h) rate_word
      ∙ ap (λ ws. (70 ∷ rate_text h.rate_num h.rate_den) ∷ ws) (split_word (73 ∷ scan h.progressive h.bottom_first) (codes "A0:0 C420p10") (scan_word h.progressive h.bottom_first)))))

  token_written : (letter : ℕ) → token letter (text_of h) ≡ one_of (filter (begins_with letter) (words_of h))
  unfolding token
  token_written letter = ap (λ ws. one_of (filter (begins_with letter) ws)) words_written

  after_bind : {A B : Type 0} (o : Option A) (x : A) (f : A → Option B) → o ≡ Some x → (o >>= f) ≡ f x
  after_bind o x f e = ap (λ r. r >>= f) e

  kind_written : kind (codes "420p10") ≡ Some tt
  unfolding kind
  kind_written = refl

  said_written : said (text_of h) ≡ Some (says h.wide h.high (h.rate_num, h.rate_den) (h.progressive, h.bottom_first))
  unfolding said
  said_written =
      after_bind _ (decimal h.wide) _ (ap needed (token_written 87)) ∙ after_bind _ h.wide _ (number_written h.wide small_wide)
      ∙ after_bind _ (decimal h.high) _ (ap needed (token_written 72)) ∙ after_bind _ h.high _ (number_written h.high small_high)
      ∙ after_bind _ (codes "420p10") _ (ap needed (token_written 67)) ∙ after_bind _ tt _ kind_written
      ∙ after_bind _ (h.rate_num, h.rate_den) _ (ap (optional (0, 0) rate) (token_written 70) ∙ rate_written h.rate_num h.rate_den is.rate_num is.rate_den is.num_with_den is.den_with_num)
      ∙ after_bind _ (h.progressive, h.bottom_first) _ (ap (optional (true, false) fields) (token_written 73) ∙ fields_written h.progressive h.bottom_first is.scan)

  right_size : is_right_size (says h.wide h.high (h.rate_num, h.rate_den) (h.progressive, h.bottom_first)) ≡ true
  right_size =
      ap (λ b. b && nat_le h.wide 1920 && nat_le 1 h.high && nat_le h.high 1152 && nat_eq (h.wide % 16) 0 && nat_eq (h.high % cond h.progressive 16 32) 0) (le-leb 1 h.wide (omega (arith, is.some_wide)))
      ∙ ap (λ b. true && b && nat_le 1 h.high && nat_le h.high 1152 && nat_eq (h.wide % 16) 0 && nat_eq (h.high % cond h.progressive 16 32) 0) (le-leb h.wide 1920 is.wide)
      ∙ ap (λ b. true && true && b && nat_le h.high 1152 && nat_eq (h.wide % 16) 0 && nat_eq (h.high % cond h.progressive 16 32) 0) (le-leb 1 h.high (omega (arith, is.some_high)))
      ∙ ap (λ b. true && true && true && b && nat_eq (h.wide % 16) 0 && nat_eq (h.high % cond h.progressive 16 32) 0) (le-leb h.high 1152 is.high)
      ∙ ap (λ b. true && true && true && true && b && nat_eq (h.high % cond h.progressive 16 32) 0) (eq-eqb (h.wide % 16) 0 is.whole_wide)
      ∙ eq-eqb (h.high % cond h.progressive 16 32) 0 (rows h.progressive is.whole_high)
    where
      rows : (p : Bool) → h.high % row_lines p ≡ 0 → h.high % cond p 16 32 ≡ 0
      rows true e = e
      rows false e = e

  means : header_of (text_of h) ≡ Ok h
  unfolding header_of
  means =
      ap (λ ws. cond (Rattle.y4m_frames.specs.Header.is_first_word ws) (header_by (said (text_of h))) (Err Rattle.mv_terms.specs.declared.status.FrameFault.TheVariants.BadHeader)) words_written
      ∙ ap header_by said_written
      ∙ ap (λ b. cond b (Ok (header (says h.wide h.high (h.rate_num, h.rate_den) (h.progressive, h.bottom_first)))) (Err Rattle.mv_terms.specs.declared.status.FrameFault.TheVariants.BadSize)) right_size

  one_line : list_any is_line_feed (text_of h) ≡ false
  one_line = none_of_words
    where
      digits : (n : ℕ) → n < 10 ^ 9 → (behind : List ℕ) → list_any is_line_feed behind ≡ false → list_any is_line_feed (decimal n ++ behind) ≡ false
      digits n small behind e = list_any-append is_line_feed (decimal n) behind ∙ ap (λ b. b || list_any is_line_feed behind) (none_in_digits 10 n (omega arith) small) ∙ e

      scan_line : (p b : Bool) → list_any is_line_feed (scan p b ++ codes " A0:0 C420p10") ≡ false
      scan_line true b = refl
      scan_line false true = refl
      scan_line false false = refl

      none_of_words : list_any is_line_feed (text_of h) ≡ false
      none_of_words = digits h.wide small_wide _ (digits h.high small_high _ (digits h.rate_num is.rate_num _ (digits h.rate_den is.rate_den _ (scan_line h.progressive h.bottom_first))))

  short : length (text_of h) < 1024
  short =
      let w = length-decimal-le 9 h.wide (omega arith) small_wide (omega (arith, small_wide)) in
      let k = length-decimal-le 9 h.high (omega arith) small_high (omega (arith, small_high)) in
      let n = length-decimal-le 9 h.rate_num (omega arith) is.rate_num (omega (arith, is.rate_num)) in
      let d = length-decimal-le 9 h.rate_den (omega arith) is.rate_den (omega (arith, is.rate_den)) in
      omega (
        arith,
        w,
        k,
        n,
        d,
        letter h.progressive h.bottom_first,
        length-append (decimal h.wide) (codes " H" ++ (decimal h.high ++ (codes " F" ++ (decimal h.rate_num ++ (codes ":" ++ (decimal h.rate_den ++ (codes " I" ++ (scan h.progressive h.bottom_first ++ codes " A0:0 C420p10")))))))),
        length-append (decimal h.high) (codes " F" ++ (decimal h.rate_num ++ (codes ":" ++ (decimal h.rate_den ++ (codes " I" ++ (scan h.progressive h.bottom_first ++ codes " A0:0 C420p10")))))),
        length-append (decimal h.rate_num) (codes ":" ++ (decimal h.rate_den ++ (codes " I" ++ (scan h.progressive h.bottom_first ++ codes " A0:0 C420p10")))),
        length-append (decimal h.rate_den) (codes " I" ++ (scan h.progressive h.bottom_first ++ codes " A0:0 C420p10")),
        length-append (scan h.progressive h.bottom_first) (codes " A0:0 C420p10"),
      )
    where
      letter : (p b : Bool) → length (scan p b) ≡ 1
      letter true b = refl
      letter false true = refl
      letter false false = refl

  line_parts : header_line h ≡ text_of h ++ 10 ∷ []
  line_parts = regroup (codes "YUV4MPEG2 W") (decimal h.wide) (codes " H") (decimal h.high) (codes " F") (decimal h.rate_num) (codes ":") (decimal h.rate_den) (codes " I") (scan h.progressive h.bottom_first) (codes " A0:0 C420p10") (10 ∷ [])
    where
      regroup : (a b c d e f g i j k l m : List ℕ) → a ++ (b ++ (c ++ (d ++ (e ++ (f ++ (g ++ (i ++ (j ++ (k ++ (l ++ m)))))))))) ≡ (a ++ (b ++ (c ++ (d ++ (e ++ (f ++ (g ++ (i ++ (j ++ (k ++ l)))))))))) ++ m
      regroup a b c d e f g i j k l m = simp append_assoc

  pub written_line : IsHeaderLine (header_line h) h
  written_line = record { text = text_of h; parts = line_parts; one_line = one_line; short = short; means = means }
