-- The lines of a list, and the words of a line.
use Rattle.std.proofs.Common.{◌≡◌, ◌≢◌, ℕ, ◌+◌, ◌-◌, ◌<◌, Bool, true, false, cond, List, [], ◌∷◌, ◌++◌, length, take, drop, refl, sym, ap, ◌∙◌, arith, Option, Some, None, Result, Ok, Err, Bor, append_assoc, append-nil, ◌≤◌, ◌||◌, nat_lt, lt-ltb, ⊎_elim}
use Rattle.std.specs.List.{slice_split}
use Rattle.std.specs.Result.{is_ok, is_err}
use Rattle.std.proofs.Math.Bool.{or-true}
use Rattle.std.proofs.lemmas.Bool.{cases_lt}
use Rattle.std.proofs.lemmas.List.{take_rest, get_or_default}
use Rattle.std.proofs.lemmas.List.Splits.{slice_split_first, slice_split_none, length-slice_split}
use Rattle.memchr.specs.Find.{IsFirstByte, is_byte}
use Rattle.y4m_frames.specs.Lines.{words, is_space, is_line_feed}
use Rattle.y4m_frames.proofs.WordLemmas.{first_at}
use Rattle.cut_list.specs.declared.entry.Entry.{Entry}
use Rattle.cut_list.specs.List.{three_words, lines_of, is_end, line_len, in_front, entries_by, entries_from, entries_of, entry_of, is_past, list_limit}
use Rattle.cut_list.specs.Steps.{lines_left, end_of, len_of, behind}

not_true : (b : Bool) → (b ≡ true → ⊥) → b ≡ false
not_true true h = absurd (h refl)
not_true false h = refl

-- the first line of a text
pub lines_at : (k : ℕ) (xs : List ℕ) → IsFirstByte (is_byte 10) xs (Some k) → lines_of xs ≡ take k xs ∷ lines_of (take (length xs - (k + 1)) (drop (k + 1) xs))
lines_at k xs h =
    let e = first_at 10 k xs h in
    let within : k < length xs = h.0.high in
    slice_split_first is_line_feed xs 0 (omega (arith, e, within))
    ∙ ap (λ n. take n xs ∷ slice_split is_line_feed (drop (n + 1) xs)) e
    ∙ ap (λ t. take k xs ∷ slice_split is_line_feed t) (sym (take_rest xs (k + 1)))

pub lines_none : (xs : List ℕ) → IsFirstByte (is_byte 10) xs None → lines_of xs ≡ xs ∷ []
lines_none xs h = slice_split_none is_line_feed xs (λ j d l. ap is_line_feed (get_or_default xs j d 0 l) ∙ not_true _ (λ t. h j (omega arith) l t))

-- a text has a line, if only an empty one
some_part : (p : ℕ → Bool) (xs : List ℕ) → slice_split p xs ≢ []
some_part p xs e =
    let none : length (slice_split p xs) ≡ 0 = ap length e in
    absurd (omega (arith, none, length-slice_split p xs))

-- where words follow a third one, there are not three
pub four_words : (name from to : List ℕ) (more : List ℕ) → three_words (name ∷ from ∷ to ∷ words more) ≡ None
unfolding words
four_words name from to more = by_parts (slice_split is_space more) (some_part is_space more)
  where
    by_parts : (ws : List (List ℕ)) → ws ≢ [] → three_words (name ∷ from ∷ to ∷ ws) ≡ None
    by_parts [] h = absurd (h refl)
    by_parts (w ∷ ws) h = refl

-- a line in front of others isn't the end of a list
not_end_by : (line : List ℕ) (lines : List (List ℕ)) → lines ≢ [] → is_end line lines ≡ false
not_end_by [] [] h = absurd (h refl)
not_end_by [] (l ∷ lines) h = refl
not_end_by (b ∷ line) lines h = refl

pub not_end : (line text : List ℕ) → is_end line (lines_of text) ≡ false
not_end line text = not_end_by line (lines_of text) (some_part is_line_feed text)

len_more_by : (line : List ℕ) (lines : List (List ℕ)) → lines ≢ [] → line_len line lines ≡ length line + 1
len_more_by line [] h = absurd (h refl)
len_more_by line (l ∷ lines) h = refl

pub len_more : (line text : List ℕ) → line_len line (lines_of text) ≡ length line + 1
len_more line text = len_more_by line (lines_of text) (some_part is_line_feed text)

pub when_true : {A : Type 0} (b : Bool) (x y : A) → b ≡ true → cond b x y ≡ x
when_true true x y h = refl
when_true false x y h = cc

pub when_false : {A : Type 0} (b : Bool) (x y : A) → b ≡ false → cond b x y ≡ y
when_false false x y h = refl
when_false true x y h = cc

pub first_of_lines : (n room : ℕ) (line : List ℕ) (lines : List (List ℕ)) → entries_from n room (line ∷ lines) ≡ cond (is_end line lines) (Ok []) (cond (is_past n room (line_len line lines)) (Err n) (entries_by n (entry_of line) (entries_from (n + 1) (room - line_len line lines) lines)))
unfolding entries_from
first_of_lines n room line lines = refl

-- What was read of a list so far: its entries stand in front of those of the lines that are left.
module _ (bytes : List ℕ) (done : List Entry) (n room : ℕ) (rest : Option (Bor (List ℕ))) (text : Bor (List ℕ)) (line : List ℕ) (more : Option (Bor (List ℕ)))
    (whole : entries_of bytes ≡ behind done (entries_from n room (lines_left rest))) (some : rest ≡ Some text) (parts : lines_of text.now ≡ line ∷ lines_left more) where
  here : entries_of bytes ≡ behind done (cond (end_of line more) (Ok []) (cond (is_past n room (len_of line more)) (Err n) (entries_by n (entry_of line) (entries_from (n + 1) (room - len_of line more) (lines_left more)))))
  here = whole ∙ ap (λ r. behind done (entries_from n room (lines_left r))) some ∙ ap (λ ls. behind done (entries_from n room ls)) parts
      ∙ ap (behind done) (first_of_lines n room line (lines_left more))

  pub list_ends : end_of line more ≡ true → entries_of bytes ≡ Ok done
  list_ends h = here ∙ ap (behind done) (when_true _ _ _ h) ∙ ap (λ es. Ok es) (append-nil done)

  pub line_past : end_of line more ≡ false → is_past n room (len_of line more) ≡ true → entries_of bytes ≡ Err n
  line_past h p = here ∙ ap (behind done) (when_false _ _ _ h ∙ when_true _ _ _ p)

  pub line_bad : end_of line more ≡ false → is_past n room (len_of line more) ≡ false → entry_of line ≡ None → entries_of bytes ≡ Err n
  line_bad h p e = here ∙ ap (behind done) (when_false _ _ _ h ∙ when_false _ _ _ p ∙ ap (λ x. entries_by n x (entries_from (n + 1) (room - len_of line more) (lines_left more))) e)

  pub line_read : (e : Entry) → end_of line more ≡ false → is_past n room (len_of line more) ≡ false → entry_of line ≡ Some e →
      entries_of bytes ≡ behind (done ++ e ∷ []) (entries_from (n + 1) (room - len_of line more) (lines_left more))
  line_read e h p is =
      here ∙ ap (behind done) (when_false _ _ _ h ∙ when_false _ _ _ p ∙ ap (λ x. entries_by n x (entries_from (n + 1) (room - len_of line more) (lines_left more))) is)
      ∙ push (entries_from (n + 1) (room - len_of line more) (lines_left more))
    where
      push : (r : Result (List Entry) ℕ) → behind done (in_front e r) ≡ behind (done ++ e ∷ []) r
      push (Ok es) = ap (λ x. Ok x) (sym (append_assoc done (e ∷ []) es))
      push (Err m) = refl

pub none_left : (bytes : List ℕ) (done : List Entry) (n room : ℕ) (rest : Option (Bor (List ℕ))) → entries_of bytes ≡ behind done (entries_from n room (lines_left rest)) → rest ≡ None → entries_of bytes ≡ Ok done
unfolding entries_from
none_left bytes done n room rest whole none = whole ∙ ap (λ r. behind done (entries_from n room (lines_left r))) none ∙ ap (λ es. Ok es) (append-nil done)

-- nothing was read yet
pub list_begins : (bytes : List ℕ) → (length bytes ≡ 0 → ⊥) → entries_of bytes ≡ behind [] (entries_from 1 list_limit (lines_of bytes))
unfolding entries_of
list_begins [] h = absurd (h refl)
list_begins (b ∷ text) h = none_behind (entries_from 1 list_limit (lines_of (b ∷ text)))
  where
    none_behind : (r : Result (List Entry) ℕ) → r ≡ behind [] r
    none_behind (Ok es) = refl
    none_behind (Err m) = refl

pub empty_list : (bytes : List ℕ) → length bytes ≡ 0 → entries_of bytes ≡ Err 1
unfolding entries_of
empty_list [] h = refl
empty_list (b ∷ text) h = cc

pub not_past : (n room taken : ℕ) → is_past n room taken ≡ false → (n ≤ 4096) × (taken ≤ room)
not_past n room taken h = (
  ⊎_elim (λ (l : 4096 < n). (let yes : is_past n room taken ≡ true = ap (λ b. b || nat_lt room taken) (lt-ltb 4096 n l) in cc)) (λ (g : n ≤ 4096). g) (cases_lt 4096 n),
  ⊎_elim (λ (l : room < taken). (let yes : is_past n room taken ≡ true = ap (λ b. nat_lt 4096 n || b) (lt-ltb room taken l) ∙ or-true (nat_lt 4096 n) in cc)) (λ (g : taken ≤ room). g) (cases_lt room taken),
)

pub ok_where : {A E : Type 0} (r : Result A E) → is_err r ≡ false → is_ok r ≡ true
ok_where (Ok x) h = refl
ok_where (Err e) h = cc
