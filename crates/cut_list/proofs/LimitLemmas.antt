-- No byte behind the limit of a list matters but the first.
use Rattle.std.proofs.Common.{◌≡◌, ℕ, zero, suc, ◌+◌, ◌-◌, ◌<◌, ◌≤◌, Bool, true, false, cond, List, [], ◌∷◌, length, take, drop, get_or, refl, sym, ap, ◌∙◌, arith, Err, nat_lt, lt-ltb, ◌||◌, ⊎_elim}
use Rattle.std.specs.List.{position_or_len}
use Rattle.std.proofs.Math.Bool.{or-true}
use Rattle.std.proofs.lemmas.Bool.{cases_lt}
use Rattle.std.proofs.lemmas.List.{length-take, length-take-le, take_all, take-take, drop-take, length-drop, get_or-take}
use Rattle.std.proofs.lemmas.List.Splits.{slice_split_first, slice_split_none}
use Rattle.std.proofs.lemmas.List.Sums.{fails_before_first, passes_at_first, position_or_len_is}
use Rattle.y4m_frames.specs.Lines.{is_line_feed}
use Rattle.cut_list.specs.List.{lines_of, is_end, line_len, entries_by, entries_from, entries_of, entry_of, is_past, list_limit}
use Rattle.cut_list.proofs.ListLemmas.{first_of_lines, when_true, when_false, not_end, len_more}

-- a line that is too long
refused : (n room : ℕ) (line : List ℕ) (lines : List (List ℕ)) → is_end line lines ≡ false → room < line_len line lines → entries_from n room (line ∷ lines) ≡ Err n
refused n room line lines ends long =
    let past : is_past n room (line_len line lines) ≡ true = ap (λ b. nat_lt 4096 n || b) (lt-ltb room (line_len line lines) long) ∙ or-true (nat_lt 4096 n) in
    first_of_lines n room line lines ∙ when_false _ _ _ ends ∙ when_true _ _ _ past

some_line : (line : List ℕ) → 0 < length line → is_end line [] ≡ false
some_line [] h = absurd (omega arith)
some_line (b ∷ line) h = refl

-- the first line feed, if there is one, stands behind `room` bytes, and there are more
pub long_line : (n room : ℕ) (s : List ℕ) → room < length s → room ≤ position_or_len is_line_feed s → entries_from n room (lines_of s) ≡ Err n
long_line n room s more late = ⊎_elim
    (λ (l : position_or_len is_line_feed s < length s).
    let k = position_or_len is_line_feed s in
    let behind : List ℕ = drop (k + 1) s in
    let count : length (take k s) ≡ k = length-take-le k s (omega arith) in
    ap (entries_from n room) (slice_split_first is_line_feed s 0 l)
    ∙ refused n room (take k s) (lines_of behind) (not_end (take k s) behind) (omega (arith, len_more (take k s) behind, count)))
    (λ (g : length s ≤ position_or_len is_line_feed s).
    ap (entries_from n room) (slice_split_none is_line_feed s (λ j d l. fails_before_first is_line_feed s j d (omega arith)))
    ∙ refused n room s [] (some_line s (omega arith)) more)
    (cases_lt (position_or_len is_line_feed s) (length s))

-- the first line feed is among the first bytes where it is within them
place_within : (m : ℕ) (s : List ℕ) (k : ℕ) → position_or_len is_line_feed s ≡ k → k < length s → k < m → position_or_len is_line_feed (take m s) ≡ k
place_within m s k is inside less =
    position_or_len_is is_line_feed (take m s) k 0 (omega (arith, length-take m s))
    (λ j before. ap is_line_feed (get_or-take m s j 0 (omega arith)) ∙ fails_before_first is_line_feed s j 0 (omega (arith, is)))
    (λ _. ap is_line_feed (get_or-take m s k 0 less ∙ ap (λ i. get_or s i 0) (sym is)) ∙ passes_at_first is_line_feed s 0 (omega (arith, is)))

place_late : (room : ℕ) (s : List ℕ) → room ≤ position_or_len is_line_feed s → room < length s → room ≤ position_or_len is_line_feed (take (room + 1) s)
place_late room s late more = ⊎_elim
    (λ (l : position_or_len is_line_feed (take (room + 1) s) < room).
    let k = position_or_len is_line_feed (take (room + 1) s) in
    let count : length (take (room + 1) s) ≡ room + 1 = length-take-le (room + 1) s (omega arith) in
    let yes : is_line_feed (get_or s k 0) ≡ true = ap is_line_feed (sym (get_or-take (room + 1) s k 0 (omega arith))) ∙ passes_at_first is_line_feed (take (room + 1) s) 0 (omega arith) in
    let no : is_line_feed (get_or s k 0) ≡ false = fails_before_first is_line_feed s k 0 (omega arith) in
    absurd (differ (is_line_feed (get_or s k 0)) yes no))
    (λ (g : room ≤ position_or_len is_line_feed (take (room + 1) s)). g)
    (cases_lt (position_or_len is_line_feed (take (room + 1) s)) room)
  where
    differ : (b : Bool) → b ≡ true → b ≡ false → ⊥
    differ true y n = cc
    differ false y n = cc

-- the first line of a text, where it ends
at_line : (n room : ℕ) (s : List ℕ) (k : ℕ) → position_or_len is_line_feed s ≡ k → k < length s →
    entries_from n room (lines_of s) ≡ cond (is_past n room (k + 1)) (Err n) (entries_by n (entry_of (take k s)) (entries_from (n + 1) (room - (k + 1)) (lines_of (drop (k + 1) s))))
at_line n room s k is l =
    let count : length (take k s) ≡ k = length-take-le k s (omega arith) in
    let len : line_len (take k s) (lines_of (drop (k + 1) s)) ≡ k + 1 = len_more (take k s) (drop (k + 1) s) ∙ ap (λ c. c + 1) count in
    ap (entries_from n room) (slice_split_first is_line_feed s 0 (omega (arith, is)) ∙ ap (λ i. take i s ∷ lines_of (drop (i + 1) s)) is)
    ∙ first_of_lines n room (take k s) (lines_of (drop (k + 1) s)) ∙ when_false _ _ _ (not_end (take k s) (drop (k + 1) s))
    ∙ ap (λ t. cond (is_past n room t) (Err n) (entries_by n (entry_of (take k s)) (entries_from (n + 1) (room - t) (lines_of (drop (k + 1) s))))) len

pub limited : (turns n room : ℕ) (s : List ℕ) → length s < turns → entries_from n room (lines_of (take (room + 1) s)) ≡ entries_from n room (lines_of s)
limited zero n room s h = absurd (omega arith)
limited (suc turns) n room s h = ⊎_elim
    (λ (l : room < length s). ⊎_elim
    (λ (early : position_or_len is_line_feed s < room).
    let k = position_or_len is_line_feed s in
    one_line early l (limited turns (n + 1) (room - (k + 1)) (drop (k + 1) s) (omega (arith, length-drop (k + 1) s))))
    (λ (late : room ≤ position_or_len is_line_feed s).
    let count : length (take (room + 1) s) ≡ room + 1 = length-take-le (room + 1) s (omega arith) in
    long_line n room (take (room + 1) s) (omega arith) (place_late room s late l) ∙ sym (long_line n room s l late))
    (cases_lt (position_or_len is_line_feed s) room))
    (λ (g : length s ≤ room). ap (λ t. entries_from n room (lines_of t)) (take_all (room + 1) s (omega arith)))
    (cases_lt room (length s))
  where
    one_line : position_or_len is_line_feed s < room → room < length s →
        (let k = position_or_len is_line_feed s in entries_from (n + 1) (room - (k + 1)) (lines_of (take (room - (k + 1) + 1) (drop (k + 1) s))) ≡ entries_from (n + 1) (room - (k + 1)) (lines_of (drop (k + 1) s))) →
        entries_from n room (lines_of (take (room + 1) s)) ≡ entries_from n room (lines_of s)
    one_line early l others =
        let k = position_or_len is_line_feed s in
        let t : List ℕ = take (room + 1) s in
        let count : length t ≡ room + 1 = length-take-le (room + 1) s (omega arith) in
        let line : take k t ≡ take k s = take-take k (room + 1) s (omega arith) in
        let parts : room + 1 ≡ (k + 1) + (room - (k + 1) + 1) = omega arith in
        let behind : drop (k + 1) t ≡ take (room - (k + 1) + 1) (drop (k + 1) s) = ap (λ i. drop (k + 1) (take i s)) parts ∙ drop-take (k + 1) (room - (k + 1) + 1) s in
        at_line n room t k (place_within (room + 1) s k refl (omega arith) (omega arith)) (omega arith)
        ∙ ap (λ x. cond (is_past n room (k + 1)) (Err n) (entries_by n (entry_of x) (entries_from (n + 1) (room - (k + 1)) (lines_of (drop (k + 1) t))))) line
        ∙ ap (λ x. cond (is_past n room (k + 1)) (Err n) (entries_by n (entry_of (take k s)) (entries_from (n + 1) (room - (k + 1)) (lines_of x)))) behind
        ∙ ap (λ x. cond (is_past n room (k + 1)) (Err n) (entries_by n (entry_of (take k s)) x)) others
        ∙ sym (at_line n room s k refl (omega arith))

-- the entries of a list are those of its first bytes, one more than a list may have
pub first_bytes_do : (s : List ℕ) → entries_of (take 1048577 s) ≡ entries_of s
unfolding entries_of
first_bytes_do [] = refl
first_bytes_do (b ∷ s) = limited (length (b ∷ s) + 1) 1 list_limit (b ∷ s) (omega arith)
