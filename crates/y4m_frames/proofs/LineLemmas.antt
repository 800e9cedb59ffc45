-- The first line feed of some bytes, and of the bytes that they begin.
use Rattle.std.proofs.Common.{◌≡◌, ℕ, suc, ◌+◌, ◌-◌, ◌<◌, ◌≤◌, Bool, true, false, cond, List, [], ◌∷◌, ◌++◌, length, take, drop, get_or, min, refl, sym, ap, ◌∙◌, arith, Option, Some, None, position, nat_lt, lt-ltb, le-ltb, eqb-true, append-nil, le_refl, ⊎_elim, ◌⊎◌}
use Rattle.std.specs.List.{position_or_len, list_any}
use Rattle.std.proofs.lemmas.Bool.{cases_lt}
use Rattle.std.proofs.lemmas.List.{length-take, length-append, take-append-le, take_all, take_at, drop_at, get_or_append_left, get_or-take, take-append-drop, drop_more, get_or_default}
use Rattle.std.proofs.lemmas.List.Folds.{list_any_none}
use Rattle.std.proofs.lemmas.List.Quantifiers.{position-Some}
use Rattle.std.proofs.lemmas.List.Sums.{position_or_len_is}
use Rattle.std.proofs.Math.Seq.{take-add}
use Rattle.memchr.specs.Find.{IsFirstByte, is_byte}
use Rattle.y4m_frames.specs.Lines.{is_line_feed, line_within}

not_true : (b : Bool) → (b ≡ true → ⊥) → b ≡ false
not_true true h = absurd (h refl)
not_true false h = refl

pub at_first : (p : ℕ → Bool) (xs : List ℕ) (k : ℕ) → k < length xs → p (get_or xs k 0) ≡ true → ((j : ℕ) → j < k → p (get_or xs j 0) ≡ false) → position p xs ≡ Some k
at_first p xs k within here before =
    let e : position_or_len p xs ≡ k = position_or_len_is p xs k 0 (omega arith) before (λ _. here) in
    ap (λ n. cond (nat_lt n (length xs)) (Some n) None) e ∙ ap (λ b. cond b (Some k) None) (lt-ltb k (length xs) within)

pub nowhere : (p : ℕ → Bool) (xs : List ℕ) → ((j : ℕ) → j < length xs → p (get_or xs j 0) ≡ false) → position p xs ≡ None
nowhere p xs none =
    let e : position_or_len p xs ≡ length xs = position_or_len_is p xs (length xs) 0 (le_refl (length xs)) none (λ l. absurd (omega arith)) in
    ap (λ n. cond (nat_lt n (length xs)) (Some n) None) e ∙ ap (λ b. cond b (Some (length xs)) None) (le-ltb (length xs) (length xs) (le_refl (length xs)))

-- what a search answers is the place
pub found_is : (xs : List ℕ) (r : Option ℕ) → IsFirstByte (is_byte 10) xs r → r ≡ position is_line_feed xs
found_is xs None h = sym (nowhere is_line_feed xs (λ j l. not_true _ (λ t. h j (omega arith) l t)))
found_is xs (Some k) h = sym (at_first is_line_feed xs k h.0.high h.1 (λ j l. not_true _ (λ t. h.0.before j (omega arith) l t)))

-- a place that is found stays, whatever follows
pub place_stays : (p : ℕ → Bool) (xs ys : List ℕ) (k : ℕ) → position p xs ≡ Some k → position p (xs ++ ys) ≡ Some k
place_stays p xs ys k h =
    let f = position-Some p xs k 0 h in
    let within : k < length xs = f.0 in
    at_first p (xs ++ ys) k (omega (arith, within, length-append xs ys)) (ap p (get_or_append_left xs ys 0 k within) ∙ f.1)
    (λ j l. ap p (get_or_append_left xs ys 0 j (omega arith)) ∙ f.2 j l)

-- what isn't among some bytes isn't among the first of them
pub none_in_front : (p : ℕ → Bool) (xs ys : List ℕ) → position p (xs ++ ys) ≡ None → position p xs ≡ None
none_in_front p xs ys h = by_answer (position p xs) refl
  where
    by_answer : (r : Option ℕ) → position p xs ≡ r → position p xs ≡ None
    by_answer None e = e
    by_answer (Some k) e = let stays : position p (xs ++ ys) ≡ Some k = place_stays p xs ys k e in cc

pub take_split : (n : ℕ) (a b : List ℕ) → (rest : List ℕ) × (take n (a ++ b) ≡ take n a ++ rest)
take_split n a b = ⊎_elim
    (λ (l : n < length a). let none : take n a ++ [] ≡ take n a = append-nil (take n a) in ([], take-append-le n a b (omega arith) ∙ sym none))
    (λ (g : length a ≤ n).
    let parts : n ≡ length a + (n - length a) = omega arith in
    let e : take n (a ++ b) ≡ a ++ take (n - length a) b =
    ap (λ k. take k (a ++ b)) parts ∙ take-add (length a) (n - length a) (a ++ b) ∙ rw (take_at a b (length a) refl, drop_at a b (length a) refl) refl in
    (take (n - length a) b, e ∙ ap (λ s. s ++ take (n - length a) b) (sym (take_all n a g))))
    (cases_lt n (length a))

-- a line that is found stays, whatever follows
pub line_stays : (most : ℕ) (a b : List ℕ) (k : ℕ) → line_within most a ≡ Some k → line_within most (a ++ b) ≡ Some k
unfolding line_within
line_stays most a b k h =
    let parts = take_split most a b in
    ap (position is_line_feed) parts.1 ∙ place_stays is_line_feed (take most a) parts.0 k h

-- where so many bytes are there, or none follow, none is found later
pub none_stays : (most : ℕ) (a b : List ℕ) → line_within most a ≡ None → (most ≤ length a) ⊎ (b ≡ []) → line_within most (a ++ b) ≡ None
unfolding line_within
none_stays most a b h enough = ⊎_elim
    (λ (g : most ≤ length a). ap (position is_line_feed) (take-append-le most a b g) ∙ h)
    (λ (e : b ≡ []). ap (λ s. position is_line_feed (take most (a ++ s))) e ∙ ap (λ s. position is_line_feed (take most s)) (append-nil a) ∙ h)
    enough

-- of the first bytes
pub line_in_front : (most room : ℕ) (s : List ℕ) (k : ℕ) → line_within most s ≡ Some k → k < room → line_within most (take room s) ≡ Some k
unfolding line_within
line_in_front most room s k h l =
    let f = position-Some is_line_feed (take most s) k 0 h in
    let within : k < length (take most s) = f.0 in
    let len : length (take most s) ≡ min most (length s) = length-take most s in
    let same : (j : ℕ) → j < suc k → get_or (take most (take room s)) j 0 ≡ get_or (take most s) j 0 =
    λ j less. get_or-take most (take room s) j 0 (omega arith) ∙ get_or-take room s j 0 (omega arith) ∙ sym (get_or-take most s j 0 (omega arith)) in
    at_first is_line_feed (take most (take room s)) k (omega (arith, length-take most (take room s), length-take room s))
    (ap is_line_feed (same k (omega arith)) ∙ f.1)
    (λ j less. ap is_line_feed (same j (omega arith)) ∙ f.2 j less)

pub none_first : (most room : ℕ) (s : List ℕ) → line_within most s ≡ None → line_within most (take room s) ≡ None
unfolding line_within
none_first most room s h =
    let parts = take_split most (take room s) (drop room s) in
    let whole : take most s ≡ take most (take room s) ++ parts.0 = ap (take most) (sym (take-append-drop room s)) ∙ parts.1 in
    none_in_front is_line_feed (take most (take room s)) parts.0 (ap (position is_line_feed) (sym whole) ∙ h)

-- a line ends in its line feed, and has none before
pub record IsLine (most : ℕ) (s : List ℕ) (k : ℕ) : Type 0 where
  pub within : k < length s
  pub short : k < most
  pub here : get_or s k 0 ≡ 10
  pub ends : drop k s ≡ 10 ∷ drop (k + 1) s
  pub one_line : list_any is_line_feed (take k s) ≡ false

pub line_is : (most : ℕ) (s : List ℕ) (k : ℕ) → line_within most s ≡ Some k → IsLine most s k
unfolding line_within
line_is most s k h =
    let f = position-Some is_line_feed (take most s) k 0 h in
    let within : k < length (take most s) = f.0 in
    let len : length (take most s) ≡ min most (length s) = length-take most s in
    let inside : k < length s = omega arith in
    let here : get_or s k 0 ≡ 10 = eqb-true (get_or s k 0) 10 (ap is_line_feed (sym (get_or-take most s k 0 (omega arith))) ∙ f.1) in
    record {
      within = inside;
      short = omega arith;
      here = here;
      ends = drop_more s k 0 inside ∙ ap (λ b. b ∷ drop (k + 1) s) here;
      one_line = list_any_none is_line_feed (take k s) (λ j d less.
          let l : j < k = omega (arith, length-take k s) in
          ap is_line_feed (get_or_default (take k s) j d 0 less ∙ get_or-take k s j 0 l ∙ sym (get_or-take most s j 0 (omega arith))) ∙ f.2 j l);
    }
