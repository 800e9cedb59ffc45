-- Steps of the loops over decisions.
use Rattle.std.proofs.Common.{◌≡◌, ℕ, suc, ◌+◌, ◌-◌, ◌<◌, ◌≤◌, ◌∙◌, Bool, true, false, ◌&&◌, List, [], ◌∷◌, ◌++◌, length, take, drop, set, get_or, arith, ap, refl, sym, Option, Some, None, append_assoc}
use Rattle.std.proofs.lemmas.List.{drop_more, drop_all, take_all, take_more_set}
use Rattle.mv_terms.specs.declared.head.Head.{Head}
use Rattle.mv_terms.specs.declared.macroblock.Decision.{Decision}
use Rattle.mv_macro.specs.Legal.{ends_slice}
use Rattle.rec_legal.specs.declared.decisions.Past.{Past}
use Rattle.rec_legal.specs.Tests.{are_legal_from, is_legal_at, past_behind, past_in_slice}
use Rattle.rec_legal.specs.Said.{decision_said, decisions_said, ◌>>=◌}

-- ---- legal decisions

module _ (head : Head) (ds : List Decision) (place : ℕ) (none : Decision) (past : Past) (inside : place < length ds) where
  -- the decision at the place, and those behind it
  abbrev d : Decision
  d = get_or ds place none

  abbrev later : List Decision
  later = drop (place + 1) ds

  unfolded : are_legal_from head place past (drop place ds) ≡ (is_legal_at head place (past_in_slice d past) (ends_slice later) d && are_legal_from head (place + 1) (past_behind head d (past_in_slice d past)) later)
  unfolding are_legal_from
  unfolded = ap (are_legal_from head place past) (drop_more ds place none inside)

  module _ (now : Past) (last legal : Bool) (in_slice : now ≡ past_in_slice d past) (ends : last ≡ ends_slice later) (is : legal ≡ is_legal_at head place now last d) where
    told : is_legal_at head place (past_in_slice d past) (ends_slice later) d ≡ legal
    told = sym (is ∙ ap (λ (l : Bool). is_legal_at head place now l d) ends ∙ ap (λ (p : Past). is_legal_at head place p (ends_slice later) d) in_slice)

    tested : are_legal_from head place past (drop place ds) ≡ (legal && are_legal_from head (place + 1) (past_behind head d (past_in_slice d past)) later)
    tested = unfolded ∙ ap (λ (b : Bool). b && are_legal_from head (place + 1) (past_behind head d (past_in_slice d past)) later) told

    pub legal_more : (next : Past) → next ≡ past_behind head d now → legal ≡ true → are_legal_from head place past (drop place ds) ≡ are_legal_from head (place + 1) next later
    legal_more next behind e =
        tested ∙ (ap (λ (b : Bool). b && are_legal_from head (place + 1) (past_behind head d (past_in_slice d past)) later) e
        ∙ (ap (λ (p : Past). are_legal_from head (place + 1) (past_behind head d p) later) (sym in_slice) ∙ ap (λ (p : Past). are_legal_from head (place + 1) p later) (sym behind)))

    pub legal_not : legal ≡ false → are_legal_from head place past (drop place ds) ≡ false
    legal_not e = tested ∙ ap (λ (b : Bool). b && are_legal_from head (place + 1) (past_behind head d (past_in_slice d past)) later) e

pub legal_all : (head : Head) (ds : List Decision) (place : ℕ) (past : Past) → length ds ≤ place → are_legal_from head place past (drop place ds) ≡ true
unfolding are_legal_from
legal_all head ds place past end = ap (are_legal_from head place past) (drop_all place ds end)

-- ---- slots

abbrev pub Behind : List Decision → Option (List Decision) → Option (List Decision)
Behind front rest = rest >>= (λ later. Some (front ++ later))

bind_again : (o : Option (List Decision)) (front : List Decision) (d : Decision) → Behind front (o >>= (λ later. Some (d ∷ later))) ≡ Behind (front ++ d ∷ []) o
bind_again None front d = refl
bind_again (Some later) front d = ap (λ (xs : List Decision). Some xs) (sym (append_assoc front (d ∷ []) later))

pub slots_none : (n : ℕ) (slots : List ℕ) → Behind [] (decisions_said n slots) ≡ decisions_said n slots
slots_none n slots = go (decisions_said n slots)
  where
    go : (o : Option (List Decision)) → Behind [] o ≡ o
    go None = refl
    go (Some ds) = refl

module _ (n i : ℕ) (front : List Decision) (rest : List ℕ) (count : n - i ≡ suc (n - (i + 1))) where
  unrolled : decisions_said (n - i) rest ≡ (decision_said (take 20 rest) >>= (λ first. decisions_said (n - (i + 1)) (drop 20 rest) >>= (λ later. Some (first ∷ later))))
  unfolding decisions_said
  unrolled = ap (λ (k : ℕ). decisions_said k rest) count

  pub slots_more : (d : Decision) → decision_said (take 20 rest) ≡ Some d → Behind front (decisions_said (n - i) rest) ≡ Behind (front ++ d ∷ []) (decisions_said (n - (i + 1)) (drop 20 rest))
  slots_more d e =
      ap (Behind front) (unrolled ∙ ap (λ (o : Option Decision). o >>= (λ first. decisions_said (n - (i + 1)) (drop 20 rest) >>= (λ later. Some (first ∷ later)))) e)
      ∙ bind_again (decisions_said (n - (i + 1)) (drop 20 rest)) front d

  pub slots_stop : decision_said (take 20 rest) ≡ None → Behind front (decisions_said (n - i) rest) ≡ None
  slots_stop e = ap (Behind front) (unrolled ∙ ap (λ (o : Option Decision). o >>= (λ first. decisions_said (n - (i + 1)) (drop 20 rest) >>= (λ later. Some (first ∷ later)))) e)

pub slots_all : (n : ℕ) (front : List Decision) (rest : List ℕ) → n ≡ 0 → Behind front (decisions_said n rest) ≡ Some front
unfolding decisions_said
slots_all n front rest e = ap (λ (k : ℕ). Behind front (decisions_said k rest)) e ∙ ap (λ (xs : List Decision). Some xs) (nothing_behind front)
  where
    nothing_behind : (xs : List Decision) → xs ++ [] ≡ xs
    nothing_behind [] = refl
    nothing_behind (x ∷ xs) = ap (λ (ys : List Decision). x ∷ ys) (nothing_behind xs)

-- the steps of the loop
pub slots_first : (n : ℕ) (slots : List ℕ) → decisions_said n slots ≡ Behind [] (decisions_said (n - 0) slots)
slots_first n slots = sym (slots_none n slots) ∙ ap (λ (k : ℕ). Behind [] (decisions_said k slots)) (let e : n ≡ n - 0 = omega arith in e)

module _ (n i : ℕ) (read : List Decision) (rest slot later : List ℕ) (d : Decision) (inside : i < n) (room : i < length read) (front : slot ≡ take 20 rest) (back : later ≡ drop 20 rest) where
  pub slots_next : decision_said slot ≡ Some d → Behind (take i read) (decisions_said (n - i) rest) ≡ Behind (take (i + 1) (set read i d)) (decisions_said (n - (i + 1)) later)
  slots_next e =
      slots_more n i (take i read) rest (omega arith) d (ap decision_said (sym front) ∙ e)
      ∙ (ap (λ (xs : List Decision). Behind xs (decisions_said (n - (i + 1)) (drop 20 rest))) (sym (take_more_set read i d room))
      ∙ ap (λ (xs : List ℕ). Behind (take (i + 1) (set read i d)) (decisions_said (n - (i + 1)) xs)) (sym back))

pub slots_stopped : (n i : ℕ) (front : List Decision) (rest slot : List ℕ) → i < n → slot ≡ take 20 rest → decision_said slot ≡ None → Behind front (decisions_said (n - i) rest) ≡ None
slots_stopped n i front rest slot inside is e = slots_stop n i front rest (omega arith) (ap decision_said (sym is) ∙ e)

pub slots_all_read : (n i : ℕ) (read : List Decision) (rest : List ℕ) → n ≤ i → length read ≤ i → Behind (take i read) (decisions_said (n - i) rest) ≡ Some read
slots_all_read n i read rest past all = slots_all (n - i) (take i read) rest (omega arith) ∙ ap (λ (xs : List Decision). Some xs) (take_all i read all)
