-- Elements that were cut stay elements.
use Rattle.std.proofs.Common.{◌≡◌, ℕ, true, false, List, [], ◌∷◌, ◌++◌, take, drop, refl, sym, ap, ◌∙◌, subst, inl, inr}
use Rattle.std.specs.List.{concat}
use Rattle.std.proofs.lemmas.Bool.{cases_Bool, false_from_ne_true}
use Rattle.std.proofs.lemmas.List.{take-append-drop, append_assoc}
use Rattle.mv_bits.specs.Elements.{is_start, next_start, cut, Cut, are_elements}
use Rattle.mv_bits.proofs.CutLaws.{cut_started, cut_unstarted, started_cut, three, front_is, is_start_append, started_long}
use Rattle.mv_bits.proofs.JoinLaws.{cut_join}

-- each element begins with a start code
abbrev pub Start : List (List ℕ) → Type 0
Start [] = Unit {0}
Start (e ∷ es) = (is_start e ≡ true) × Start es

first_is : (c d : List ℕ) (es fs : List (List ℕ)) → c ∷ es ≡ d ∷ fs → c ≡ d
first_is c d es fs is = cc

pub elements_all_start : (bytes : List ℕ) → Start (cut bytes).elements
unfolding cut
elements_all_start [] = tt
elements_all_start (b ∷ bs) =
    elim (cases_Bool (is_start (b ∷ bs))) [
      | inr other ↦ rw other (elements_all_start bs)
      | inl starts ↦
          let x = drop 3 (b ∷ bs) in
          let one = ap (λ (c : Cut). c.elements) (cut_started b bs starts) in
          let two = ap (λ (y : List ℕ). (cut y).elements) (three (b ∷ bs) starts)
          ∙ ap (λ (c : Cut). c.elements) (started_cut x) in
          let same : b ∷ (cut bs).front ≡ 0 ∷ 0 ∷ 1 ∷ (cut x).front = first_is _ _ _ _ (sym one ∙ two) in
          rw starts (subst (λ (y : List ℕ). is_start y ≡ true) (sym same) refl, elements_all_start bs)
    ]

-- an element is one element
abbrev pub IsPiece : List ℕ → Type 0
IsPiece e = (is_start e ≡ true) × (cut e ≡ record { front = []; elements = e ∷ [] })

abbrev pub ArePieces : List (List ℕ) → Type 0
ArePieces [] = Unit {0}
ArePieces (e ∷ es) = IsPiece e × ArePieces es

is_start_take : (b n : ℕ) (bs : List ℕ) → is_start (b ∷ take n bs) ≡ true → is_start (b ∷ bs) ≡ true
is_start_take b n bs starts =
    let whole : b ∷ take n bs ++ drop n bs ≡ b ∷ bs = ap (λ (x : List ℕ). b ∷ x) (take-append-drop n bs) in
    ap is_start (sym whole) ∙ is_start_append (b ∷ take n bs) (drop n bs) (started_long (b ∷ take n bs) starts) ∙ starts

-- the front has no start code
pub front_alone : (bytes : List ℕ) → cut (cut bytes).front ≡ record { front = (cut bytes).front; elements = [] }
unfolding cut
front_alone [] = refl
front_alone (b ∷ bs) =
    elim (cases_Bool (is_start (b ∷ bs))) [
      | inl starts ↦ rw starts refl
      | inr other ↦
          let f = (cut bs).front in
          let none : is_start (b ∷ f) ≡ false = false_from_ne_true _ (λ here.
          let there : is_start (b ∷ take (next_start bs) bs) ≡ true = ap (λ (x : List ℕ). is_start (b ∷ x)) (sym (front_is bs)) ∙ here in
          let never : true ≡ false = sym (is_start_take b (next_start bs) bs there) ∙ other in cc) in
          rw other (cut_unstarted b f none ∙ rw (front_alone bs) refl)
    ]

pub pieces : (bytes : List ℕ) → ArePieces (cut bytes).elements
unfolding cut
pieces [] = tt
pieces (b ∷ bs) =
    let starts_all : Start (cut (b ∷ bs)).elements = elements_all_start (b ∷ bs) in
    elim (cases_Bool (is_start (b ∷ bs))) [
      | inr other ↦ rw other (pieces bs)
      | inl starts ↦
          let first : Start ((b ∷ (cut bs).front) ∷ (cut bs).elements) = rw starts at starts_all in
          rw starts ((first.0, cut_started b (cut bs).front first.0 ∙ rw (front_alone bs) refl), pieces bs)
    ]

started_by : (e x : List ℕ) → is_start e ≡ true → are_elements (e ++ x) ≡ true
started_by [] x starts = absurd cc
started_by (b ∷ bs) x starts = is_start_append (b ∷ bs) x (started_long (b ∷ bs) starts) ∙ starts

pub pieces_start : (es : List (List ℕ)) → ArePieces es → are_elements (concat es) ≡ true
pieces_start [] are = refl
pieces_start (e ∷ es) are = started_by e (concat es) are.0.0

pub pieces_cut : (es : List (List ℕ)) → ArePieces es → cut (concat es) ≡ record { front = []; elements = es }
unfolding cut
pieces_cut [] are = refl
pieces_cut (e ∷ es) are = cut_join e (concat es) (pieces_start es are.1) ∙ rw (are.0.1, pieces_cut es are.1) refl

pub front_cut_with : (bytes : List ℕ) (es : List (List ℕ)) → ArePieces es → cut ((cut bytes).front ++ concat es) ≡ record { front = (cut bytes).front; elements = es }
front_cut_with bytes es are = cut_join (cut bytes).front (concat es) (pieces_start es are) ∙ rw (front_alone bytes, pieces_cut es are) refl

pub pieces_split : (xs ys : List (List ℕ)) → ArePieces (xs ++ ys) → ArePieces xs × ArePieces ys
pieces_split [] ys are = (tt, are)
pieces_split (x ∷ xs) ys are = let later = pieces_split xs ys are.1 in ((are.0, later.0), later.1)

pub concat_append : (xs ys : List (List ℕ)) → concat (xs ++ ys) ≡ concat xs ++ concat ys
concat_append [] ys = refl
concat_append (x ∷ xs) ys = ap (λ (b : List ℕ). x ++ b) (concat_append xs ys) ∙ sym (append_assoc x (concat xs) (concat ys))

pub cut_again : (bytes : List ℕ) → cut (concat (cut bytes).elements) ≡ record { front = []; elements = (cut bytes).elements }
cut_again bytes = pieces_cut (cut bytes).elements (pieces bytes)
