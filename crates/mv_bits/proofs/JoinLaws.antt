-- Bytes cut where they were joined.
use Rattle.std.proofs.Common.{◌≡◌, ℕ, zero, suc, true, false, List, [], ◌∷◌, ◌++◌, get_or, refl, ◌∙◌, inl, inr}
use Rattle.std.proofs.lemmas.Bool.{cases_Bool}
use Rattle.std.proofs.lemmas.List.{append-nil}
use Rattle.mv_bits.specs.Elements.{is_start, cut, Cut, are_elements}
use Rattle.mv_bits.proofs.StartLaws.{is_start_parts}
use Rattle.mv_bits.specs.Zeros.{zero_bytes}

-- bytes cut behind others: their front is more of the last element
unfoldable pub glued : List ℕ → List (List ℕ) → Cut → Cut
glued front [] d = record { front = front ++ d.front; elements = d.elements }
glued front (e ∷ es) d = let later = glued e es d in record { front = front; elements = later.front ∷ later.elements }

-- bytes that begin with two zeros, or end before, make no start code with those in front
is_start_glue : (x : ℕ) (xs b : List ℕ) → get_or b 0 0 ≡ 0 → get_or b 1 0 ≡ 0 → is_start (x ∷ xs ++ b) ≡ is_start (x ∷ xs)
is_start_glue x [] b h0 h1 = rw (h0, h1) refl
is_start_glue x (y ∷ []) b h0 h1 = rw h0 refl
is_start_glue x (y ∷ z ∷ xs) b h0 h1 = refl

glued_cons : (x : ℕ) (front : List ℕ) (es : List (List ℕ)) (d : Cut) → glued (x ∷ front) es d ≡ record { front = x ∷ (glued front es d).front; elements = (glued front es d).elements }
unfolding glued
glued_cons x front [] d = refl
glued_cons x front (e ∷ es) d = refl

pub cut_append : (a b : List ℕ) → get_or b 0 0 ≡ 0 → get_or b 1 0 ≡ 0 → cut (a ++ b) ≡ glued (cut a).front (cut a).elements (cut b)
unfolding cut glued
cut_append [] b h0 h1 = refl
cut_append (x ∷ xs) b h0 h1 =
    let later = cut_append xs b h0 h1 in
    elim (cases_Bool (is_start (x ∷ xs))) [
      | inl starts ↦
          let here : is_start (x ∷ xs ++ b) ≡ true = is_start_glue x xs b h0 h1 ∙ starts in
          rw (here, starts, later, glued_cons x (cut xs).front (cut xs).elements (cut b)) refl
      | inr other ↦
          let here : is_start (x ∷ xs ++ b) ≡ false = is_start_glue x xs b h0 h1 ∙ other in
          rw (here, other, later, glued_cons x (cut xs).front (cut xs).elements (cut b)) refl
    ]

glued_started : (front : List ℕ) (es : List (List ℕ)) (d : Cut) → d.front ≡ [] → glued front es d ≡ record { front = front; elements = es ++ d.elements }
unfolding glued
glued_started front [] d none = rw (none, append-nil front) refl
glued_started front (e ∷ es) d none = rw (glued_started e es d none) refl

pub started_front : (x : List ℕ) → is_start x ≡ true → (cut x).front ≡ []
unfolding cut
started_front [] starts = refl
started_front (b ∷ bs) starts = rw starts refl

pub elements_front : (x : List ℕ) → are_elements x ≡ true → (cut x).front ≡ []
unfolding cut
elements_front [] are = refl
elements_front (b ∷ bs) are = started_front (b ∷ bs) are

elements_zeros : (x : List ℕ) → are_elements x ≡ true → (get_or x 0 0 ≡ 0) × (get_or x 1 0 ≡ 0)
elements_zeros [] are = (refl, refl)
elements_zeros (b ∷ bs) are = let p = is_start_parts (b ∷ bs) 0 are in (p.0, p.1)

-- Bytes are cut where elements were put behind them.
pub cut_join : (a b : List ℕ) → are_elements b ≡ true → cut (a ++ b) ≡ record { front = (cut a).front; elements = (cut a).elements ++ (cut b).elements }
cut_join a b are =
    let z = elements_zeros b are in
    cut_append a b z.0 z.1 ∙ glued_started (cut a).front (cut a).elements (cut b) (elements_front b are)

-- elements behind elements, and behind nothing
pub elements_join : (a b : List ℕ) → are_elements a ≡ true → are_elements b ≡ true → are_elements (a ++ b) ≡ true
elements_join [] b are are' = are'
elements_join (x ∷ xs) b are are' = let z = elements_zeros b are' in is_start_glue x xs b z.0 z.1 ∙ are

-- no front is no byte in front of the first start code
pub front_none : (a : List ℕ) → (cut a).front ≡ [] → are_elements a ≡ true
unfolding cut
front_none [] none = refl
front_none (b ∷ bs) none =
    elim (cases_Bool (is_start (b ∷ bs))) [
      | inl starts ↦ starts
      | inr other ↦ absurd (let some : b ∷ (cut bs).front ≡ [] = rw other at none in cc)
    ]

zeros_unstarted : (n : ℕ) → is_start (0 ∷ zero_bytes n) ≡ false
zeros_unstarted zero = refl
zeros_unstarted (suc zero) = refl
zeros_unstarted (suc (suc n)) = refl

-- zeros make no start code
pub zeros_cut : (n : ℕ) → cut (zero_bytes n) ≡ record { front = zero_bytes n; elements = [] }
unfolding cut
zeros_cut zero = refl
zeros_cut (suc n) =
    let none : is_start (0 ∷ zero_bytes n) ≡ false = zeros_unstarted n in
    rw (none, zeros_cut n) refl

-- zeros in front of elements
pub zeros_elements_cut : (n : ℕ) (t : List ℕ) → are_elements t ≡ true → cut (zero_bytes n ++ t) ≡ record { front = zero_bytes n; elements = (cut t).elements }
zeros_elements_cut n t are = cut_join (zero_bytes n) t are ∙ rw (zeros_cut n) refl

pub zeros_then : (n : ℕ) (t : List ℕ) → are_elements t ≡ true → (get_or (zero_bytes n ++ t) 0 0 ≡ 0) × (get_or (zero_bytes n ++ t) 1 0 ≡ 0)
zeros_then zero t are = elements_zeros t are
zeros_then (suc zero) t are = (refl, (elements_zeros t are).0)
zeros_then (suc (suc n)) t are = (refl, refl)

-- bytes that begin with a start code still do
pub started_more : (a b : List ℕ) → (a ≡ [] → ⊥) → are_elements a ≡ true → get_or b 0 0 ≡ 0 → get_or b 1 0 ≡ 0 → are_elements (a ++ b) ≡ true
started_more [] b some are h0 h1 = absurd (some refl)
started_more (x ∷ xs) b some are h0 h1 = is_start_glue x xs b h0 h1 ∙ are

-- zeros in front of elements, seen by their number
pub zeros_and_elements : (a b : List ℕ) (n : ℕ) → b ≡ zero_bytes n ++ a → are_elements a ≡ true → (get_or b 0 0 ≡ 0) × (get_or b 1 0 ≡ 0)
zeros_and_elements a b n is are = rw is (zeros_then n a are)
