-- Lists with one more item, and equations that are the same.
use Rattle.std.proofs.Common.{◌≡◌, ◌↔◌, ◌⊎◌, ℕ, ◌+◌, ◌<◌, ◌≤◌, ◌∙◌, List, [], ◌∷◌, ◌++◌, length, get_or, sym, ap, inl, inr, arith, length-append}
use Rattle.std.proofs.Math.Seq.{get_or-append_seam}
use Rattle.std.proofs.lemmas.Bool.{cases_lt}
use Rattle.std.proofs.lemmas.List.{get_or_append_left}

pub at_front : {X : Type 0} (xs : List X) (x d : X) (i : ℕ) → i < length xs → get_or (xs ++ x ∷ []) i d ≡ get_or xs i d
at_front xs x d i h = get_or_append_left xs (x ∷ []) d i h

pub at_end : {X : Type 0} (xs : List X) (x d : X) (i : ℕ) → i ≡ length xs → get_or (xs ++ x ∷ []) i d ≡ x
at_end {X} xs x d i e = ap (λ (k : ℕ). get_or (xs ++ x ∷ []) k d) e ∙ get_or-append_seam xs x [] d

pub one_longer : {X : Type 0} (xs : List X) (x : X) → length (xs ++ x ∷ []) ≡ length xs + 1
one_longer xs x = length-append xs (x ∷ [])

-- a place in the longer list is one of the shorter list, or the last one
pub before_or_last : {X : Type 0} (xs : List X) (x : X) (i : ℕ) → i < length (xs ++ x ∷ []) → (i < length xs) ⊎ (i ≡ length xs)
before_or_last xs x i h = go (cases_lt i (length xs))
  where
    go : (i < length xs) ⊎ (length xs ≤ i) → (i < length xs) ⊎ (i ≡ length xs)
    go (inl l) = inl l
    go (inr g) = let e = one_longer xs x in inr (omega (arith, e, g, h))

-- equal sides, equal equations
pub iff_along : {X Y : Type 0} (a b p q : X) (c d r s : Y) → p ≡ a → q ≡ b → r ≡ c → s ≡ d → (a ≡ b) ↔ (c ≡ d) → (p ≡ q) ↔ (r ≡ s)
iff_along a b p q c d r s ea eb ec ed h =
    (λ e. ec ∙ (h.0 (sym ea ∙ (e ∙ eb)) ∙ sym ed), λ e. ea ∙ (h.1 (sym ec ∙ (e ∙ ed)) ∙ sym eb))
