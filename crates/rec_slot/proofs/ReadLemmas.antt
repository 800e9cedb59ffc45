-- A slot from its parts.
use Rattle.std.proofs.Common.{◌≡◌, ℕ, List, [], ◌∷◌, length, get_or, refl}
use Rattle.std.proofs.lemmas.List.FromFn.{fill_by_all}

pub next_same : (x y : ℕ) (xs ys : List ℕ) → x ≡ y → xs ≡ ys → x ∷ xs ≡ y ∷ ys
next_same x y xs ys first others = rw (first, others) refl

-- twenty bytes one by one
pub one_by_one : (bytes : List ℕ) → length bytes ≡ 20 → bytes ≡ get_or bytes 0 0 ∷ get_or bytes 1 0 ∷ get_or bytes 2 0 ∷ get_or bytes 3 0 ∷ get_or bytes 4 0 ∷ get_or bytes 5 0 ∷ get_or bytes 6 0 ∷ get_or bytes 7 0 ∷ get_or bytes 8 0 ∷ get_or bytes 9 0
    ∷ get_or bytes 10 0 ∷ get_or bytes 11 0 ∷ get_or bytes 12 0 ∷ get_or bytes 13 0 ∷ get_or bytes 14 0 ∷ get_or bytes 15 0 ∷ get_or bytes 16 0 ∷ get_or bytes 17 0 ∷ get_or bytes 18 0 ∷ get_or bytes 19 0 ∷ []
one_by_one bytes size = fill_by_all (λ i. get_or bytes i 0) bytes 20 0 size (λ k inside. refl)
