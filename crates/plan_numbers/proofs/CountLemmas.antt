-- One more frame is counted.
use Rattle.std.proofs.Common.{◌≡◌, ◌↔◌, ◌⊎◌, ℕ, ◌+◌, ◌<◌, ◌≤◌, List, [], ◌∷◌, ◌++◌, length, get_or, inl, inr, arith}
use Rattle.plan_numbers.specs.Stands.{AreCounted}
use Rattle.plan_numbers.proofs.ListLemmas.{at_front, at_end, one_longer, before_or_last, iff_along}

-- the count of the next frame: one of the last 16 has the same count exactly where it has the same context
pub record Fits (contexts : List (List ℕ)) (counts : List ℕ) (context : List ℕ) (count : ℕ) : Type 0 where
  pub small : count ≤ length contexts
  pub same : (i : ℕ) → i < length contexts → length contexts ≤ i + 16 → (get_or contexts i [] ≡ context) ↔ (get_or counts i 0 ≡ count)

pub one_more : (contexts : List (List ℕ)) (counts : List ℕ) (context : List ℕ) (count : ℕ) → AreCounted contexts counts → Fits contexts counts context count
    → AreCounted (contexts ++ context ∷ []) (counts ++ count ∷ [])
one_more contexts counts context count are fits = record {
  many = let a = one_longer contexts context in let b = one_longer counts count in let m = are.many in omega (arith, a, b, m);
  small = small;
  near = near;
}
  where
    small : (i : ℕ) → i < length (contexts ++ context ∷ []) → get_or (counts ++ count ∷ []) i 0 ≤ i
    small i h = go (before_or_last contexts context i h)
      where
        go : (i < length contexts) ⊎ (i ≡ length contexts) → get_or (counts ++ count ∷ []) i 0 ≤ i
        go (inl l) = let m = are.many in let e = at_front counts count 0 i (omega (arith, m, l)) in let s = are.small i l in omega (arith, e, s)
        go (inr g) = let m = are.many in let e = at_end counts count 0 i (omega (arith, m, g)) in let s = fits.small in omega (arith, e, s, g)

    near : (i j : ℕ) → i < j → j ≤ i + 16 → j < length (contexts ++ context ∷ [])
        → (get_or (contexts ++ context ∷ []) i [] ≡ get_or (contexts ++ context ∷ []) j []) ↔ (get_or (counts ++ count ∷ []) i 0 ≡ get_or (counts ++ count ∷ []) j 0)
    near i j lt le h = go (before_or_last contexts context j h)
      where
        go : (j < length contexts) ⊎ (j ≡ length contexts)
            → (get_or (contexts ++ context ∷ []) i [] ≡ get_or (contexts ++ context ∷ []) j []) ↔ (get_or (counts ++ count ∷ []) i 0 ≡ get_or (counts ++ count ∷ []) j 0)
        go (inl l) =
            let m = are.many in
            iff_along (get_or contexts i []) (get_or contexts j []) _ _ (get_or counts i 0) (get_or counts j 0) _ _
            (at_front contexts context [] i (omega (arith, lt, l))) (at_front contexts context [] j l)
            (at_front counts count 0 i (omega (arith, lt, l, m))) (at_front counts count 0 j (omega (arith, l, m)))
            (are.near i j lt le l)
        go (inr g) =
            let m = are.many in
            iff_along (get_or contexts i []) context _ _ (get_or counts i 0) count _ _
            (at_front contexts context [] i (omega (arith, lt, g))) (at_end contexts context [] j g)
            (at_front counts count 0 i (omega (arith, lt, g, m))) (at_end counts count 0 j (omega (arith, g, m)))
            (fits.same i (omega (arith, lt, g)) (omega (arith, le, g)))
