-- Numbers of contexts stay right as frames come.
use Rattle.std.proofs.Common.{◌≡◌, ◌⊎◌, ℕ, zero, suc, ◌+◌, ◌<◌, ◌≤◌, List, [], ◌∷◌, ◌++◌, length, slice_get, Some, refl, sym, ap, ap₂, ◌∙◌, inl, inr, length-append, bytes_eq, arith}
use Rattle.std.proofs.lemmas.Bool.{cases_lt}
use Rattle.std.proofs.lemmas.List.{map-append, length-map}
use Rattle.plan_window.specs.declared.summary.Summary.{Summary}
use Rattle.plan_window.specs.Numbers.{without_context, AreNumbered, AgreesWithLast}
use Rattle.plan_window.proofs.ListLemmas.{get-first}
use Rattle.plan_window.proofs.StepLemmas.{get_below}

pub some_is : {X : Type 0} (x y : X) → Some x ≡ Some y → x ≡ y
some_is x y e = cc

-- the item that is added
get_last : {X : Type 0} (xs : List X) (x : X) (k : ℕ) → k ≡ length xs → slice_get (xs ++ x ∷ []) k ≡ Some x
get_last [] x zero e = refl
get_last [] x (suc k) e = absurd (omega arith)
get_last (y ∷ xs) x zero e = absurd (omega arith)
get_last (y ∷ xs) x (suc k) e = get_last xs x k (omega arith)

-- two frames are both among the first ones, or the later one is the new one
pub one_more : (w : ℕ) (frames numbered : List Summary) (s t : Summary) → AreNumbered w frames numbered
    → AgreesWithLast w frames numbered s t → without_context s ≡ without_context t
    → AreNumbered w (frames ++ s ∷ []) (numbered ++ t ∷ [])
one_more w frames numbered s t same agrees bare = record {
  rest = map-append without_context frames (s ∷ []) ∙ ap₂ (λ (l : List Summary) (x : Summary). l ++ x ∷ []) same.rest bare ∙ sym (map-append without_context numbered (t ∷ []));
  contexts = pairs;
}
  where
    many : length frames ≡ length numbered
    many = sym (length-map frames without_context) ∙ ap (λ (l : List Summary). length l) same.rest ∙ length-map numbered without_context

    pairs : (i j : ℕ) (a b c d : Summary) → i < j → j ≤ i + w
        → slice_get (frames ++ s ∷ []) i ≡ Some a → slice_get (frames ++ s ∷ []) j ≡ Some b
        → slice_get (numbered ++ t ∷ []) i ≡ Some c → slice_get (numbered ++ t ∷ []) j ≡ Some d
        → bytes_eq a.context b.context ≡ bytes_eq c.context d.context
    pairs i j a b c d lt le at_i at_j is_i is_j = by (cases_lt j (length frames))
      where
        last : j < length (frames ++ s ∷ [])
        last = get_below (frames ++ s ∷ []) j b at_j

        by : (j < length frames) ⊎ (length frames ≤ j) → bytes_eq a.context b.context ≡ bytes_eq c.context d.context
        by (inl l) = same.contexts i j a b c d lt le (sym (get-first frames (s ∷ []) i (omega (arith, l, lt))) ∙ at_i) (sym (get-first frames (s ∷ []) j l) ∙ at_j)
            (sym (get-first numbered (t ∷ []) i (omega (arith, l, lt, many))) ∙ is_i) (sym (get-first numbered (t ∷ []) j (omega (arith, l, many))) ∙ is_j)
        by (inr g) =
            let e : j ≡ length frames = omega (arith, g, last, length-append frames (s ∷ [])) in
            let b_is : s ≡ b = some_is s b (sym (get_last frames s j e) ∙ at_j) in
            let d_is : t ≡ d = some_is t d (sym (get_last numbered t j (e ∙ many)) ∙ is_j) in
            ap (λ (x : Summary). bytes_eq a.context x.context) (sym b_is)
            ∙ agrees i a c (omega (arith, lt, e)) (omega (arith, le, e)) (sym (get-first frames (s ∷ []) i (omega (arith, lt, e))) ∙ at_i) (sym (get-first numbered (t ∷ []) i (omega (arith, lt, e, many))) ∙ is_i)
            ∙ ap (λ (x : Summary). bytes_eq c.context x.context) d_is
