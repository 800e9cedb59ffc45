-- A decision in memory, from its parts.
use Rattle.std.proofs.Common.{◌≡◌, ℕ, zero, suc, List, [], ◌∷◌, length, get_or, refl, sym, subst, ◌∙◌, arith, ℤ, pos}
use Rattle.std.specs.Int.{w16}
use Rattle.std.proofs.lemmas.Int.{fits_signed_from_abs}
use Rattle.mv_terms.specs.declared.macroblock.Vector.{Vector}
use Rattle.mv_terms.specs.declared.macroblock.Decision.{Decision}
use Rattle.mv_terms.specs.Decisions.{still}
use Rattle.rec_slot.specs.Slot.{IsHeld}
use Rattle.rec_legal.specs.Steps.{AreTwoSelects, AreTwoVectors, HasSmallComponents}

pub two_of : {A : Type 0} (xs : List (List A)) → length xs ≡ 2 → xs ≡ get_or xs 0 [] ∷ get_or xs 1 [] ∷ []
two_of [] e = absurd (omega (arith, e))
two_of (x ∷ []) e = absurd (omega (arith, e))
two_of (x ∷ y ∷ []) e = refl
two_of (x ∷ y ∷ z ∷ xs) e = absurd (omega (arith, e))

two_values : (xs : List ℤ) → length xs ≡ 2 → xs ≡ get_or xs 0 (pos 0) ∷ get_or xs 1 (pos 0) ∷ []
two_values [] e = absurd (omega (arith, e))
two_values (x ∷ []) e = absurd (omega (arith, e))
two_values (x ∷ y ∷ []) e = refl
two_values (x ∷ y ∷ z ∷ xs) e = absurd (omega (arith, e))

pub both_lists : {A : Type 0} (p q r s : List A) → p ≡ r → q ≡ s → ◌≡◌ {A = List (List A)} (p ∷ q ∷ []) (r ∷ s ∷ [])
both_lists p q r s a b = rw (a, b) refl

still_small : HasSmallComponents still
still_small = record { x = fits_signed_from_abs w16 (pos 0) (omega arith); y = fits_signed_from_abs w16 (pos 0) (omega arith) }

four_small : (a b c e : Vector) → HasSmallComponents a → HasSmallComponents b → HasSmallComponents c → HasSmallComponents e → (s r : ℕ) → HasSmallComponents (get_or (get_or ((a ∷ b ∷ []) ∷ (c ∷ e ∷ []) ∷ []) s []) r still)
four_small a b c e fa fb fc fe zero zero = fa
four_small a b c e fa fb fc fe zero (suc zero) = fb
four_small a b c e fa fb fc fe zero (suc (suc r)) = still_small
four_small a b c e fa fb fc fe (suc zero) zero = fc
four_small a b c e fa fb fc fe (suc zero) (suc zero) = fe
four_small a b c e fa fb fc fe (suc zero) (suc (suc r)) = still_small
four_small a b c e fa fb fc fe (suc (suc s)) r = still_small

pub held_of : (d : Decision) → length d.selects ≡ 2 → length d.vectors ≡ 2 → AreTwoSelects (get_or d.selects 0 []) → AreTwoSelects (get_or d.selects 1 []) → AreTwoVectors (get_or d.vectors 0 []) → AreTwoVectors (get_or d.vectors 1 []) → length d.dual_delta ≡ 2 → IsHeld d
held_of d selects vectors a b c e dmvector =
    let all : d.vectors ≡ (get_or (get_or d.vectors 0 []) 0 still ∷ get_or (get_or d.vectors 0 []) 1 still ∷ []) ∷ (get_or (get_or d.vectors 1 []) 0 still ∷ get_or (get_or d.vectors 1 []) 1 still ∷ []) ∷ [] = two_of d.vectors vectors ∙ both_lists _ _ _ _ c.two e.two in
    let small : (s r : ℕ) → HasSmallComponents (get_or (get_or d.vectors s []) r still) = λ (s r : ℕ). subst (λ (vs : List (List Vector)). HasSmallComponents (get_or (get_or vs s []) r still)) (sym all) (four_small _ _ _ _ c.first c.second e.first e.second s r) in
    record {
      selects = two_of d.selects selects ∙ both_lists _ _ _ _ a b;
      vectors = all;
      dual_delta = two_values d.dual_delta dmvector;
      x_fits = λ s r. (small s r).x;
      y_fits = λ s r. (small s r).y;
    }
