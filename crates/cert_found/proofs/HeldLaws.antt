-- Legal decisions are as a program holds them.
use Rattle.std.proofs.Common.{◌≡◌, ℕ, ◌+◌, Bool, true, false, List, [], ◌∷◌, length, refl, sym, ap, ◌∙◌, subst, arith, ℤ, pos}
use Rattle.std.specs.Prelude.{All, slice_index_or}
use Rattle.std.specs.List.{AllByRecursion}
use Rattle.std.proofs.lemmas.List.Elements.{All-from_recursion}
use Rattle.mv_terms.specs.Ranges.{HasLegalFCodes}
use Rattle.mv_terms.specs.declared.head.Head.{Head}
use Rattle.mv_terms.specs.declared.macroblock.Vector.{Vector}
use Rattle.mv_terms.specs.declared.macroblock.Decision.{Decision}
use Rattle.mv_terms.specs.Decisions.{no_dmvector, still, vector_of}
use Rattle.mv_vectors.specs.Vectors.{Directed, directed, frame_directed}
use Rattle.mv_macro.specs.Past.{Seen}
use Rattle.mv_macro.specs.Legal.{counted, HasLegalVectors, IsLegal, AreLegalFrom, in_its_slice}
use Rattle.rec_slot.specs.Slot.{IsHeld}
use Rattle.cert_picture.proofs.HeldLemmas.{fits_slot}

-- two selects and two vectors
record IsPair (x : Directed) : Type 0 where
  a : Bool
  b : Bool
  v : Vector
  w : Vector
  selects_are : x.selects ≡ a ∷ b ∷ []
  vectors_are : x.vectors ≡ v ∷ w ∷ []

frame_pair : (v : Vector) → IsPair (frame_directed v)
frame_pair v = record { a = false; b = false; v = v; w = still; selects_are = refl; vectors_are = refl }

counted_pair : (field : Bool) (d : Decision) (s : ℕ) → IsPair (counted field d s)
counted_pair true d s = record { a = _; b = _; v = _; w = _; selects_are = refl; vectors_are = refl }
counted_pair false d s = frame_pair (vector_of d s 0)

legal_pair : (used : Bool) (head : Head) (d : Decision) (s : ℕ) → HasLegalVectors used head d s → IsPair (directed d s)
legal_pair true head d s h = subst IsPair (sym h.0) (counted_pair d.field_motion d s)
legal_pair false head d s h = subst IsPair (sym h) (frame_pair still)

record ArePairs (d : Decision) : Type 0 where
  forward : IsPair (directed d 0)
  backward : IsPair (directed d 1)

pairs : (head : Head) (seen : Seen) (last : Bool) (d : Decision) → IsLegal head seen last d → ArePairs d
pairs head seen last d l = by d.skipped d.intra refl refl
  where
    by : (skipped intra : Bool) → d.skipped ≡ skipped → d.intra ≡ intra → ArePairs d
    by true intra s i =
        let same = (l.skipped s).same in
        record {
          forward = record {
            a = false;
            b = false;
            v = _;
            w = still;
            selects_are = ap (λ (x : Decision). slice_index_or x.selects 0 []) same;
            vectors_are = ap (λ (x : Decision). slice_index_or x.vectors 0 []) same;
          };
          backward = record {
            a = false;
            b = false;
            v = _;
            w = still;
            selects_are = ap (λ (x : Decision). slice_index_or x.selects 1 []) same;
            vectors_are = ap (λ (x : Decision). slice_index_or x.vectors 1 []) same;
          };
        }
    by false true s i =
        let k = l.intra s i in
        record { forward = legal_pair head.concealment head d 0 k.concealment; backward = legal_pair false head d 1 k.no_backward }
    by false false s i =
        let k = l.inter s i in
        record { forward = legal_pair d.forward head d 0 k.forward; backward = legal_pair d.backward head d 1 k.backward }

-- ---- two by two

two_of : {A : Type 0} (xs : List (List A)) → length xs ≡ 2 → xs ≡ slice_index_or xs 0 [] ∷ slice_index_or xs 1 [] ∷ []
two_of [] e = absurd (omega (arith, e))
two_of (x ∷ []) e = absurd (omega (arith, e))
two_of (x ∷ y ∷ []) e = refl
two_of (x ∷ y ∷ z ∷ xs) e = absurd (omega (arith, e))

both_lists : {A : Type 0} (p q r s : List A) → p ≡ r → q ≡ s → ◌≡◌ {A = List (List A)} (p ∷ q ∷ []) (r ∷ s ∷ [])
both_lists p q r s a b = rw (a, b) refl

abbrev four_of : {A : Type 0} → A → A → A → A → List (List A)
four_of a b c e = (a ∷ b ∷ []) ∷ (c ∷ e ∷ []) ∷ []

abbrev at : {A : Type 0} → A → List (List A) → ℕ → ℕ → A
at other xs s r = slice_index_or (slice_index_or xs s []) r other

own_four : {A : Type 0} (other : A) (xs : List (List A)) (a b c e : A) → xs ≡ four_of a b c e → xs ≡ four_of (at other xs 0 0) (at other xs 0 1) (at other xs 1 0) (at other xs 1 1)
own_four {A} other xs a b c e same = subst (λ (ys : List (List A)). ys ≡ four_of (at other ys 0 0) (at other ys 0 1) (at other ys 1 0) (at other ys 1 1)) (sym same) refl

own_two : (xs : List ℤ) → xs ≡ no_dmvector → xs ≡ slice_index_or xs 0 (pos 0) ∷ slice_index_or xs 1 (pos 0) ∷ []
own_two xs same = subst (λ (ys : List ℤ). ys ≡ slice_index_or ys 0 (pos 0) ∷ slice_index_or ys 1 (pos 0) ∷ []) (sym same) refl

legal_is_held : (head : Head) (seen : Seen) (last : Bool) (d : Decision) → HasLegalFCodes head → IsLegal head seen last d → IsHeld d
legal_is_held head seen last d codes l =
    let p = pairs head seen last d l in
    let x = p.forward in
    let y = p.backward in
    let fits = fits_slot head seen last d codes l in
    record {
      selects = own_four false d.selects x.a x.b y.a y.b (two_of d.selects l.two_selects ∙ both_lists _ _ _ _ x.selects_are y.selects_are);
      vectors = own_four still d.vectors x.v x.w y.v y.w (two_of d.vectors l.two_vectors ∙ both_lists _ _ _ _ x.vectors_are y.vectors_are);
      dual_delta = own_two d.dual_delta l.motion.dual_delta;
      x_fits = λ s r. (fits.vectors s r).x;
      y_fits = λ s r. (fits.vectors s r).y;
    }

all_held : (head : Head) (place : ℕ) (past decisions : List Decision) → HasLegalFCodes head → AreLegalFrom head place past decisions → AllByRecursion IsHeld decisions
unfolding AreLegalFrom
all_held head place past [] codes l = tt
all_held head place past (d ∷ later) codes l =
    (legal_is_held head _ _ d codes l.0.legal, all_held head (place + 1) (d ∷ in_its_slice d past) later codes l.1)

pub legal_are_held : (head : Head) (decisions : List Decision) → HasLegalFCodes head → AreLegalFrom head 0 [] decisions → All IsHeld decisions
legal_are_held head decisions codes l = All-from_recursion IsHeld decisions (all_held head 0 [] decisions codes l)
