-- The vectors of legal decisions have components of 16 bits, and their scale codes fit a byte.
use Rattle.std.proofs.Common.{◌≡◌, ℕ, zero, suc, ◌+◌, ◌-◌, ◌*◌, ◌^◌, ◌<◌, ◌≤◌, Bool, true, false, not, ◌&&◌, ◌||◌, List, [], ◌∷◌, length, ℤ, pos, negsuc, refl, sym, ap, ◌∙◌, subst, arith, inl, inr}
use Rattle.std.specs.Prelude.{FitsSigned, slice_index_or, unsigned_abs}
use Rattle.std.specs.Int.{w16}
use Rattle.std.specs.List.{All, AllByRecursion}
use Rattle.std.proofs.lemmas.List.{get_or_past}
use Rattle.std.proofs.lemmas.Int.{ints, fits_signed_from_abs}
use Rattle.std.proofs.lemmas.Bool.{cases_lt}
use Rattle.std.proofs.Math.Pow.{pow_mono}
use Rattle.mv_terms.specs.Ranges.{HasLegalFCodes, IsUsed, has_forward, has_backward, f_codes}
use Rattle.mv_terms.specs.declared.head.PicType.{PicType}
use Rattle.mv_terms.specs.declared.head.PicType.TheVariants as pic
use Rattle.mv_terms.specs.declared.head.Head.{Head}
use Rattle.mv_terms.specs.declared.macroblock.Vector.{Vector}
use Rattle.mv_terms.specs.declared.macroblock.Decision.{Decision}
use Rattle.mv_terms.specs.Decisions.{still, vector_of}
use Rattle.mv_terms.specs.PicTypes.{is_b}
use Rattle.mv_vectors.specs.Vectors.{Directed, directed, f_code, f_of, is_in_range}
use Rattle.mv_vectors.specs.Inside.{is_vector_in_range, are_vectors_in_range}
use Rattle.mv_vectors.specs.Predictable.{HasLegalDirections}
use Rattle.mv_vectors.specs.Skipped.{taken}
use Rattle.mv_vectors.proofs.RangeLaws.{both_and}
use Rattle.mv_macro.specs.Past.{Seen}
use Rattle.mv_macro.specs.Legal.{counted, HasLegalVectors, IsHeadScale, IsLegal, IsLegalSkipped, IsLegalIntra, IsLegalInter, AreLegalFrom, in_its_slice}

-- ---- vectors

pub record Fits (v : Vector) : Type 0 where
  pub x : FitsSigned w16 v.x
  pub y : FitsSigned w16 v.y

still_fits : Fits still
still_fits = record {
  x = fits_signed_from_abs w16 (pos 0) (omega arith);
  y = fits_signed_from_abs w16 (pos 0) (omega arith);
}

component_small : (f : ℕ) (v : ℤ) → is_in_range f v ≡ true → unsigned_abs v ≤ 16 * f
component_small f (pos n) h = grind (arith, ints)
component_small f (negsuc n) h = grind (arith, ints)

component_fits : (code : ℕ) (v : ℤ) → code ≤ 9 → is_in_range (f_of code) v ≡ true → FitsSigned w16 v
component_fits code v small h =
    let p : 2 ^ (code - 1) ≤ 256 = pow_mono {j = 8} (omega (arith, small)) in
    let size = component_small (f_of code) v h in
    fits_signed_from_abs w16 v (omega (arith, p, size))

-- the f_codes of a direction are at most 9
record AreSmall (head : Head) (s : ℕ) : Type 0 where
  across : f_code head s 0 ≤ 9
  down : f_code head s 1 ≤ 9

vector_fits : (head : Head) (d : Decision) (s r : ℕ) → AreSmall head s → is_vector_in_range head d s r ≡ true → Fits (vector_of d s r)
vector_fits head d s r small h =
    let both = both_and (is_in_range (f_of (f_code head s 0)) (vector_of d s r).x) (is_in_range (f_of (f_code head s 1)) (vector_of d s r).y) h in
    record {
      x = component_fits (f_code head s 0) (vector_of d s r).x small.across both.0;
      y = component_fits (f_code head s 1) (vector_of d s r).y small.down both.1;
    }

-- ---- the vectors of a direction

abbrev DirectionFits : Decision → ℕ → Type 0
DirectionFits d s = (r : ℕ) → Fits (vector_of d s r)

pair_fits : (vectors : List Vector) (v w : Vector) → vectors ≡ v ∷ w ∷ [] → Fits v → Fits w → (r : ℕ) → Fits (slice_index_or vectors r still)
pair_fits vectors v w are a b r = subst (λ (vs : List Vector). Fits (slice_index_or vs r still)) (sym are) (by r)
  where
    by : (r : ℕ) → Fits (slice_index_or (v ∷ w ∷ []) r still)
    by zero = a
    by (suc zero) = b
    by (suc (suc r)) = still_fits

unused_fits : (d : Decision) (s : ℕ) → slice_index_or d.vectors s [] ≡ still ∷ still ∷ [] → DirectionFits d s
unused_fits d s are = pair_fits (slice_index_or d.vectors s []) still still are still_fits still_fits

counted_fits : (field : Bool) (head : Head) (d : Decision) (s : ℕ) → AreSmall head s
    → directed d s ≡ counted field d s → are_vectors_in_range head d s field ≡ true → DirectionFits d s
counted_fits true head d s small same h =
    let both = both_and (is_vector_in_range head d s 0) (is_vector_in_range head d s 1) h in
    pair_fits (slice_index_or d.vectors s []) (vector_of d s 0) (vector_of d s 1) (ap (λ (x : Directed). x.vectors) same)
    (vector_fits head d s 0 small both.0) (vector_fits head d s 1 small both.1)
counted_fits false head d s small same h =
    pair_fits (slice_index_or d.vectors s []) (vector_of d s 0) still (ap (λ (x : Directed). x.vectors) same)
    (vector_fits head d s 0 small h) still_fits

legal_fits : (used : Bool) (head : Head) (d : Decision) (s : ℕ) → (used ≡ true → AreSmall head s) → HasLegalVectors used head d s → DirectionFits d s
legal_fits true head d s small h = counted_fits d.field_motion head d s (small refl) h.0 h.1
legal_fits false head d s small h = unused_fits d s (ap (λ (x : Directed). x.vectors) h)

-- of a skipped macroblock
taken_fits : (used : Bool) (head : Head) (d : Decision) (s : ℕ) (v : Vector) → (used ≡ true → AreSmall head s)
    → slice_index_or d.vectors s [] ≡ taken used v → (used ≡ true → is_vector_in_range head d s 0 ≡ true) → DirectionFits d s
taken_fits true head d s v small are h =
    let here : vector_of d s 0 ≡ v = ap (λ (vs : List Vector). slice_index_or vs 0 still) are in
    pair_fits (slice_index_or d.vectors s []) v still are (subst Fits here (vector_fits head d s 0 (small refl) (h refl))) still_fits
taken_fits false head d s v small are h = unused_fits d s are

-- ---- f_codes

used_small : (head : Head) (s t : ℕ) → All IsUsed (f_codes head s) → f_code head s t ≤ 9
used_small head s t h =
    elim (cases_lt t (length (f_codes head s))) [
      | inl lt ↦ (h t 0 lt).1
      | inr le ↦ let e = get_or_past (f_codes head s) t 0 le in omega (arith, e)
    ]

forward_small : (head : Head) → HasLegalFCodes head → has_forward head.pic head.concealment ≡ true → AreSmall head 0
forward_small head is e = let u = is.forward e in record { across = used_small head 0 0 u; down = used_small head 0 1 u }

backward_small : (head : Head) → HasLegalFCodes head → has_backward head.pic ≡ true → AreSmall head 1
backward_small head is e = let u = is.backward e in record { across = used_small head 1 0 u; down = used_small head 1 1 u }

with_concealment : (p : PicType) (c : Bool) → c ≡ true → has_forward p c ≡ true
with_concealment pic.I c e = e
with_concealment pic.P c e = refl
with_concealment pic.B c e = refl

b_forward : (p : PicType) (c : Bool) → is_b p ≡ true → has_forward p c ≡ true
b_forward pic.B c e = refl
b_forward pic.I c e = absurd cc
b_forward pic.P c e = absurd cc

b_backward : (p : PicType) → is_b p ≡ true → has_backward p ≡ true
b_backward pic.B e = refl
b_backward pic.I e = absurd cc
b_backward pic.P e = absurd cc

inter_forward : (p : PicType) (c : Bool) (d : Decision) → HasLegalDirections p d → has_forward p c ≡ true
inter_forward pic.I c d h = absurd h
inter_forward pic.P c d h = refl
inter_forward pic.B c d h = refl

inter_backward : (p : PicType) (d : Decision) → HasLegalDirections p d → d.backward ≡ true → has_backward p ≡ true
inter_backward pic.I d h e = absurd h
inter_backward pic.P d h e = absurd (let f : true ≡ false = sym e ∙ h in cc)
inter_backward pic.B d h e = refl

-- ---- a decision

record BothFit (d : Decision) : Type 0 where
  forward : DirectionFits d 0
  backward : DirectionFits d 1

or_of : (a b : Bool) → (not a || b) ≡ true → a ≡ true → b ≡ true
or_of true b h e = h
or_of false b h e = absurd cc

and_first : (a b : Bool) → (a && b) ≡ true → a ≡ true
and_first true b e = refl
and_first false b e = absurd cc

one_in_range : (field : Bool) (head : Head) (d : Decision) (s : ℕ) → field ≡ false → are_vectors_in_range head d s field ≡ true → is_vector_in_range head d s 0 ≡ true
one_in_range false head d s e h = h
one_in_range true head d s e h = absurd cc

module _ (head : Head) (codes : HasLegalFCodes head) (seen : Seen) (last : Bool) (d : Decision) where
  skipped_both : IsLegalSkipped head seen last d → BothFit d
  skipped_both l =
      let ranges = both_and (not d.forward || are_vectors_in_range head d 0 d.field_motion) (not d.backward || are_vectors_in_range head d 1 d.field_motion) l.in_range in
      let frame : d.field_motion ≡ false = ap (λ (x : Decision). x.field_motion) l.same in
      let f : d.forward ≡ (is_b head.pic && seen.before_forward) = ap (λ (x : Decision). x.forward) l.same in
      let b : d.backward ≡ (is_b head.pic && seen.before_backward) = ap (λ (x : Decision). x.backward) l.same in
      record {
        forward = taken_fits (is_b head.pic && seen.before_forward) head d 0 seen.forward
            (λ e. forward_small head codes (b_forward head.pic head.concealment (and_first (is_b head.pic) seen.before_forward e)))
            (ap (λ (x : Decision). slice_index_or x.vectors 0 []) l.same)
            (λ e. one_in_range d.field_motion head d 0 frame (or_of d.forward (are_vectors_in_range head d 0 d.field_motion) ranges.0 (f ∙ e)));
        backward = taken_fits (is_b head.pic && seen.before_backward) head d 1 seen.backward
            (λ e. backward_small head codes (b_backward head.pic (and_first (is_b head.pic) seen.before_backward e)))
            (ap (λ (x : Decision). slice_index_or x.vectors 1 []) l.same)
            (λ e. one_in_range d.field_motion head d 1 frame (or_of d.backward (are_vectors_in_range head d 1 d.field_motion) ranges.1 (b ∙ e)));
      }

  intra_both : IsLegalIntra head d → BothFit d
  intra_both l = record {
    forward = legal_fits head.concealment head d 0 (λ e. forward_small head codes (with_concealment head.pic head.concealment e)) l.concealment;
    backward = unused_fits d 1 (ap (λ (x : Directed). x.vectors) l.no_backward);
  }

  inter_both : d.intra ≡ false → IsLegalInter head seen d → BothFit d
  inter_both inter l =
      let directions = l.predicted.directions inter in
      record {
        forward = legal_fits d.forward head d 0 (λ e. forward_small head codes (inter_forward head.pic head.concealment d directions)) l.forward;
        backward = legal_fits d.backward head d 1 (λ e. backward_small head codes (inter_backward head.pic d directions e)) l.backward;
      }

  both_fit : IsLegal head seen last d → BothFit d
  both_fit l = by d.skipped d.intra refl refl
    where
      by : (skipped intra : Bool) → d.skipped ≡ skipped → d.intra ≡ intra → BothFit d
      by true intra s i = skipped_both (l.skipped s)
      by false true s i = intra_both (l.intra s i)
      by false false s i = inter_both i (l.inter s i)

-- a decision fits its slot
pub record FitsSlot (d : Decision) : Type 0 where
  pub scale : d.scale < 256
  pub head_scale : d.head_scale < 256
  pub vectors : (s r : ℕ) → Fits (vector_of d s r)

head_scale_small : (start : Bool) (scale : ℕ) → IsHeadScale start scale → scale < 256
head_scale_small true scale h = omega (arith, h.1)
head_scale_small false scale h = omega (arith, h)

all_fit : (d : Decision) → length d.vectors ≡ 2 → BothFit d → (s r : ℕ) → Fits (vector_of d s r)
all_fit d two both zero r = both.forward r
all_fit d two both (suc zero) r = both.backward r
all_fit d two both (suc (suc s)) r =
    subst (λ (vs : List Vector). Fits (slice_index_or vs r still)) (sym (get_or_past d.vectors (suc (suc s)) [] (omega (arith, two)))) still_fits

pub fits_slot : (head : Head) (seen : Seen) (last : Bool) (d : Decision) → HasLegalFCodes head → IsLegal head seen last d → FitsSlot d
fits_slot head seen last d codes l = record {
  scale = omega (arith, l.scale.1);
  head_scale = head_scale_small d.slice_start d.head_scale l.head_scale;
  vectors = all_fit d l.two_vectors (both_fit head codes seen last d l);
}

-- all decisions of a picture
pub all_fit_slots : (head : Head) (place : ℕ) (past decisions : List Decision) → HasLegalFCodes head → AreLegalFrom head place past decisions → AllByRecursion FitsSlot decisions
unfolding AreLegalFrom
all_fit_slots head place past [] codes l = tt
all_fit_slots head place past (d ∷ later) codes (here, others) =
    (fits_slot head _ _ d codes here.legal, all_fit_slots head (place + 1) (d ∷ in_its_slice d past) later codes others)
