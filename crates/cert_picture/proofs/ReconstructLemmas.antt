-- Legal decisions of a picture can be reconstructed.
use Rattle.std.proofs.Common.{◌≡◌, ◌<◌, ◌≤◌, ℕ, zero, suc, ◌+◌, ◌%◌, ◌/◌, Bool, true, false, not, ◌&&◌, ◌||◌, List, [], ◌∷◌, length, get_or, refl, sym, ap, ◌∙◌, subst, arith}
use Rattle.std.specs.Prelude.{if◌then◌else◌}
use Rattle.mv_terms.specs.PicTypes.{is_i, is_b}
use Rattle.mv_terms.specs.declared.head.PicType.{PicType}
use Rattle.mv_terms.specs.declared.head.PicType.TheVariants.{I, P, B}
use Rattle.mv_terms.specs.declared.head.Head.{Head}
use Rattle.mv_terms.specs.declared.macroblock.Decision.{Decision}
use Rattle.mv_terms.specs.Decisions.{no_decision}
use Rattle.mv_vectors.specs.Predictable.{HasLegalDirections, CanBePredicted, CanBeReconstructed, AllCanBeReconstructed}
use Rattle.mv_macro.specs.Past.{Seen, seen, is_empty}
use Rattle.mv_macro.specs.Legal.{IsHeadScale, IsLegal, IsLegalSkipped, AreLegalFrom, AreLegalDecisions, in_its_slice}

-- ---- a skipped macroblock

not_true : (a : Bool) → not a ≡ true → a ≡ false
not_true true e = absurd cc
not_true false e = refl

taken_directions : (p : PicType) (before_intra f b : Bool) (d : Decision) → (not (is_i p) && not (is_b p && before_intra)) ≡ true → (p ≡ B → before_intra ≡ false → (f || b) ≡ true) → d.forward ≡ (is_b p && f) → d.backward ≡ (is_b p && b) → HasLegalDirections p d
taken_directions I before_intra f b d may some fe be = absurd (let no : false ≡ true = may in cc)
taken_directions P before_intra f b d may some fe be = be
taken_directions B before_intra f b d may some fe be = rw (fe, be) (some refl (not_true before_intra may))

-- where the macroblock before it is intra or has a direction
abbrev HasDirection : Head → Seen → Type 0
HasDirection head before = head.pic ≡ B → before.before_intra ≡ false → (before.before_forward || before.before_backward) ≡ true

skipped_right : (head : Head) (before : Seen) (last : Bool) (d : Decision) → HasDirection head before → IsLegalSkipped head before last d → CanBePredicted head before.mb_x before.mb_y d
skipped_right head before last d some legal =
    let same = legal.same in record {
      directions = λ e. taken_directions head.pic before.before_intra before.before_forward before.before_backward d legal.allowed some (ap (λ (z : Decision). z.forward) same) (ap (λ (z : Decision). z.backward) same);
      motion = λ e. let frame : d.field_motion ≡ false = ap (λ (z : Decision). z.field_motion) same in record { frame_only = λ e. frame; skipped = λ e. frame; no_direction = λ e. frame };
      inside = λ e. legal.inside;
    }

-- ---- a macroblock

head_scale_fits : (first : Bool) (scale : ℕ) → IsHeadScale first scale → scale ≤ 31
head_scale_fits true scale h = h.1
head_scale_fits false scale h = omega (arith, h)

legal_right : (head : Head) (before : Seen) (last : Bool) (d : Decision) → (before.first ≡ false → HasDirection head before) → IsLegal head before last d → CanBeReconstructed head before.mb_x before.mb_y d
legal_right head before last d some legal = record {
  predicted = by d.skipped d.intra refl refl;
  scales = record { scale = legal.scale; head_scale = head_scale_fits d.slice_start d.head_scale legal.head_scale };
}
  where
    by : (s i : Bool) → d.skipped ≡ s → d.intra ≡ i → CanBePredicted head before.mb_x before.mb_y d
    by true i e f = let skipped = legal.skipped e in skipped_right head before last d (some skipped.not_first) skipped
    by false false e f = (legal.inter e f).predicted
    by false true e f = record {
      directions = λ g. absurd (let no : true ≡ false = sym f ∙ g in cc);
      motion = λ g. absurd (let no : true ≡ false = sym f ∙ g in cc);
      inside = λ g. absurd (let no : true ≡ false = sym f ∙ g in cc);
    }

-- ---- a picture

-- of the slice so far, the latest first, the latest is intra or has a direction
abbrev LastHasDirection : Head → List Decision → Type 0
LastHasDirection head [] = Unit {0}
LastHasDirection head (d ∷ past) = d.intra ≡ false → HasLegalDirections head.pic d

b_direction : (p : PicType) (d : Decision) → p ≡ B → HasLegalDirections p d → (d.forward || d.backward) ≡ true
b_direction p d e h = let l : HasLegalDirections B d = subst (λ (q : PicType). HasLegalDirections q d) e h in l

behind_some : (head : Head) (mb_x mb_y : ℕ) (past : List Decision) → LastHasDirection head past → is_empty past ≡ false → HasDirection head (seen head mb_x mb_y past)
behind_some head mb_x mb_y [] h none = absurd (let no : true ≡ false = none in cc)
behind_some head mb_x mb_y (d ∷ past) h none = λ b i. b_direction head.pic d b (h i)

in_slice : (head : Head) (d : Decision) (past : List Decision) → LastHasDirection head past → LastHasDirection head (in_its_slice d past)
in_slice head d past h = by d.slice_start
  where
    by : (s : Bool) → LastHasDirection head (if s then [] else past)
    by true = tt
    by false = h

legal_from : (head : Head) (place : ℕ) (past decisions : List Decision) → LastHasDirection head past → AreLegalFrom head place past decisions
    → (k : ℕ) → k < length decisions → CanBeReconstructed head ((place + k) % head.mb_wide) ((place + k) / head.mb_wide) (get_or decisions k no_decision)
unfolding AreLegalFrom
legal_from head place past [] some legal k less = absurd (omega (arith, less))
legal_from head place past (d ∷ later) some legal zero less =
    let e : place + 0 ≡ place = omega arith in
    let before = in_slice head d past some in
    let here = legal_right head (seen head (place % head.mb_wide) (place / head.mb_wide) (in_its_slice d past)) _ d (behind_some head (place % head.mb_wide) (place / head.mb_wide) (in_its_slice d past) before) legal.0.legal in
    subst (λ (j : ℕ). CanBeReconstructed head (j % head.mb_wide) (j / head.mb_wide) d) (sym e) here
legal_from head place past (d ∷ later) some legal (suc k) less =
    let e : place + 1 + k ≡ place + suc k = omega arith in
    let before = in_slice head d past some in
    let here = legal_right head (seen head (place % head.mb_wide) (place / head.mb_wide) (in_its_slice d past)) _ d (behind_some head (place % head.mb_wide) (place / head.mb_wide) (in_its_slice d past) before) legal.0.legal in
    subst (λ (j : ℕ). CanBeReconstructed head (j % head.mb_wide) (j / head.mb_wide) (get_or later k no_decision)) e
    (legal_from head (place + 1) (d ∷ in_its_slice d past) later here.predicted.directions legal.1 k (omega (arith, less)))

-- legal decisions can be reconstructed
pub legal_can_be_reconstructed : (head : Head) (decisions : List Decision) → AreLegalDecisions head decisions → AllCanBeReconstructed head decisions
legal_can_be_reconstructed head decisions legal = record {
  each = λ k less. let e : 0 + k ≡ k = omega arith in
      subst (λ (j : ℕ). CanBeReconstructed head (j % head.mb_wide) (j / head.mb_wide) (get_or decisions k no_decision)) e (legal_from head 0 [] decisions tt legal.each k less);
}
