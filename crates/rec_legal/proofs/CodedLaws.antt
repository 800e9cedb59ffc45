-- What legal decisions say can be predicted and reconstructed.
use Rattle.std.proofs.Common.{◌≡◌, ℕ, zero, suc, ◌+◌, ◌/◌, ◌%◌, ◌<◌, ◌≤◌, ◌∙◌, Bool, true, false, cond, ◌&&◌, ◌||◌, List, [], ◌∷◌, length, get_or, refl, sym, ap, subst, arith}
use Rattle.std.proofs.lemmas.Bool.{false≢true}
use Rattle.mv_terms.specs.declared.head.PicType.{PicType}
use Rattle.mv_terms.specs.declared.head.PicType.TheVariants as pic
use Rattle.mv_terms.specs.declared.head.Head.{Head}
use Rattle.mv_terms.specs.declared.macroblock.Decision.{Decision}
use Rattle.mv_terms.specs.PicTypes.{is_b}
use Rattle.mv_terms.specs.Decisions.{no_decision}
use Rattle.mv_vectors.specs.Predictable.{HasLegalDirections, CanBePredicted, CanBeReconstructed}
use Rattle.mv_vectors.specs.Skipped.{may_skip}
use Rattle.mv_macro.specs.Past.{Seen, seen}
use Rattle.mv_macro.specs.Legal.{IsLegalSkipped, IsLegal, IsHeadScale, AreLegalFrom, in_its_slice}
use Rattle.mv_bits.specs.Elements.{cut}
use Rattle.mv_heads.specs.declared.sequence_header.CodedSize.{CodedSize}
use Rattle.rec_legal.specs.Laws.{LegalCanBeReconstructed, SaidIsLegal, SaidCanBeWritten}
use Rattle.rec_legal.proofs.ConditionLaws.{head_size}
use Rattle.rec_legal.proofs.RangeLaws.{context_range, head_range}

-- In a B picture the macroblock before a skipped one has a direction where it isn't intra.
HasDirection : Head → Seen → Type 0
HasDirection head s = s.first ≡ false → head.pic ≡ pic.B → s.before_intra ≡ false → (s.before_forward || s.before_backward) ≡ true

is_b_of : (p : PicType) → p ≡ pic.B → is_b p ≡ true
is_b_of p e = ap is_b e

taken_direction : (b f g : Bool) → b ≡ true → (f || g) ≡ true → ((b && f) || (b && g)) ≡ true
taken_direction true f g e h = h
taken_direction false f g e h = absurd (false≢true e)

not_b : (b f : Bool) → b ≡ false → (b && f) ≡ false
not_b false f e = refl
not_b true f e = absurd (false≢true (sym e))

may_directions : (p : PicType) (intra : Bool) (head : Head) → head.pic ≡ p → may_skip head intra ≡ true → p ≡ pic.B → intra ≡ false
may_directions pic.B false head e m b = refl
may_directions pic.B true head e m b = absurd (false≢true (sym (ap (λ (q : PicType). may_skip (record head { pic = q }) true) e) ∙ m))
may_directions pic.I intra head e m b = absurd (false≢true (sym (ap (λ (q : PicType). may_skip (record head { pic = q }) intra) e) ∙ m))
may_directions pic.P intra head e m b = absurd cc

not_i : (p : PicType) (intra : Bool) (head : Head) → head.pic ≡ p → may_skip head intra ≡ true → p ≡ pic.I → ⊥
not_i pic.I intra head e m b = false≢true (sym (ap (λ (q : PicType). may_skip (record head { pic = q }) intra) e) ∙ m)
not_i pic.B intra head e m b = absurd cc
not_i pic.P intra head e m b = absurd cc

module _ (head : Head) (s : Seen) (last : Bool) (d : Decision) (before : HasDirection head s) where
  skipped_directions : IsLegalSkipped head s last d → (p : PicType) → head.pic ≡ p → HasLegalDirections p d
  unfolding HasDirection
  skipped_directions l pic.I e = absurd (not_i pic.I s.before_intra head e l.allowed refl)
  skipped_directions l pic.P e = ap (λ (x : Decision). x.backward) l.same ∙ not_b (is_b head.pic) s.before_backward (ap is_b e)
  skipped_directions l pic.B e =
      ap (λ (x : Decision). x.forward || x.backward) l.same
      ∙ taken_direction (is_b head.pic) s.before_forward s.before_backward (is_b_of head.pic e) (before l.not_first e (may_directions pic.B s.before_intra head e l.allowed refl))

  skipped_predicted : IsLegalSkipped head s last d → CanBePredicted head s.mb_x s.mb_y d
  skipped_predicted l =
      let motion : d.field_motion ≡ false = ap (λ (x : Decision). x.field_motion) l.same in
      record {
        directions = λ i. skipped_directions l head.pic refl;
        motion = λ i. record { frame_only = λ o. motion; skipped = λ k. motion; no_direction = λ n. motion };
        inside = λ i. l.inside;
      }

  intra_predicted : d.intra ≡ true → CanBePredicted head s.mb_x s.mb_y d
  intra_predicted t = record {
    directions = λ i. absurd (false≢true (sym i ∙ t));
    motion = λ i. absurd (false≢true (sym i ∙ t));
    inside = λ i. absurd (false≢true (sym i ∙ t));
  }

  module _ (l : IsLegal head s last d) where
    by_kind : (k i : Bool) → d.skipped ≡ k → d.intra ≡ i → CanBePredicted head s.mb_x s.mb_y d
    by_kind true i k e = skipped_predicted (l.skipped k)
    by_kind false true k e = intra_predicted e
    by_kind false false k e = (l.inter k e).predicted

    head_scale_small : (start : Bool) (code : ℕ) → IsHeadScale start code → code ≤ 31
    head_scale_small true code h = h.1
    head_scale_small false code h = omega (arith, h)

    one_reconstructed : CanBeReconstructed head s.mb_x s.mb_y d
    one_reconstructed = record {
      predicted = by_kind d.skipped d.intra refl refl;
      scales = record { scale = l.scale; head_scale = head_scale_small d.slice_start d.head_scale l.head_scale };
    }

    -- and it has a direction for the next one
    next_direction : head.pic ≡ pic.B → d.intra ≡ false → (d.forward || d.backward) ≡ true
    next_direction b i = subst (λ (p : PicType). HasLegalDirections p d) b (one_reconstructed.predicted.directions i)

module _ (head : Head) where
  start_direction : (x y : ℕ) → HasDirection head (seen head x y [])
  unfolding HasDirection
  start_direction x y first = absurd (false≢true (sym first))

  kept_direction : (start : Bool) (past : List Decision) (x y : ℕ) → ((x y : ℕ) → HasDirection head (seen head x y past)) → HasDirection head (seen head x y (cond start [] past))
  kept_direction true past x y h = start_direction x y
  kept_direction false past x y h = h x y

  all_reconstructed : (place : ℕ) (past ds : List Decision) → ((x y : ℕ) → HasDirection head (seen head x y past)) → AreLegalFrom head place past ds → (k : ℕ) → k < length ds → CanBeReconstructed head ((place + k) % head.mb_wide) ((place + k) / head.mb_wide) (get_or ds k no_decision)
  unfolding AreLegalFrom HasDirection
  all_reconstructed place past [] before l k inside = absurd (omega (arith, inside))
  all_reconstructed place past (d ∷ later) before l zero inside =
      let s = seen head (place % head.mb_wide) (place / head.mb_wide) (in_its_slice d past) in
      let e : place ≡ place + 0 = omega arith in
      subst (λ (n : ℕ). CanBeReconstructed head (n % head.mb_wide) (n / head.mb_wide) d) e
      (one_reconstructed head s _ d (kept_direction d.slice_start past (place % head.mb_wide) (place / head.mb_wide) before) l.0.legal)
  all_reconstructed place past (d ∷ later) before l (suc k) inside =
      let s = seen head (place % head.mb_wide) (place / head.mb_wide) (in_its_slice d past) in
      let e : place + 1 + k ≡ place + suc k = omega arith in
      let next : (x y : ℕ) → HasDirection head (seen head x y (d ∷ in_its_slice d past)) = λ x y first b i. next_direction head s _ d (kept_direction d.slice_start past (place % head.mb_wide) (place / head.mb_wide) before) l.0.legal b i in
      subst (λ (n : ℕ). CanBeReconstructed head (n % head.mb_wide) (n / head.mb_wide) (get_or later k no_decision)) e
      (all_reconstructed (place + 1) (d ∷ in_its_slice d past) later next l.1 k (omega (arith, inside)))

pub legal_can_be_reconstructed : LegalCanBeReconstructed
legal_can_be_reconstructed head ds l = record {
  each = λ k inside. let e : 0 + k ≡ k = omega arith in subst (λ (n : ℕ). CanBeReconstructed head (n % head.mb_wide) (n / head.mb_wide) (get_or ds k no_decision)) e (all_reconstructed head 0 [] ds (λ x y. start_direction head x y) l.each k inside);
}

pub said_is_legal : SaidIsLegal
said_is_legal size slots sheet r is =
    let h = is.headers in
    let context = context_range (cut r.sheet.context) r.context h.context_reads in
    let s = head_size r.context (cut r.sheet.head) r.head h.head_reads in
    record {
      context = context;
      head = head_range r.context (cut r.sheet.head) r.head context h.not_extended h.head_reads;
      wide = s.0 ∙ ap (λ (x : CodedSize). x.mb_wide) h.same_size;
      high = s.1 ∙ ap (λ (x : CodedSize). x.mb_high) h.same_size;
    }

pub said_can_be_written : SaidCanBeWritten
said_can_be_written size slots sheet r levels is legal =
    let head = (said_is_legal size slots sheet r is).head in
    record { f_codes = head.f_code; precision = head.precision; size = head.size; legal_decisions = is.legal; legal_levels = legal }
