-- The induction: over what makes a frame intact, its step gives the picture back.
use Rattle.std.proofs.Common.{◌≡◌, ℕ, Bool, true, false, List, [], get_or, Option, None, Some, option_map, if◌then◌else◌, refl, sym, ap, ◌∙◌, subst}
use Rattle.std.proofs.lemmas.Bool.{false≢true}
use Rattle.std.proofs.lemmas.Option.{get_or_from_slice_get}
use Rattle.mv_terms.specs.declared.head.PicType.{PicType}
use Rattle.mv_terms.specs.declared.head.PicType.TheVariants.{I, P, B}
use Rattle.mv_terms.specs.declared.macroblock.Decision.{Decision}
use Rattle.mv_terms.specs.PicTypes.{is_anchor, is_i, is_b}
use Rattle.mv_terms.specs.Order.{forward_reference, backward_reference}
use Rattle.mv_planes.specs.Planes.{Planes}
use Rattle.mv_planes.specs.References.{DecodedPicture, ReferencesAreThoseOfTheOrder, or_grey}
use Rattle.plan_window.specs.declared.summary.Mode.TheVariants.{Guided}
use Rattle.plan_window.specs.declared.summary.Step.{Step}
use Rattle.plan_window.specs.Plan.{ahead, mode_at}
use Rattle.plan_window.specs.Fits.{PlanFits, PlanRefersToNearest, step_type}
use Rattle.rec_slot.specs.Directions.{uses_forward}
use Rattle.cert_picture.specs.Records.{is_certified}
use Rattle.cert_picture.specs.FrameFileOf.{frames_of, pictures_in}
use Rattle.enc_guided.specs.Recoded.{Recoding, pictures_of_steps}
use Rattle.enc_guided.specs.FileSteps.{step_of_frame, summaries_in}
use Rattle.cert_chains.specs.Planned.{anchor_in, nearest_anchor, group_anchor}
use Rattle.cert_chains.specs.Intact.{StreamPicture, type_in_stream, IsAccepted, forward_in_stream, backward_in_stream, uses_forward_in_stream, frame_in_stream, parts_in_stream, Holds, Intact, HasForward, HasBackward}
use Rattle.cert_chains.specs.Intact.Intact.{intact}
use Rattle.cert_chains.specs.Intact.HasForward.{unused, forward_kept, forward_missing}
use Rattle.cert_chains.specs.Intact.HasBackward.{not_b, backward_kept}
use Rattle.cert_chains.specs.ComesBack.{AreSameUsed, CameBack, glue_before, references_at}
use Rattle.cert_chains.proofs.OptionLemmas.{some_from, none_from}
use Rattle.cert_chains.proofs.ReferenceLemmas.{forward_all, backward_all}
use Rattle.cert_chains.proofs.StreamLemmas.{decoded_in_stream, forward_picture, backward_picture, forward_accepted, backward_accepted}
use Rattle.cert_chains.proofs.FoundLemmas.{IsByRecords, summary_there}
use Rattle.cert_chains.proofs.LinkLemmas.{is_guided}
use Rattle.cert_chains.proofs.ChainLemmas.{anchor_by_record}
use Rattle.cert_chains.proofs.StepLaws.{RecordLaws, step_by_record}
use Rattle.cert_chains.proofs.PlaceLemmas.{IsPlace, StepBehind, backward_decoded, backward_near, behind, coded_at, coded_before, decoded_at, forward_decoded, forward_near, frame_at, places_before, step_there, type_at}

-- what lower layers say
pub record LowerLaws : Type 0 where
  pub records : RecordLaws
  pub references : ReferencesAreThoseOfTheOrder
  pub fits : PlanFits
  pub refers : PlanRefersToNearest

not_i : (t : PicType) (decisions : List Decision) → uses_forward t decisions ≡ true → is_i t ≡ false
not_i I decisions e = absurd (false≢true e)
not_i P decisions e = refl
not_i B decisions e = refl

-- ---- types

-- the type of a picture is that of its frame in the plan
pub record IsOfPlan (anchor : Bool) (t : PicType) : Type 0 where
  pub of_p : t ≡ P → anchor ≡ true
  pub of_b : t ≡ B → anchor ≡ false

type_by : (anchor : Bool) (t : PicType) → IsOfPlan anchor t → is_i t ≡ false → (if anchor then P else B) ≡ t
type_by anchor I is e = absurd (false≢true (sym e))
type_by anchor P is e = ap (λ (b : Bool). if b then P else B) (is.of_p refl)
type_by anchor B is e = ap (λ (b : Bool). if b then P else B) (is.of_b refl)

module _ (laws : LowerLaws) (r : Recoding) (frames : List (List ℕ)) (by : IsByRecords r) where
  of_plan : (i : ℕ) (p : StreamPicture) → IsAccepted p → Holds r frames i p → is_certified (parts_in_stream p) ≡ true → HasBackward r frames i p → IsOfPlan (anchor_in r frames i) (type_in_stream p)
  of_plan i p are held is bwd = record {
    of_p = λ e. anchor_by_record r frames i _ (summary_there laws.records.record_found r frames i p by are held is) (ap is_anchor e);
    of_b = λ e. by_b bwd e;
  }
    where
      by_b : HasBackward r frames i p → type_in_stream p ≡ B → anchor_in r frames i ≡ false
      by_b (not_b other) e = absurd (other e)
      by_b (backward_kept plain near of whole) e = plain

  type_there : (p : StreamPicture) (h : StepBehind) → IsPlace r frames h → IsOfPlan (anchor_in r frames h.step.frame) (type_in_stream p) → is_i (type_in_stream p) ≡ false → type_at h ≡ type_in_stream p
  type_there p h at is e = ap step_type (step_there r frames h at) ∙ type_by (anchor_in r frames h.step.frame) (type_in_stream p) is e

  -- ---- the pictures that are used

  abbrev grey_or : StreamPicture → Option DecodedPicture → Planes
  grey_or p o = or_grey p.unit.picture.head.mb_wide p.unit.picture.head.mb_high o

  forward_then : (p : StreamPicture) → is_i (type_in_stream p) ≡ false → (parts_in_stream p).references.forward ≡ grey_or p (option_map decoded_in_stream (forward_in_stream p))
  forward_then p e =
      (laws.references (type_in_stream p) p.unit.picture.head.mb_wide p.unit.picture.head.mb_high (pictures_in (frames_of p.before))).forward e
      ∙ ap (grey_or p) (forward_picture p)

  backward_then : (p : StreamPicture) → type_in_stream p ≡ B → (parts_in_stream p).references.backward ≡ grey_or p (option_map decoded_in_stream (backward_in_stream p))
  backward_then p e =
      (laws.references (type_in_stream p) p.unit.picture.head.mb_wide p.unit.picture.head.mb_high (pictures_in (frames_of p.before))).backward (ap is_b e)
      ∙ ap (grey_or p) (backward_picture p)

  forward_now : (p : StreamPicture) (h : StepBehind) → IsPlace r frames h → is_i (type_in_stream p) ≡ false
      → (references_at p (coded_before r frames h.before)).forward ≡ grey_or p (option_map (decoded_at r frames) (forward_reference type_at (type_in_stream p) (behind h.before)))
  forward_now p h at e =
      (laws.references (type_in_stream p) p.unit.picture.head.mb_wide p.unit.picture.head.mb_high (pictures_of_steps (coded_before r frames h.before))).forward e
      ∙ ap (grey_or p) (forward_decoded laws.fits laws.records.found r frames by (type_in_stream p) h at)

  backward_now : (p : StreamPicture) (h : StepBehind) → IsPlace r frames h → type_in_stream p ≡ B
      → (references_at p (coded_before r frames h.before)).backward ≡ grey_or p (option_map (decoded_at r frames) (backward_reference type_at (type_in_stream p) (behind h.before)))
  backward_now p h at e =
      (laws.references (type_in_stream p) p.unit.picture.head.mb_wide p.unit.picture.head.mb_high (pictures_of_steps (coded_before r frames h.before))).backward (ap is_b e)
      ∙ ap (grey_or p) (backward_decoded laws.fits laws.records.found r frames by (type_in_stream p) h at)

  -- each step of frame a decodes to this picture
  abbrev Gives : ℕ → StreamPicture → Type 0
  Gives a f = (g : StepBehind) → IsPlace r frames g → g.step.frame ≡ a → decoded_at r frames g ≡ decoded_in_stream f

  -- the step refers to that of the nearest anchor
  forward_step : (p : StreamPicture) (h : StepBehind) (at : IsPlace r frames h) → type_at h ≡ type_in_stream p
      → option_map frame_at (forward_reference type_at (type_in_stream p) (behind h.before)) ≡ nearest_anchor r frames h.step.frame
  forward_step p h at same =
      ap (λ (t : PicType). option_map frame_at (forward_reference type_at t (behind h.before))) (sym same) ∙ forward_near laws.refers r frames h at

  backward_step : (p : StreamPicture) (h : StepBehind) (at : IsPlace r frames h) → type_at h ≡ type_in_stream p → anchor_in r frames h.step.frame ≡ false
      → option_map frame_at (backward_reference type_at (type_in_stream p) (behind h.before)) ≡ group_anchor r frames h.step.frame
  backward_step p h at same plain =
      ap (λ (t : PicType). option_map frame_at (backward_reference type_at t (behind h.before))) (sym same)
      ∙ backward_near laws.refers r frames h at (ap (λ (s : Step). s.anchor) (step_there r frames h at) ∙ plain)

  same_picture : (p f : StreamPicture) (a : ℕ) (in_plan : Option StepBehind) (in_stream : Option StreamPicture) → in_stream ≡ Some f → option_map frame_at in_plan ≡ Some a
      → ((g : StepBehind) → in_plan ≡ Some g → IsPlace r frames g) → Gives a f → grey_or p (option_map (decoded_at r frames) in_plan) ≡ grey_or p (option_map decoded_in_stream in_stream)
  same_picture p f a in_plan in_stream e near placed gives =
      let (g, is, frame) = some_from frame_at in_plan a near in
      ap (λ (o : Option StepBehind). grey_or p (option_map (decoded_at r frames) o)) is
      ∙ ap (λ (d : DecodedPicture). d.picture) (gives g (placed g is) frame)
      ∙ sym (ap (λ (o : Option StreamPicture). grey_or p (option_map decoded_in_stream o)) e)

  -- ---- a step, where its references are the same

  abbrev pub ComesBack : ℕ → StreamPicture → Type 0
  ComesBack i p = (h : StepBehind) → IsPlace r frames h → h.step.frame ≡ i
      → CameBack p (glue_before r (step_of_frame frames h.step) p (coded_before r frames h.before)) (coded_at r frames h)

  abbrev SameForward : ℕ → StreamPicture → Type 0
  SameForward i p = IsOfPlan (anchor_in r frames i) (type_in_stream p) → (h : StepBehind) → IsPlace r frames h → h.step.frame ≡ i → uses_forward_in_stream p ≡ true
      → (references_at p (coded_before r frames h.before)).forward ≡ (parts_in_stream p).references.forward

  abbrev SameBackward : ℕ → StreamPicture → Type 0
  SameBackward i p = IsOfPlan (anchor_in r frames i) (type_in_stream p) → (h : StepBehind) → IsPlace r frames h → h.step.frame ≡ i → type_in_stream p ≡ B
      → (references_at p (coded_before r frames h.before)).backward ≡ (parts_in_stream p).references.backward

  comes_back : (i : ℕ) (p : StreamPicture) → IsAccepted p → Holds r frames i p → is_certified (parts_in_stream p) ≡ true → HasForward r frames i p → HasBackward r frames i p
      → SameForward i p → SameBackward i p → ComesBack i p
  comes_back i p are held is fwd bwd forward backward h at frame =
      let s = step_of_frame frames h.step in
      let before = coded_before r frames h.before in
      let plan = of_plan i p are held is bwd in
      let bytes : s.frame ≡ (frame_in_stream p).samples =
      ap (λ (k : ℕ). get_or frames k []) frame ∙ get_or_from_slice_get frames i (frame_in_stream p).samples [] held.frame in
      let mode : s.step.mode ≡ Guided =
      ap (λ (x : Step). x.mode) (step_there r frames h at) ∙ ap (mode_at ahead (summaries_in r frames)) frame ∙ is_guided laws.records.record_found r frames by i p are held is fwd bwd in
      let same : AreSameUsed p.unit.picture.head p.unit.picture.decisions (references_at p before) (parts_in_stream p).references =
      record { forward = forward plan h at frame; backward = backward plan h at frame } in
      step_by_record laws.records r s before p by are held.size bytes is mode same

  -- ---- the induction

  forward_by : (i a : ℕ) (p f : StreamPicture) → nearest_anchor r frames i ≡ Some a → forward_in_stream p ≡ Some f → Gives a f → SameForward i p
  forward_by i a p f near of gives plan h at frame used =
      let other = not_i (type_in_stream p) p.unit.picture.decisions used in
      let type = type_there p h at (subst (λ (k : ℕ). IsOfPlan (anchor_in r frames k) (type_in_stream p)) (sym frame) plan) other in
      forward_now p h at other
      ∙ same_picture p f a (forward_reference type_at (type_in_stream p) (behind h.before)) (forward_in_stream p) of
      (forward_step p h at type ∙ ap (nearest_anchor r frames) frame ∙ near)
      (λ g is. forward_all (IsPlace r frames) type_at (type_in_stream p) (behind h.before) g (places_before r frames h at) is) gives
      ∙ sym (forward_then p other)

  forward_none : (i : ℕ) (p : StreamPicture) → nearest_anchor r frames i ≡ None → forward_in_stream p ≡ None → SameForward i p
  forward_none i p near of plan h at frame used =
      let other = not_i (type_in_stream p) p.unit.picture.decisions used in
      let type = type_there p h at (subst (λ (k : ℕ). IsOfPlan (anchor_in r frames k) (type_in_stream p)) (sym frame) plan) other in
      let none = none_from frame_at (forward_reference type_at (type_in_stream p) (behind h.before)) (forward_step p h at type ∙ ap (nearest_anchor r frames) frame ∙ near) in
      forward_now p h at other
      ∙ ap (λ (o : Option StepBehind). grey_or p (option_map (decoded_at r frames) o)) none
      ∙ sym (ap (λ (o : Option StreamPicture). grey_or p (option_map decoded_in_stream o)) of)
      ∙ sym (forward_then p other)

  backward_by : (i a : ℕ) (p b : StreamPicture) → anchor_in r frames i ≡ false → group_anchor r frames i ≡ Some a → backward_in_stream p ≡ Some b → Gives a b → SameBackward i p
  backward_by i a p b plain near of gives plan h at frame is_b =
      let other : is_i (type_in_stream p) ≡ false = ap is_i is_b in
      let type = type_there p h at (subst (λ (k : ℕ). IsOfPlan (anchor_in r frames k) (type_in_stream p)) (sym frame) plan) other in
      backward_now p h at is_b
      ∙ same_picture p b a (backward_reference type_at (type_in_stream p) (behind h.before)) (backward_in_stream p) of
      (backward_step p h at type (ap (anchor_in r frames) frame ∙ plain) ∙ ap (group_anchor r frames) frame ∙ near)
      (λ g is. backward_all (IsPlace r frames) type_at (type_in_stream p) (behind h.before) g (places_before r frames h at) is) gives
      ∙ sym (backward_then p is_b)

  mutual
    pub intact_back : (i : ℕ) (p : StreamPicture) → IsAccepted p → Intact r frames i p → ComesBack i p
    intact_back i p are (intact held is fwd bwd) = comes_back i p are held is fwd bwd (forward_back i p are fwd) (backward_back i p are bwd)

    forward_back : (i : ℕ) (p : StreamPicture) → IsAccepted p → HasForward r frames i p → SameForward i p
    forward_back i p are (unused e) = λ plan h at frame used. absurd (false≢true (sym e ∙ used))
    forward_back i p are (forward_kept {a = a} {f = f} near of whole) =
        forward_by i a p f near of (λ g at frame. (intact_back a f (forward_accepted p f are of) whole g at frame).decoded)
    forward_back i p are (forward_missing near of) = forward_none i p near of

    backward_back : (i : ℕ) (p : StreamPicture) → IsAccepted p → HasBackward r frames i p → SameBackward i p
    backward_back i p are (not_b other) = λ plan h at frame is_b. absurd (other is_b)
    backward_back i p are (backward_kept {a = a} {b = b} plain near of whole) =
        backward_by i a p b plain near of (λ g at frame. (intact_back a b (backward_accepted p b are of) whole g at frame).decoded)
