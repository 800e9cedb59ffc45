-- The step of a plan is the picture of its frame.
use Rattle.std.proofs.Common.{◌≡◌, ℕ, ◌*◌, Bool, true, false, List, ◌∷◌, length, Option, None, Some, refl, sym, ap, ◌∙◌, subst, arith}
use Rattle.std.specs.Prelude.{IfSome, if◌then◌else◌, option_map}
use Rattle.std.proofs.lemmas.List.{length-map}
use Rattle.mv_terms.specs.declared.frame_header.FrameHeader.{FrameHeader}
use Rattle.mv_terms.specs.PicTypes.{is_anchor}
use Rattle.mv_heads.specs.declared.sequence_header.CodedSize.{CodedSize}
use Rattle.mv_planes.specs.Planes.{Planes}
use Rattle.mv_store.specs.Stored.{IsOfSize}
use Rattle.rec_bury.specs.Exhumed.{source_of}
use Rattle.rec_legal.specs.FoundRecord.{FoundRecord}
use Rattle.rec_legal.specs.Conditions.{file_size}
use Rattle.rec_legal.specs.Laws.{SaidIsLegal}
use Rattle.rec_reader.specs.declared.reader.Found.{Found}
use Rattle.rec_reader.specs.Lent.{lent_found}
use Rattle.rec_reader.specs.Right.{IsRight}
use Rattle.rec_reader.specs.Summaries.{summary_of}
use Rattle.plan_window.specs.declared.summary.Mode.TheVariants.{Guided, Fresh}
use Rattle.plan_window.specs.Links.{is_anchor_record}
use Rattle.enc_guided.specs.declared.recoder.Recoder.{Recoder}
use Rattle.enc_guided.specs.Recoded.{Recoding, FrameStep, CodedStep, Target, coded_step, coded_steps, fresh_front, fresh_picture, guided_front, guided_picture, own_target, source_in, step_by, step_from, target_of}
use Rattle.enc_guided.specs.Stands.{CanBeCoded, HasCoded, IsFreshStep, IsGuidedStep, IsSequencePart, MayBeFresh, MayBeGuided, StandsFor, high_of, macroblocks_of, planned_by, wide_of}
use Rattle.enc_guided.proofs.AnchorLemmas.{same_context, shown_before, steps_length}
use Rattle.enc_guided.proofs.PartLemmas.{target_by, target_is}

-- ---- records that are found

pub right_can_be_coded : SaidIsLegal → (size : CodedSize) (g : FoundRecord) → IsRight size g → CanBeCoded size g
right_can_be_coded law size g right = record {
  few_bytes = right.2.sheet_is.fits.context;
  headers = right.2.headers;
  ranges = law size right.0 right.1 g right.2;
  flags = right.2.flags;
  legal = right.2.legal;
}

part_if_anchor : (size : CodedSize) (g : FoundRecord) (b : Bool) → CanBeCoded size g → IfSome (if b then Some (record { bytes = g.sheet.context; context = g.context }) else None) (IsSequencePart size)
part_if_anchor size g true can = record {
  few_bytes = can.few_bytes;
  reads = can.headers.context_reads;
  same_size = can.headers.same_size;
  range = can.ranges.context;
}
part_if_anchor size g false can = tt

own_part_is : SaidIsLegal → (size : CodedSize) (found : Option FoundRecord) → IfSome found (IsRight size) → IfSome (own_target found) (IsSequencePart size)
own_part_is law size None right = tt
own_part_is law size (Some g) right = part_if_anchor size g (is_anchor g.sheet.pic) (right_can_be_coded law size g right)

-- ---- the picture that a frame is a source of

pub frame_size : (recoder : Recoder) (r : Recoding) (before : List FrameStep) (frame : List ℕ) → StandsFor recoder r before → length frame ≡ 768 * macroblocks_of r.header → length frame ≡ 768 * (recoder.source.mb_wide * recoder.source.mb_high)
frame_size recoder r before frame h size = size ∙ ap (λ (w : ℕ). 768 * (w * high_of r.header)) (sym h.1.wide) ∙ ap (λ (n : ℕ). 768 * (recoder.source.mb_wide * n)) (sym h.1.high)

pub source_is : (recoder : Recoder) (r : Recoding) (before : List FrameStep) (frame : List ℕ) (source : Planes) → StandsFor recoder r before → source ≡ source_of recoder.source.mb_wide recoder.source.mb_high frame → source ≡ source_in r.header frame
source_is recoder r before frame source h made = made ∙ ap (λ (w : ℕ). source_of w recoder.source.mb_high frame) h.1.wide ∙ ap (λ (n : ℕ). source_of (wide_of r.header) n frame) h.1.high

pub source_size : (header : FrameHeader) (frame : List ℕ) (source : Planes) → source ≡ source_in header frame → IsOfSize (wide_of header) (high_of header) source
source_size header frame source same = record { wide = ap (λ (f : Planes). f.mb_wide) same; high = ap (λ (f : Planes). f.mb_high) same }

-- ---- the step as it is defined

pub steps_more : (r : Recoding) (s : FrameStep) (before : List FrameStep) → coded_steps r (s ∷ before) ≡ coded_step r s (coded_steps r before) ∷ coded_steps r before
unfolding coded_steps
steps_more r s before = refl

coded_guided : (r : Recoding) (s : FrameStep) (g : FoundRecord) (done : List CodedStep) → s.step.mode ≡ Guided → r.find s.frame ≡ Some g
    → coded_step r s done ≡ step_by r s (Some g) (target_of r.header (Some g) done) (guided_front g) done
unfolding coded_step
coded_guided r s g done mode found = rw (found, mode) refl

coded_fresh : (r : Recoding) (s : FrameStep) (done : List CodedStep) → s.step.mode ≡ Fresh
    → coded_step r s done ≡ (let t : Target = target_of r.header (r.find s.frame) done in step_by r s None t (fresh_front r s.step.anchor s.step.frame t done) done)
unfolding coded_step
coded_fresh r s done mode = rw mode refl

pub stands_more : (new : Recoder) (r : Recoding) (before : List FrameStep) (s : FrameStep) (c : CodedStep) → coded_step r s (coded_steps r before) ≡ c → HasCoded new.coder r.header r.scale (c ∷ coded_steps r before)
    → IsOfSize (wide_of r.header) (high_of r.header) new.source → StandsFor new r (s ∷ before)
stands_more new r before s c same h size =
    (subst (λ (l : List CodedStep). HasCoded new.coder r.header r.scale l) (ap (λ (x : CodedStep). x ∷ coded_steps r before) (sym same) ∙ sym (steps_more r s before)) h, size)

-- ---- a step that is coded by the record of its frame

module _ (law : SaidIsLegal) (r : Recoding) (before : List FrameStep) (s : FrameStep) (found : Found) (is : IsGuidedStep r before s found) where
  anchor_is : s.step.anchor ≡ is_anchor (lent_found found).sheet.pic
  anchor_is = sym (ap (λ (o : Option FoundRecord). is_anchor_record (summary_of o)) (sym is.found_is) ∙ is.step.fits.kind is.mode)

  pub may_be_guided : (source : Planes) → source ≡ source_in r.header s.frame → MayBeGuided r.header (coded_steps r before) (lent_found found) source
  may_be_guided source same = record {
    can = right_can_be_coded law (file_size r.header) (lent_found found) (subst (λ (o : Option FoundRecord). IfSome o (IsRight (file_size r.header))) is.found_is is.step.right);
    b = λ a. same_context r before s is.step.fits (anchor_is ∙ a) (lent_found found) is.mode is.found_is;
    size = source_size r.header s.frame source same;
    few = omega (arith, steps_length r before, is.step.few);
  }

  pub guided_is : (source : Planes) → source ≡ source_in r.header s.frame → coded_step r s (coded_steps r before) ≡ guided_picture r.header s.step.frame (lent_found found) source (coded_steps r before)
  guided_is source same =
      let g : FoundRecord = lent_found found in
      let done : List CodedStep = coded_steps r before in
      let t : Target = target_of r.header (Some g) done in
      coded_guided r s g done is.mode is.found_is
      ∙ ap (λ (a : Bool). step_from (record s.step { anchor = a }) (Some g) t (guided_front g) (source_in r.header s.frame) done) anchor_is
      ∙ ap (λ (p : Planes). guided_picture r.header s.step.frame g p done) (sym same)

-- ---- a step that is coded anew

module _ (law : SaidIsLegal) (r : Recoding) (before : List FrameStep) (s : FrameStep) (found : Option Found) (is : IsFreshStep r before s found) (own : Option Target) (own_is : own ≡ own_target (option_map lent_found found)) where
  own_same : own_target (r.find s.frame) ≡ own
  own_same = ap own_target is.found_is ∙ sym own_is

  pub may_be_fresh : (source : Planes) → source ≡ source_in r.header s.frame → MayBeFresh r.header (coded_steps r before) s.step.frame s.step.anchor own source
  may_be_fresh source same = record {
    part = subst (λ (o : Option Target). IfSome o (IsSequencePart (file_size r.header))) own_same (own_part_is law (file_size r.header) (r.find s.frame) is.step.right);
    waiting = λ a. omega (arith, steps_length r before, length-map before (planned_by r), (is.step.fits.waiting a).0);
    b = λ a. shown_before r before s is.step.fits a;
    size = source_size r.header s.frame source same;
    few = omega (arith, steps_length r before, is.step.few);
  }

  pub fresh_is : (source : Planes) → source ≡ source_in r.header s.frame → coded_step r s (coded_steps r before) ≡ fresh_picture r.header r.scale s.step.frame s.step.anchor own source (coded_steps r before)
  fresh_is source same =
      let done : List CodedStep = coded_steps r before in
      let by_target : target_of r.header (r.find s.frame) done ≡ target_by r own done = target_is r (r.find s.frame) done ∙ ap (λ (o : Option Target). target_by r o done) own_same in
      coded_fresh r s done is.mode
      ∙ ap (λ (t : Target). step_by r s None t (fresh_front r s.step.anchor s.step.frame t done) done) by_target
      ∙ ap (λ (p : Planes). fresh_picture r.header r.scale s.step.frame s.step.anchor own p done) (sym same)
