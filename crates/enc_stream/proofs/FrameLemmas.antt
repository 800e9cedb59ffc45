-- The frames of a file are recoded by steps that fit one behind the other.
use Rattle.std.proofs.Common.{◌≡◌, ◌≢◌, ℕ, zero, suc, ◌+◌, ◌*◌, ◌<◌, ◌≤◌, ◌^◌, Bool, true, false, List, [], ◌∷◌, ◌++◌, map, length, get_or, slice_get, Option, None, Some, reverse, refl, sym, ap, ap₂, ◌∙◌, subst, append_assoc, length-append, arith}
use Rattle.std.specs.Prelude.{if◌then◌else◌, ◌||◌, IfSome}
use Rattle.std.specs.List.{range_with_len}
use Rattle.std.specs.Option.{option_map_or}
use Rattle.std.proofs.lemmas.Bool.{false≢true}
use Rattle.std.proofs.lemmas.List.{length-map}
use Rattle.std.proofs.lemmas.List.FromFn.{length-range_with_len}
use Rattle.mv_terms.specs.declared.frame_header.FrameHeader.{FrameHeader}
use Rattle.mv_terms.specs.Order.{display_order, shown_from}
use Rattle.mv_terms.specs.Ranges.{IsFrameHeader, IsScaleCode}
use Rattle.mv_heads.specs.declared.sequence_header.CodedSize.{CodedSize}
use Rattle.rec_bury.specs.Exhumed.{HasTenBits}
use Rattle.rec_legal.specs.FoundRecord.{FoundRecord}
use Rattle.rec_legal.specs.Conditions.{file_size}
use Rattle.rec_reader.specs.Right.{FoundIsRight, IsRight}
use Rattle.plan_window.specs.declared.summary.Step.{Step}
use Rattle.plan_window.specs.declared.summary.Summary.{Summary}
use Rattle.plan_window.specs.Plan.{ahead, coding_order, group_before, is_plan_anchor, plan, step_at}
use Rattle.plan_window.specs.Fits.{Fits, Planned, PlanFits, PlanIsShownInOrder, frames_of, planned, planned_step, step_type}
use Rattle.plan_window.specs.Links.{is_anchor_record}
use Rattle.enc_guided.specs.Recoded.{FrameStep, Recoding, coded_steps}
use Rattle.enc_guided.specs.FileSteps.{recoding_by_records, step_of_frame, steps_of_frames, stream_of_steps, summaries_in, summary_in}
use Rattle.enc_guided.specs.Stands.{AreSteps, macroblocks_of, planned_by}
use Rattle.enc_stream.specs.Stream.{AreAnchorsWhereRecorded, FramesAreShown, FramesAreStream, HaveSamples, IsAnchorWhereRecorded, IsStreamOf, StepsAreShown, coded_type, frames_of_steps}
use Rattle.enc_stream.proofs.FrontLemmas.{Laws}
use Rattle.enc_stream.proofs.StreamLemmas.{steps_are_stream}

-- ---- the frames of a plan are among those that it is made for

abbrev pub AreBelow : List ℕ → ℕ → Type 0
AreBelow [] n = Unit {0}
AreBelow (x ∷ xs) n = (x < n) × AreBelow xs n

below_joined : (xs ys : List ℕ) (n : ℕ) → AreBelow xs n → AreBelow ys n → AreBelow (xs ++ ys) n
below_joined [] ys n h k = k
below_joined (x ∷ xs) ys n h k = (h.0, below_joined xs ys n h.1 k)

group_below : (anchor : ℕ → Bool) (i n : ℕ) → i ≤ n → AreBelow (group_before anchor i) n
group_below anchor zero n le = tt
group_below anchor (suc i) n le = go (anchor i) (group_below anchor i n (omega (arith, le)))
  where
    go : (b : Bool) → AreBelow (group_before anchor i) n → AreBelow (if b then [] else i ∷ group_before anchor i) n
    go true h = tt
    go false h = (omega (arith, le), h)

pub order_below : (anchor : ℕ → Bool) (i n : ℕ) → i ≤ n → AreBelow (coding_order anchor i) n
order_below anchor zero n le = tt
order_below anchor (suc i) n le = go (anchor i) (order_below anchor i n (omega (arith, le)))
  where
    go : (b : Bool) → AreBelow (coding_order anchor i) n → AreBelow (if b then group_before anchor i ++ i ∷ coding_order anchor i else coding_order anchor i) n
    go true h = below_joined (group_before anchor i) (i ∷ coding_order anchor i) n (group_below anchor i n (omega (arith, le))) (omega (arith, le), h)
    go false h = h

-- and there are no more of them
few_coded : (anchor : ℕ → Bool) (i : ℕ) → length (coding_order anchor i) + length (group_before anchor i) ≤ i
few_coded anchor zero = omega arith
few_coded anchor (suc i) = go (anchor i) (few_coded anchor i)
  where
    go : (b : Bool) → length (coding_order anchor i) + length (group_before anchor i) ≤ i → length (if b then group_before anchor i ++ i ∷ coding_order anchor i else coding_order anchor i) + length (if b then [] else i ∷ group_before anchor i) ≤ suc i
    go true h = omega (arith, h, length-append (group_before anchor i) (i ∷ coding_order anchor i))
    go false h = omega (arith, h)

-- each step is that of its frame, below this number
record IsStepBelow (w : ℕ) (known : List Summary) (n : ℕ) (s : Step) : Type 0 where
  pub is : s ≡ step_at w known s.frame
  pub below : s.frame < n

abbrev AreStepsBelow : ℕ → List Summary → ℕ → List Step → Type 0
AreStepsBelow w known n [] = Unit {0}
AreStepsBelow w known n (s ∷ steps) = IsStepBelow w known n s × AreStepsBelow w known n steps

steps_below : (w : ℕ) (known : List Summary) (xs : List ℕ) (n : ℕ) → AreBelow xs n → AreStepsBelow w known n (map (step_at w known) xs)
steps_below w known [] n h = tt
steps_below w known (x ∷ xs) n h = (record { is = refl; below = h.0 }, steps_below w known xs n h.1)

below_at : (w : ℕ) (known : List Summary) (n : ℕ) (later given : List Step) (s : Step) → AreStepsBelow w known n (later ++ s ∷ given) → IsStepBelow w known n s
below_at w known n [] given s h = h.0
below_at w known n (t ∷ later) given s h = below_at w known n later given s h.1

-- ---- what the plan knows of them

known_of : {A C : Type 0} (f : A → C) (xs : List A) (i : ℕ) (none : A) → get_or (map f xs) i (f none) ≡ f (get_or xs i none)
known_of f [] i none = refl
known_of f (x ∷ xs) zero none = refl
known_of f (x ∷ xs) (suc i) none = known_of f xs i none

known_at : {A C : Type 0} (f : A → C) (xs : List A) (i : ℕ) (none : A) → i < length xs → slice_get (map f xs) i ≡ Some (f (get_or xs i none))
known_at f [] i none lt = absurd (omega (arith, lt))
known_at f (x ∷ xs) zero none lt = refl
known_at f (x ∷ xs) (suc i) none lt = known_at f xs i none (omega (arith, lt))

pub frame_there : {A : Type 0} (xs : List A) (i : ℕ) (none : A) → i < length xs → slice_get xs i ≡ Some (get_or xs i none)
frame_there [] i none lt = absurd (omega (arith, lt))
frame_there (x ∷ xs) zero none lt = refl
frame_there (x ∷ xs) (suc i) none lt = frame_there xs i none (omega (arith, lt))

or_left : (a b : Bool) → (a || b) ≡ false → a ≡ false
or_left true b h = absurd (false≢true (sym h))
or_left false b h = refl

found_right : (o : Option FoundRecord) (size : CodedSize) → ((g : FoundRecord) → o ≡ Some g → IsRight size g) → IfSome o (IsRight size)
found_right None size right = tt
found_right (Some g) size right = right g refl

module _ (scale : ℕ) (header : FrameHeader) (frames : List (List ℕ)) where
  abbrev r : Recoding
  r = recoding_by_records scale header

  abbrev known : List Summary
  known = summaries_in r frames

  -- of a frame that isn't there
  abbrev no_frame : Summary
  no_frame = summary_in r []

  planned_is : (s : Step) → planned_step no_frame known s ≡ planned_by r (step_of_frame frames s)
  planned_is s = ap (λ (x : Summary). let p : Planned = record { step = s; summary = x } in p) (known_of (summary_in r) frames s.frame [])

  all_planned : (given : List Step) → planned no_frame known given ≡ map (planned_by r) (map (step_of_frame frames) given)
  all_planned [] = refl
  all_planned (s ∷ given) = ap₂ (λ (p : Planned) (ps : List Planned). p ∷ ps) (planned_is s) (all_planned given)

  fits_here : (given : List Step) (s : Step) → Fits (planned no_frame known given) (planned_step no_frame known s) → Fits (map (planned_by r) (map (step_of_frame frames) given)) (planned_by r (step_of_frame frames s))
  fits_here given s fits =
      subst (λ (ps : List Planned). Fits ps (planned_by r (step_of_frame frames s))) (all_planned given)
      (subst (λ (p : Planned). Fits (planned no_frame known given) p) (planned_is s) fits)

  many : length known ≡ length frames
  many = length-map frames (summary_in r)

  step_below : (later given : List Step) (s : Step) → plan ahead known ≡ later ++ s ∷ given → IsStepBelow ahead known (length known) s
  step_below later given s e =
      let all = steps_below ahead known (coding_order (is_plan_anchor ahead known) (length known)) (length known) (order_below (is_plan_anchor ahead known) (length known) (length known) (omega arith)) in
      below_at ahead known (length known) later given s (subst (λ (p : List Step). AreStepsBelow ahead known (length known) p) e all)

  -- they are steps of a plan
  all_steps : PlanFits → FoundIsRight → HaveSamples header frames → length frames ≤ 2 ^ 44 → (later given : List Step) → plan ahead known ≡ later ++ given → AreSteps r (map (step_of_frame frames) given)
  all_steps law right samples few later [] e = tt
  all_steps law right samples few later (s ∷ given) e = (
    record {
      fits = fits_here given s (law no_frame known later given s e);
      right = found_right (r.find frame) (file_size header) (λ g is. right (file_size header) frame g is);
      size = here.0;
      samples = here.1;
      few = omega (arith, counted, few, length-map given (step_of_frame frames));
    },
    all_steps law right samples few (later ++ s ∷ []) given (e ∙ sym (append_assoc later (s ∷ []) given)),
  )
    where
      frame : List ℕ
      frame = get_or frames s.frame []

      here : (length frame ≡ 768 * macroblocks_of header) × HasTenBits frame
      here = samples s.frame frame (frame_there frames s.frame [] (omega (arith, (step_below later given s e).below, many)))

      counted : length given + 1 ≤ length frames
      counted =
          let all = few_coded (is_plan_anchor ahead known) (length known) in
          let steps = length-map (coding_order (is_plan_anchor ahead known) (length known)) (step_at ahead known) in
          omega (arith, all, steps, ap (λ (p : List Step). length p) e, length-append later (s ∷ given), many)

  -- and a frame with an anchor record is an anchor
  one_is_anchor : (later given : List Step) (s : Step) → plan ahead known ≡ later ++ s ∷ given → IsAnchorWhereRecorded r (step_of_frame frames s)
  one_is_anchor later given s e a =
      let at = step_below later given s e in
      let plain : is_plan_anchor ahead known s.frame ≡ false = sym (ap (λ (x : Step). x.anchor) at.is) ∙ a in
      let none : option_map_or is_anchor_record (slice_get known s.frame) false ≡ false = or_left (option_map_or is_anchor_record (slice_get known s.frame) false) _ plain in
      subst (λ (o : Option Summary). option_map_or is_anchor_record o false ≡ false) (known_at (summary_in r) frames s.frame [] (omega (arith, at.below, many))) none

  all_are_anchors : (later given : List Step) → plan ahead known ≡ later ++ given → AreAnchorsWhereRecorded r (map (step_of_frame frames) given)
  all_are_anchors later [] e = tt
  all_are_anchors later (s ∷ given) e = (one_is_anchor later given s e, all_are_anchors (later ++ s ∷ []) given (e ∙ sym (append_assoc later (s ∷ []) given)))

  -- there are steps
  no_frames : PlanIsShownInOrder → plan ahead known ≡ [] → frames ≡ []
  unfolding shown_from
  no_frames shown none =
      let empty : range_with_len 0 (length known) ≡ [] = sym (shown known) ∙ ap (λ (p : List Step). frames_of (display_order step_type (reverse p))) none in
      nothing frames (omega (arith, ap (λ (l : List ℕ). length l) empty, length-range_with_len 0 (length known), many))
    where
      nothing : (fs : List (List ℕ)) → length fs ≡ 0 → fs ≡ []
      nothing [] e = refl
      nothing (f ∷ fs) e = absurd (omega (arith, e))

  is_stream : Laws → PlanFits → PlanIsShownInOrder → FoundIsRight → IsScaleCode scale → IsFrameHeader header → HaveSamples header frames → frames ≢ [] → length frames ≤ 2 ^ 44
      → (p : List Step) → plan ahead known ≡ p → IsStreamOf (coded_steps r (map (step_of_frame frames) p)) (stream_of_steps (coded_steps r (map (step_of_frame frames) p)))
  is_stream laws fits shown right is_scale is_header samples some few [] e = absurd (some (no_frames shown e))
  is_stream laws fits shown right is_scale is_header samples some few (s ∷ given) e =
      steps_are_stream laws r (step_of_frame frames s) (map (step_of_frame frames) given) is_header is_scale (all_steps fits right samples few [] (s ∷ given) e) (all_are_anchors [] (s ∷ given) e)

  steps_back : (given : List Step) → map (λ (s : FrameStep). s.step) (map (step_of_frame frames) given) ≡ given
  steps_back [] = refl
  steps_back (s ∷ given) = ap (λ (steps : List Step). s ∷ steps) (steps_back given)

  are_shown : StepsAreShown → PlanFits → PlanIsShownInOrder → FoundIsRight → HaveSamples header frames → length frames ≤ 2 ^ 44
      → frames_of_steps (display_order coded_type (reverse (coded_steps r (steps_of_frames r frames)))) ≡ range_with_len 0 (length frames)
  are_shown steps_shown fits shown right samples few =
      steps_shown r (steps_of_frames r frames) (all_steps fits right samples few [] (plan ahead known) refl)
      ∙ ap (λ (p : List Step). frames_of (display_order step_type (reverse p))) (steps_back (plan ahead known))
      ∙ shown known ∙ ap (λ (n : ℕ). range_with_len 0 n) many

pub frames_are_stream : Laws → PlanFits → PlanIsShownInOrder → FoundIsRight → FramesAreStream
frames_are_stream laws fits shown right scale header frames is_scale is_header samples some few =
    is_stream scale header frames laws fits shown right is_scale is_header samples some few (plan ahead (summaries_in (recoding_by_records scale header) frames)) refl

pub frames_are_shown : StepsAreShown → PlanFits → PlanIsShownInOrder → FoundIsRight → FramesAreShown
frames_are_shown steps_shown fits shown right scale header frames is_header = are_shown scale header frames steps_shown fits shown right
