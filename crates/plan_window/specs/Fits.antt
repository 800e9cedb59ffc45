-- What a coder may rely on at each step of a plan, behind the steps before it, of which the last one stands first.
use Rattle.std.specs.Prelude.{◌≡◌, ℕ, suc, ◌+◌, ◌<◌, ◌≤◌, Bool, true, false, if◌then◌else◌, List, [], ◌∷◌, ◌++◌, map, length, reverse, get_or, slice_get, Option, None, Some, is_some}
use Rattle.std.specs.List.{range_with_len}
use Rattle.std.specs.Option.{option_map}
use Rattle.mv_terms.specs.declared.head.PicType.{PicType}
use Rattle.mv_terms.specs.declared.head.PicType.TheVariants as pic
use Rattle.mv_terms.specs.Order.{forward_reference, backward_reference, display_order, shown_by}
use Rattle.plan_window.specs.declared.summary.Summary.{Summary}
use Rattle.plan_window.specs.declared.summary.Mode.TheVariants.{Guided}
use Rattle.plan_window.specs.declared.summary.Step.{Step}
use Rattle.plan_window.specs.Links.{is_anchor_record, mode_by}
use Rattle.plan_window.specs.Plan.{ahead, is_plan_anchor, anchors_before, first_anchor, group_before, coding_order, plan}
use Rattle.plan_window.specs.State.{WindowState}

-- A step, with the summary of its frame.
pub record Planned : Type 0 where
  pub step : Step
  pub summary : Summary

-- steps with the summaries of these frames; a frame that isn't there has the other summary
abbrev pub planned_step : Summary → List Summary → Step → Planned
planned_step otherwise frames s =
    record { step = s; summary = get_or frames s.frame otherwise }

abbrev pub planned : Summary → List Summary → List Step → List Planned
planned otherwise frames steps = map (planned_step otherwise frames) steps

-- Steps stand in coded order as pictures do. Of which kind an anchor is makes no difference to order and references.
abbrev pub step_type : Step → PicType
step_type s = if s.anchor then pic.P else pic.B

abbrev pub type_of : Planned → PicType
type_of p = step_type p.step

-- what a step refers to among those before it: an anchor to the last anchor, a B to the last two
abbrev pub forward : List Planned → Planned → Option Planned
forward before p = forward_reference type_of (type_of p) before

abbrev pub backward : List Planned → Planned → Option Planned
backward before p = backward_reference type_of (type_of p) before

abbrev pub summary_of : Option Planned → Option Summary
summary_of o = option_map (λ (p : Planned). p.summary) o

-- A B belongs to the group of this anchor: its frame stands before the anchor's, at most so many as the plan looks ahead,
-- and the anchor has an anchor record, without low delay. By its record a B is coded only in the same context.
pub record FollowsAnchor (anchor p : Planned) : Type 0 where
  pub record_of_anchor : is_anchor_record anchor.summary ≡ true
  pub no_low_delay : anchor.summary.low_delay ≡ false
  pub same_context : p.step.mode ≡ Guided → p.summary.context ≡ anchor.summary.context
  pub later : p.step.frame < anchor.step.frame
  pub near : anchor.step.frame ≤ p.step.frame + ahead

abbrev pub IsInGroup : Option Planned → Planned → Type 0
IsInGroup None p = ⊥
IsInGroup (Some anchor) p = FollowsAnchor anchor p

-- the steps since the last anchor
abbrev pub since_anchor : List Planned → List Planned
since_anchor [] = []
since_anchor (p ∷ before) = if p.step.anchor then [] else p ∷ since_anchor before

-- A step fits behind those before it.
pub record Fits (before : List Planned) (p : Planned) : Type 0 where
  -- it is coded by its record exactly where that names what the step refers to
  pub mode : p.step.mode
      ≡ mode_by p.summary (summary_of (forward before p)) (summary_of (backward before p))
  pub found : p.step.mode ≡ Guided → is_some p.summary.kind ≡ true
  pub kind : p.step.mode ≡ Guided → is_anchor_record p.summary ≡ p.step.anchor
  -- the frames before an anchor that have no step yet are no more than the plan looks ahead
  pub waiting : p.step.anchor ≡ true
      → (length before ≤ p.step.frame) × (p.step.frame ≤ length before + ahead)
  pub group : p.step.anchor ≡ false → IsInGroup (backward before p) p
  -- so a group has no more Bs than that
  pub few : p.step.anchor ≡ false → length (since_anchor before) < ahead

-- the frames of these steps
abbrev pub frames_of : List Step → List ℕ
frames_of steps = map (λ (s : Step). s.frame) steps

-- Where a step stands in the order of coding: that of an anchor behind all groups before it, that of a B behind the
-- anchor of its group and the frames of the group before its own.
pub record StandsInOrder (anchor : ℕ → Bool) (before : List Step) (s : Step) : Type 0 where
  pub of_anchor : s.anchor ≡ true → frames_of before ≡ coding_order anchor s.frame
  pub of_b : s.anchor ≡ false → (g : ℕ) × (first_anchor anchor (suc s.frame) ahead ≡ Some g)
      × (frames_of before ≡ group_before anchor s.frame ++ g ∷ coding_order anchor g)

-- A step refers forward to the nearest anchor before its frame, and a B backward to the nearest one behind.
pub record RefersToNearest (anchor : ℕ → Bool) (before : List Step) (s : Step) : Type 0 where
  pub forward_is : option_map (λ (r : Step). r.frame)
      (forward_reference step_type (step_type s) before)
      ≡ slice_get (anchors_before anchor s.frame) 0
  pub backward_is : s.anchor ≡ false
      → option_map (λ (r : Step). r.frame) (backward_reference step_type (step_type s) before)
      ≡ first_anchor anchor (suc s.frame) ahead

-- each step of a plan fits behind those before it
abbrev pub PlanFits : Type 0
PlanFits =
    (otherwise : Summary) (frames : List Summary) (later given : List Step) (s : Step)
    → plan ahead frames ≡ later ++ s ∷ given
    → Fits (planned otherwise frames given) (planned_step otherwise frames s)

-- and stands in the order of coding
abbrev pub PlanStandsInOrder : Type 0
PlanStandsInOrder =
    (frames : List Summary) (later given : List Step) (s : Step)
    → plan ahead frames ≡ later ++ s ∷ given
    → StandsInOrder (is_plan_anchor ahead frames) given s

-- and refers to the nearest anchors
abbrev pub PlanRefersToNearest : Type 0
PlanRefersToNearest =
    (frames : List Summary) (later given : List Step) (s : Step)
    → plan ahead frames ≡ later ++ s ∷ given
    → RefersToNearest (is_plan_anchor ahead frames) given s

-- A plan is shown in the order of the frames.
abbrev pub PlanIsShownInOrder : Type 0
PlanIsShownInOrder =
    (frames : List Summary)
    → frames_of (display_order step_type (reverse (plan ahead frames)))
    ≡ range_with_len 0 (length frames)

-- What its first steps show are the first frames.
abbrev pub StepsAreShownInOrder : Type 0
StepsAreShownInOrder =
    (frames : List Summary) (later given : List Step) → plan ahead frames ≡ later ++ given
    → (behind : List ℕ)
    × (range_with_len 0 (length frames) ≡ frames_of (shown_by step_type given) ++ behind)

-- The last step that a window gave fits behind those before it, stands in the order of coding, and refers to the nearest
-- anchors.
abbrev pub LastStepFits : WindowState → List Summary → List Step → Type 0
LastStepFits window pushed [] = Unit {0}
LastStepFits window pushed (s ∷ given) =
    ((otherwise : Summary)
    → Fits (planned otherwise pushed given) (planned_step otherwise pushed s))
    × StandsInOrder (is_plan_anchor ahead pushed) given s
    × RefersToNearest (is_plan_anchor ahead pushed) given s

-- What the steps show that a window gave are the first frames.
abbrev pub AreShownInOrder : WindowState → List Summary → List Step → Type 0
AreShownInOrder window pushed given =
    (behind : List ℕ)
    × (range_with_len 0 (length pushed) ≡ frames_of (shown_by step_type given) ++ behind)
