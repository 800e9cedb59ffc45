-- The coding plan of a list of frames, each given by its summary: which are anchors, to which group a B belongs, how
-- each frame is coded, and in which order. The number of frames behind a frame that are looked at is w; it is `ahead`.
use Rattle.std.specs.Prelude.{ℕ, zero, suc, Bool, true, false, ◌||◌, if◌then◌else◌, List, [], ◌∷◌, ◌++◌, Option, None, Some, slice_get, map, find, take, drop, length}
use Rattle.std.specs.Option.{option_map_or, option_and_then}
use Rattle.plan_window.specs.declared.summary.Summary.{Summary}
use Rattle.plan_window.specs.declared.summary.Mode.{Mode}
use Rattle.plan_window.specs.declared.summary.Mode.TheVariants.{Fresh}
use Rattle.plan_window.specs.declared.summary.Step.{Step}
use Rattle.plan_window.specs.Links.{is_anchor_record, mode_by}

-- how many frames behind a frame are looked at
unfoldable pub ahead : ℕ
ahead = 16

-- the first anchor record among the next w frames behind frame i
abbrev pub next_record : ℕ → List Summary → ℕ → Option Summary
next_record w frames i = find is_anchor_record (take w (drop (suc i) frames))

-- Frame i is an anchor of the plan where it has an anchor record, or where none of the next w frames has one, or where
-- the first of them that has one has low delay. All other frames are Bs of the plan.
abbrev pub is_plan_anchor : ℕ → List Summary → ℕ → Bool
is_plan_anchor w frames i =
    option_map_or is_anchor_record (slice_get frames i) false
    || option_map_or (λ (s : Summary). s.low_delay) (next_record w frames i) true

-- the anchors before frame k, the latest first
abbrev pub anchors_before : (ℕ → Bool) → ℕ → List ℕ
anchors_before anchor zero = []
anchors_before anchor (suc k) =
    if anchor k then k ∷ anchors_before anchor k else anchors_before anchor k

-- the first anchor among n frames from frame i on
abbrev pub first_anchor : (ℕ → Bool) → ℕ → ℕ → Option ℕ
first_anchor anchor i zero = None
first_anchor anchor i (suc n) = if anchor i then Some i else first_anchor anchor (suc i) n

-- the nearest anchor before frame i
abbrev pub nearest_before : ℕ → List Summary → ℕ → Option Summary
nearest_before w frames i =
    option_and_then (slice_get frames)
    (slice_get (anchors_before (is_plan_anchor w frames) i) 0)

-- the anchor of the group of frame i, which is the next anchor of the plan; an anchor is in no group
abbrev pub anchor_of_group : ℕ → List Summary → ℕ → Option Summary
anchor_of_group w frames i =
    if is_plan_anchor w frames i then None
    else option_and_then (slice_get frames) (first_anchor (is_plan_anchor w frames) (suc i) w)

-- how frame i is coded
abbrev pub mode_at : ℕ → List Summary → ℕ → Mode
mode_at w frames i =
    option_map_or (λ s. mode_by s (nearest_before w frames i) (anchor_of_group w frames i))
    (slice_get frames i) Fresh

-- the step of frame i
abbrev pub step_at : ℕ → List Summary → ℕ → Step
step_at w frames i =
    record { frame = i; anchor = is_plan_anchor w frames i; mode = mode_at w frames i }

-- the Bs that stand directly before frame i, the last one first: the group of frame i, where it is an anchor
abbrev pub group_before : (ℕ → Bool) → ℕ → List ℕ
group_before anchor zero = []
group_before anchor (suc i) = if anchor i then [] else i ∷ group_before anchor i

-- The order of coding as far as the anchors before frame i go: each anchor in the order of the frames, and behind it
-- the frames of its group in their order. The frame that is coded last stands first.
abbrev pub coding_order : (ℕ → Bool) → ℕ → List ℕ
coding_order anchor zero = []
coding_order anchor (suc i) =
    if anchor i then group_before anchor i ++ i ∷ coding_order anchor i
    else coding_order anchor i

-- The plan: the steps of all frames in the order of coding, the last step first.
abbrev pub plan : ℕ → List Summary → List Step
plan w frames = map (step_at w frames) (coding_order (is_plan_anchor w frames) (length frames))
