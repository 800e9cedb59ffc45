-- Each step of the plan of a file is that of one of its frames.
use Rattle.std.proofs.Common.{◌≡◌, ℕ, zero, suc, ◌+◌, ◌<◌, ◌≤◌, Bool, true, false, List, [], ◌∷◌, ◌++◌, map, length, get_or, slice_get, Some, refl, sym, subst, arith}
use Rattle.std.specs.Prelude.{if◌then◌else◌}
use Rattle.std.proofs.lemmas.List.{length-map}
use Rattle.mv_terms.specs.declared.frame_header.FrameHeader.{FrameHeader}
use Rattle.plan_window.specs.declared.summary.Step.{Step}
use Rattle.plan_window.specs.declared.summary.Summary.{Summary}
use Rattle.plan_window.specs.Plan.{ahead, coding_order, group_before, is_plan_anchor, plan, step_at}
use Rattle.enc_guided.specs.Recoded.{FrameStep, Recoding}
use Rattle.enc_stream.proofs.FrameLemmas.{AreBelow, order_below, frame_there}
use Rattle.enc_guided.specs.FileSteps.{step_of_frame, steps_of_frames, summaries_in, summary_in}

-- a step of frames that are below this number
record IsBelow (frames : List (List ℕ)) (n : ℕ) (s : FrameStep) : Type 0 where
  pub frame : ℕ
  pub below : frame < n
  pub is : s.frame ≡ get_or frames frame []

abbrev AllBelow : List (List ℕ) → ℕ → List FrameStep → Type 0
AllBelow frames n [] = Unit {0}
AllBelow frames n (s ∷ steps) = IsBelow frames n s × AllBelow frames n steps

all_below : (frames : List (List ℕ)) (w : ℕ) (known : List Summary) (xs : List ℕ) (n : ℕ) → AreBelow xs n → AllBelow frames n (map (step_of_frame frames) (map (step_at w known) xs))
all_below frames w known [] n h = tt
all_below frames w known (x ∷ xs) n h = (record { frame = x; below = h.0; is = refl }, all_below frames w known xs n h.1)

one_below : (frames : List (List ℕ)) (n : ℕ) (later before : List FrameStep) (s : FrameStep) → AllBelow frames n (later ++ s ∷ before) → IsBelow frames n s
one_below frames n [] before s h = h.0
one_below frames n (t ∷ later) before s h = one_below frames n later before s h.1

-- the frame of a step is one of the file
pub record IsFrameIn (frames : List (List ℕ)) (s : FrameStep) : Type 0 where
  pub number : ℕ
  pub is : slice_get frames number ≡ Some s.frame

pub is_frame_in : (r : Recoding) (frames : List (List ℕ)) (later before : List FrameStep) (s : FrameStep) → steps_of_frames r frames ≡ later ++ s ∷ before → IsFrameIn frames s
is_frame_in r frames later before s e =
    let known : List Summary = summaries_in r frames in
    let many : length known ≡ length frames = length-map frames (summary_in r) in
    let all = all_below frames ahead known (coding_order (is_plan_anchor ahead known) (length known)) (length known) (order_below (is_plan_anchor ahead known) (length known) (length known) (omega arith)) in
    let one = one_below frames (length known) later before s (subst (λ (p : List FrameStep). AllBelow frames (length known) p) e all) in
    record { number = one.frame; is = subst (λ (f : List ℕ). slice_get frames one.frame ≡ Some f) (sym one.is) (frame_there frames one.frame [] (omega (arith, one.below, many))) }
