-- What is written for the frames of a file: the steps of their plan in turn, each by the steps before it and by its own
-- frame. Lists of steps have the last one first.
use Rattle.std.specs.Prelude.{◌≡◌, ℕ, ◌-◌, ◌<◌, ◌^◌, true, List, [], ◌∷◌, ◌++◌, length, map, drop}
use Rattle.mv_terms.specs.declared.frame_header.FrameHeader.{FrameHeader}
use Rattle.y4m_frames.specs.Frames.{are_samples, frame_len}
use Rattle.plan_window.specs.declared.summary.Summary.{Summary}
use Rattle.plan_window.specs.declared.summary.Step.{Step}
use Rattle.plan_window.specs.Plan.{ahead, plan}
use Rattle.plan_window.specs.Fits.{Planned, Fits}
use Rattle.enc_guided.specs.Recoded.{FrameStep}
use Rattle.enc_guided.specs.FileSteps.{step_of_frame}

-- How the frames of a file are coded: the header of the file, what the plan has to know of a frame, what a step writes
-- behind the steps before it, and what ends the output.
pub record Coding : Type 0 where
  pub header : FrameHeader
  pub summary : List ℕ → Summary
  pub bytes : List FrameStep → FrameStep → List ℕ
  pub ending : List FrameStep → List ℕ

abbrev pub summaries : Coding → List (List ℕ) → List Summary
summaries k frames = map k.summary frames

-- the steps with their frames
abbrev pub frame_steps : List (List ℕ) → List Step → List FrameStep
frame_steps frames steps = map (step_of_frame frames) steps

-- the steps of the plan of these frames
abbrev pub steps_of : Coding → List (List ℕ) → List FrameStep
steps_of k frames = frame_steps frames (plan ahead (summaries k frames))

-- what steps write, in their order
abbrev pub bytes_of_coding : Coding → List FrameStep → List ℕ
bytes_of_coding k [] = []
bytes_of_coding k (s ∷ before) = bytes_of_coding k before ++ k.bytes before s

-- all that is written for these frames
abbrev pub output_of : Coding → List (List ℕ) → List ℕ
output_of k frames = bytes_of_coding k (steps_of k frames) ++ k.ending (steps_of k frames)

-- what the first n steps of these frames write
abbrev pub first_steps : Coding → List (List ℕ) → ℕ → List ℕ
first_steps k frames n =
    bytes_of_coding k (drop (length (steps_of k frames) - n) (steps_of k frames))

-- ---- what a coder may rely on

-- a frame of a file with this header: its length, and the range of its samples
pub record IsFrameOf (header : FrameHeader) (frame : List ℕ) : Type 0 where
  pub all : length frame ≡ frame_len header
  pub range : are_samples frame ≡ true

-- a step with the summary of its frame
abbrev pub planned_of : Coding → FrameStep → Planned
planned_of k s = record { step = s.step; summary = k.summary s.frame }

-- A step fits behind those before it, as each step of a plan does; its frame has the size and the range of the file's frames;
-- and there are fewer steps before it than a file may have bytes.
pub record IsNextStep (k : Coding) (before : List FrameStep) (s : FrameStep) : Type 0 where
  pub fits : Fits (map (planned_of k) before) (planned_of k s)
  pub frame : IsFrameOf k.header s.frame
  pub few : length before < 2 ^ 44
