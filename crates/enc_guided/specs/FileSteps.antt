-- The frames of a file, coded by the steps of their plan: by the records that are found in them, and anew.
use Rattle.std.specs.Prelude.{ℕ, List, [], ◌++◌, map, get_or}
use Rattle.mv_terms.specs.declared.frame_header.FrameHeader.{FrameHeader}
use Rattle.rec_legal.specs.Conditions.{file_size}
use Rattle.rec_legal.specs.Found.{found}
use Rattle.rec_reader.specs.Summaries.{summary_of}
use Rattle.plan_window.specs.declared.summary.Summary.{Summary}
use Rattle.plan_window.specs.declared.summary.Step.{Step}
use Rattle.plan_window.specs.Plan.{ahead, plan}
use Rattle.enc_guided.specs.Recoded.{Recoding, FrameStep, CodedStep, bytes_of_steps, coded_steps, ending_of}

-- the frames of a file with this header, by the records that are found in them; this is the scale code of fresh pictures
abbrev pub recoding_by_records : ℕ → FrameHeader → Recoding
recoding_by_records scale header = record {
  header = header;
  scale = scale;
  find = found (file_size header);
}

-- what the plan knows of a frame, and of all frames
abbrev pub summary_in : Recoding → List ℕ → Summary
summary_in r frame = summary_of (r.find frame)

abbrev pub summaries_in : Recoding → List (List ℕ) → List Summary
summaries_in r frames = map (summary_in r) frames

-- the step with its frame
abbrev pub step_of_frame : List (List ℕ) → Step → FrameStep
step_of_frame frames s = record { step = s; frame = get_or frames s.frame [] }

-- the steps of the plan of these frames
abbrev pub steps_of_frames : Recoding → List (List ℕ) → List FrameStep
steps_of_frames r frames = map (step_of_frame frames) (plan ahead (summaries_in r frames))

-- what steps write, and what stands behind the last one
abbrev pub stream_of_steps : List CodedStep → List ℕ
stream_of_steps steps = bytes_of_steps steps ++ ending_of steps

-- THE RECODED STREAM of these frames
abbrev pub recoded_frames : Recoding → List (List ℕ) → List ℕ
recoded_frames r frames = stream_of_steps (coded_steps r (steps_of_frames r frames))
