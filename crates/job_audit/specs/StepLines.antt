-- The audit as the steps of the plan give it, the last step first: a B gives its own line, and an anchor that of the
-- anchor before it, which waited for the lines of its group. So the lines come in the order of the frames.
use Rattle.std.specs.Prelude.{ℕ, Bool, true, false, ◌||◌, ◌&&◌, not, if◌then◌else◌, List, [], ◌∷◌, drop, filter, Option, None, Some, option_map}
use Rattle.std.specs.Option.{option_map_or}
use Rattle.mv_terms.specs.declared.frame_header.FrameHeader.{FrameHeader}
use Rattle.plan_window.specs.declared.summary.Mode.{Mode}
use Rattle.plan_window.specs.declared.summary.Mode.TheVariants as mode
use Rattle.enc_guided.specs.Recoded.{Recoding, FrameStep}
use Rattle.enc_guided.specs.FileSteps.{recoding_by_records, summary_in}
use Rattle.job_coding.specs.Codings.{Coding}
use Rattle.job_audit.specs.declared.line.Said.{Said}
use Rattle.job_audit.specs.declared.line.Line.{Line}
use Rattle.job_audit.specs.declared.lines.Lines.{Lines}
use Rattle.job_audit.specs.Audit.{line_text, said_by}

-- ---- chains

-- what the record says that is found in the frame of a step
abbrev pub said_in : Recoding → FrameStep → Option Said
said_in r s = option_map said_by (r.find s.frame)

-- There is a chain through a frame that is coded by a record that says certified, and uses the forward side only where
-- that has the chain.
abbrev pub chain_by : Mode → Option Said → Bool → Bool
chain_by mode.Guided (Some said) behind = said.certified && (not said.uses_forward || behind)
chain_by mode.Guided None behind = false
chain_by mode.Fresh found behind = false

-- through a step, by the chain of its forward side
abbrev pub chain_behind : Recoding → FrameStep → Bool → Bool
chain_behind r s behind = chain_by s.step.mode (said_in r s) behind

-- the chain through some steps
abbrev pub chain_of_steps : Recoding → List FrameStep → Bool
chain_of_steps r [] = true
chain_of_steps r (s ∷ before) = chain_behind r s (chain_of_steps r before)

-- the anchors among some steps
abbrev pub anchors_of : List FrameStep → List FrameStep
anchors_of steps = filter (λ s. s.step.anchor) steps

-- the chain through the last anchor, and through the anchor before it
abbrev pub last_chain : Recoding → List FrameStep → Bool
last_chain r steps = chain_of_steps r (anchors_of steps)

abbrev pub chain_before : Recoding → List FrameStep → Bool
chain_before r steps = chain_of_steps r (drop 1 (anchors_of steps))

-- The step has a chain behind those before it. The last anchor is the forward side of an anchor; for a B it is the anchor
-- of its group, and the one before it is its forward side.
abbrev pub step_has_chain : Recoding → List FrameStep → FrameStep → Bool
step_has_chain r before s =
    if s.step.anchor then chain_behind r s (last_chain r before)
    else chain_behind r s (chain_before r before) && last_chain r before

-- ---- lines

-- the line of a step
abbrev pub step_line : Recoding → List FrameStep → FrameStep → Line
step_line r before s = record {
  frame = s.step.frame;
  found = said_in r s;
  mode = s.step.mode;
  has_chain = step_has_chain r before s;
}

-- the line that waits: that of the last anchor
abbrev pub waiting_line : Recoding → List FrameStep → Option Line
waiting_line r [] = None
waiting_line r (s ∷ before) =
    if s.step.anchor then Some (step_line r before s) else waiting_line r before

abbrev pub waiting_text : Recoding → List FrameStep → List ℕ
waiting_text r steps = option_map_or line_text (waiting_line r steps) []

abbrev pub step_text : Recoding → List FrameStep → FrameStep → List ℕ
step_text r before s =
    if s.step.anchor then waiting_text r before else line_text (step_line r before s)

-- what steps give, and the last anchor's line behind them
abbrev pub audit_by : Recoding → Coding
audit_by r = record {
  header = r.header;
  summary = summary_in r;
  bytes = step_text r;
  ending = waiting_text r;
}

-- of the frames of a file with this header, by the records that are found in them; of the scale code nothing depends
abbrev pub audit_coding : FrameHeader → Coding
audit_coding header = audit_by (recoding_by_records 1 header)

-- ---- what a coder keeps

-- behind these steps
abbrev pub lines_of : Recoding → List FrameStep → Lines
lines_of r steps = record {
  waiting = waiting_line r steps;
  last_chain = last_chain r steps;
  chain_before = chain_before r steps;
}
