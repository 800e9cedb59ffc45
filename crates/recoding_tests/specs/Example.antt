-- A coding for the tests of `job_coding`: each step writes its frame.
use Rattle.std.specs.Prelude.{ℕ, Bool, false, ◌==◌, List, [], None, Some, slice_get, replicate, if◌then◌else◌}
use Rattle.std.specs.Option.{option_map_or}
use Rattle.mv_terms.specs.declared.head.PicType.TheVariants.{I}
use Rattle.mv_terms.specs.declared.frame_header.FrameHeader.{FrameHeader}
use Rattle.plan_window.specs.declared.summary.Summary.{Summary}
use Rattle.job_coding.specs.Codings.{Coding}

-- a frame has an anchor record where the high byte of its first sample is 3
abbrev pub is_anchor : List ℕ → Bool
is_anchor frame = option_map_or (λ b. b == 3) (slice_get frame 1) false

abbrev pub summary_of : List ℕ → Summary
summary_of frame = record {
  kind = if is_anchor frame then Some I else None;
  low_delay = false;
  uses_forward = false;
  forward = None;
  backward = replicate 32 0;
  seal = replicate 32 0;
  context = replicate 32 0;
}

abbrev pub each_frame : FrameHeader → Coding
each_frame header = record {
  header = header;
  summary = summary_of;
  bytes = λ before s. s.frame;
  ending = λ steps. [];
}
