-- The command `recode`.
use Rattle.std.specs.Prelude.{ℕ, List}
use Rattle.mv_ends.specs.Commands.{Command}
use Rattle.mv_ends.specs.Moves.{input_of}
use Rattle.y4m_frames.specs.Frames.{file_of}
use Rattle.job_coding.specs.Command.{coding_command}
use Rattle.job_coding.specs.Outcome.{AppendsRight, IsRead}
use Rattle.job_recode.specs.ByRecords.{record_coding}
use Rattle.job_recode.specs.RecodedFile.{GivesStreamBack, IsRecoded}

-- `recode` of the input of this name, with this quantiser scale code. What is written for a file, up to its end or its first
-- fault, is a stream in which each intact picture has its original bytes; and the frame file that a stream of certified
-- pictures decodes to gives the stream, byte for byte.
abbrev pub recode_command : ℕ → List ℕ → Command
recode_command scale name = record (coding_command (record_coding scale) name) {
  is_promised = λ inputs answered before after. IsRead answered
      → AppendsRight (IsRecoded scale) (file_of (input_of inputs name)) before.written after.written
      × GivesStreamBack (input_of inputs name) answered before.written after.written;
}
