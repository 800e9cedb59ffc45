-- The command `audit`.
use Rattle.std.specs.Prelude.{ℕ, List}
use Rattle.mv_ends.specs.Commands.{Command}
use Rattle.mv_ends.specs.Moves.{input_of}
use Rattle.y4m_frames.specs.Frames.{file_of}
use Rattle.job_coding.specs.Command.{coding_command}
use Rattle.job_coding.specs.Outcome.{AppendsRight, IsRead}
use Rattle.job_audit.specs.AuditedFile.{IsAudited}
use Rattle.job_audit.specs.StepLines.{audit_coding}

-- `audit` of the input of this name. What is written for a file, up to its end or its first fault, are the lines of its
-- frames, and each intact frame has its chain.
abbrev pub audit_command : List ℕ → Command
audit_command name = record (coding_command audit_coding name) {
  is_promised = λ inputs answered before after. IsRead answered
      → AppendsRight IsAudited (file_of (input_of inputs name)) before.written after.written;
}
