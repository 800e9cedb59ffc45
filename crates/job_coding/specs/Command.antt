-- The command that codes the frames of a file, over any way of coding.
use Rattle.std.specs.Prelude.{◌≡◌, ⊤, ℕ, List}
use Rattle.std.specs.Io.KnownBytes.{IsAtEnd, Keeps}
use Rattle.mv_ends.specs.Causes.{Rose}
use Rattle.mv_ends.specs.Commands.{Command}
use Rattle.mv_ends.specs.Moves.{input_of}
use Rattle.job_coding.specs.Outcome.{AppendsTaken, HeaderCoding, IsCodingStatus, TakesNear, outcome_of}

-- Codes the file of this name. Where it can't be opened or memory is wanting, nothing is written; after a read fault what
-- stands on the output begins what is written for the frames that were wholly read, whatever would have followed them; and
-- where a write fails, the file was taken less than a piece behind what the next 17 frames need.
abbrev pub coding_command : HeaderCoding → List ℕ → Command
coding_command coding name = record {
  is_outcome = λ inputs outcome. outcome ≡ outcome_of coding (input_of inputs name);
  is_status = λ answered. IsCodingStatus answered;
  is_done_over = λ rest. IsAtEnd rest;
  fails_to_open = λ old new before after.
      Rose (old.open_faults name) (new.open_faults name) × Keeps before.written after.written;
  fails_to_read = λ old new before after.
      Rose (old.read_faults name) (new.read_faults name)
      × AppendsTaken coding name old.named new.rest before.written after.written;
  fails_to_write = λ old new before after.
      TakesNear coding name old.named new.rest before.written after.written;
  lacks_memory = λ before after. Keeps before.written after.written;
  is_promised = λ inputs answered before after. ⊤;
  names_input = λ inputs other. other ≡ name;
}
