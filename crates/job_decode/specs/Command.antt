-- The command `decode`.
use Rattle.std.specs.Prelude.{◌≡◌, ⊤, ℕ, List}
use Rattle.std.specs.Io.KnownBytes.{IsAtEnd, Keeps}
use Rattle.mv_ends.specs.Causes.{Rose}
use Rattle.mv_ends.specs.Commands.{Command}
use Rattle.mv_ends.specs.Moves.{input_of}
use Rattle.job_decode.specs.Stream.{AppendsTaken, IsDecodeStatus, IsOutcome, TakesNear}

-- `decode` of the input of this name. Where it can't be opened or memory is wanting, nothing is written; after a read fault
-- exactly that stands on the output which is due to the bytes that were taken; and where a write fails, the input was taken
-- less than a piece behind what the next two frames need.
abbrev pub decode_command : List ℕ → Command
decode_command name = record {
  is_outcome = λ inputs outcome. IsOutcome (input_of inputs name) outcome;
  is_status = λ answered. IsDecodeStatus answered;
  is_done_over = λ rest. IsAtEnd rest;
  fails_to_open = λ old new before after.
      Rose (old.open_faults name) (new.open_faults name) × Keeps before.written after.written;
  fails_to_read = λ old new before after.
      Rose (old.read_faults name) (new.read_faults name)
      × AppendsTaken name old.named new.rest before.written after.written;
  fails_to_write = λ old new before after.
      TakesNear name old.named new.rest before.written after.written;
  lacks_memory = λ before after. Keeps before.written after.written;
  is_promised = λ inputs answered before after. ⊤;
  names_input = λ inputs other. other ≡ name;
}
