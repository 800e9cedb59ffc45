-- The command `cut`.
use Rattle.std.specs.Prelude.{◌≡◌, ◌⊎◌, ⊤, ℕ, List, slice_get, Some, Result, Ok, Err}
use Rattle.mv_ends.specs.Commands.{Command}
use Rattle.mv_ends.specs.Moves.{input_of}
use Rattle.cut_list.specs.List.{entries_of}
use Rattle.cut_list.specs.Cut.{FailsToOpenCut, FailsToReadCut, IsCutStatus, cut_outcome}
use Rattle.cut_list.specs.declared.entry.Entry.{Entry}

-- a line of a cut list names this input
abbrev pub IsListed : Result (List Entry) ℕ → List ℕ → Type 0
IsListed (Err n) name = ⊥
IsListed (Ok entries) name = (line : ℕ) × (entry : Entry) × (slice_get entries line ≡ Some entry)
    × (name ≡ entry.name)

-- `cut` of the list of this name, which reads each input no further than it needs, and takes memory as it goes
abbrev pub cut_command : List ℕ → Command
cut_command list = record {
  is_outcome = λ inputs outcome. outcome ≡ cut_outcome inputs list;
  is_status = λ answered. IsCutStatus answered;
  is_done_over = λ rest. ⊤;
  fails_to_open = λ old new before after. FailsToOpenCut list old new before after;
  fails_to_read = λ old new before after. FailsToReadCut list old new before after;
  fails_to_write = λ old new before after. ⊤;
  lacks_memory = λ before after. ⊤;
  is_promised = λ inputs answered before after. ⊤;
  names_input = λ inputs name.
      (name ≡ list) ⊎ IsListed (entries_of (input_of inputs list)) name;
}
