-- What the endpoints that don't fail hold.
use Rattle.std.specs.Prelude.{ℕ, List, Bool, Some}
use Rattle.mv_ends.specs.declared.clean.CleanSink.{CleanSink}
use Rattle.mv_ends.specs.declared.clean.CleanShelf.{CleanShelf}
use Rattle.mv_ends.specs.Moves.{Inputs}
use Rattle.mv_ends.specs.Places.{inputs_of, place_of, left_of, is_place}
use Rattle.mv_ends.specs.Told.{ShelfTold, SinkTold}

-- the bytes that a sink took, for how many it has room, and how often it failed
abbrev pub taken_by : CleanSink → List ℕ
taken_by s = s.taken.items

abbrev pub room_of : CleanSink → ℕ
room_of s = s.room

abbrev pub faults_of : CleanSink → ℕ
faults_of s = s.faults

-- what it tells
abbrev pub sink_told : CleanSink → SinkTold
sink_told s = record { written = Some (taken_by s); faults = faults_of s; room = room_of s }

-- the inputs of a shelf, and whether a name counts as selected
abbrev pub inputs_in : CleanShelf → Inputs
inputs_in s = inputs_of s.inputs.items

abbrev pub selected_in : CleanShelf → List ℕ → Bool
selected_in s name = is_place s.selected (place_of s.inputs.items name)

-- what it tells: no call fails
abbrev pub shelf_told : CleanShelf → ShelfTold
shelf_told s = record {
  named = Some (inputs_in s);
  rest = Some (left_of s.inputs.items s.selected s.at);
  selected = selected_in s;
  open_faults = λ name. 0;
  read_faults = λ name. 0;
}
