-- What is found in the frame of a unit of a stream: the record of its picture, and nothing where that has none. Units
-- are in coded order, the latest first.
use Rattle.std.specs.Prelude.{◌≡◌, Bool, true, false, List, ◌∷◌, Option, None, Some, unwrap_or}
use Rattle.mv_units.specs.Profile.{CodedUnit}
use Rattle.mv_decode.specs.Accepted.{AreAcceptedUnits}
use Rattle.rec_legal.specs.FoundRecord.{FoundRecord}
use Rattle.rec_legal.specs.Found.{found}
use Rattle.cert_picture.specs.Records.{frame_seal, is_recordable, no_seal, sheet_lists}
use Rattle.cert_picture.specs.FrameFileOf.{frame_behind, frames_of, parts_behind}

-- the picture of a unit behind others has a record
abbrev pub has_record : List CodedUnit → CodedUnit → Bool
has_record before u = is_recordable (parts_behind (frames_of before) u)

-- The record that is buried in its frame: what the sheet says and its seal, with the context in force, the head and the
-- decisions.
abbrev pub record_behind : List CodedUnit → CodedUnit → FoundRecord
record_behind before u =
    let parts = parts_behind (frames_of before) u in
    record {
      sheet = sheet_lists parts;
      seal = unwrap_or (frame_seal parts) no_seal;
      context = u.accepted.heads.context;
      head = u.picture.head;
      decisions = u.picture.decisions;
    }

-- the record that is found in its frame, in a file of the size of the first unit, which all units keep
abbrev pub found_behind : List CodedUnit → CodedUnit → Option FoundRecord
found_behind before u = found u.accepted.heads.first (frame_behind (frames_of before) u).samples

-- LAWS: THE RECORD LAW: where the picture of an accepted unit has a record, this is found in its frame;
abbrev pub RecordIsFound : Type 0
RecordIsFound = (u : CodedUnit) (before : List CodedUnit) → AreAcceptedUnits (u ∷ before)
    → has_record before u ≡ true → found_behind before u ≡ Some (record_behind before u)

-- and where it has none, nothing is found.
abbrev pub OthersHaveNone : Type 0
OthersHaveNone = (u : CodedUnit) (before : List CodedUnit) → AreAcceptedUnits (u ∷ before)
    → has_record before u ≡ false → found_behind before u ≡ None
