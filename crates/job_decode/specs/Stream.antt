-- What `decode` answers and writes for a stream.
use Rattle.std.specs.Prelude.{◌≡◌, ⊤, ℕ, ◌+◌, ◌-◌, ◌<◌, ◌≤◌, List, [], length, drop, take, Option, None, Some}
use Rattle.std.specs.Option.{ForSome}
use Rattle.std.specs.Io.KnownBytes.{Appends}
use Rattle.mv_ends.specs.Ends.{Outcome}
use Rattle.mv_ends.specs.Moves.{Inputs, input_of}
use Rattle.mv_terms.specs.declared.status.Why.{Why}
use Rattle.mv_terms.specs.declared.status.Status.{Status}
use Rattle.mv_terms.specs.declared.status.Status.TheVariants as status
use Rattle.mv_units.specs.Units.{units_left, open_stream, units_within}
use Rattle.mv_units.specs.Profile.{CodedUnit, Judged, HasUnits}
use Rattle.cert_picture.specs.FrameFileOf.{due, file_front, frame_file_of, frames_of}

-- done, or the number of the refused unit and why
abbrev pub status_by : Option Why → ℕ → Status
status_by None count = status.Done
status_by (Some why) count = status.Unit count why

abbrev pub status_of : Judged → Status
status_of judged = status_by judged.refusal (length judged.units)

-- how many units the first n bytes of a stream show whole, whatever follows
abbrev pub units_shown : List ℕ → ℕ → ℕ
units_shown bytes n = length (units_left (open_stream (take n bytes))).units

-- the first n of these units, of which the latest stand first
abbrev pub first_units : ℕ → List CodedUnit → List CodedUnit
first_units n units = drop (length units - n) units

-- What is answered and written for a stream that is judged so: the frame file of its accepted units, the latest of which
-- stand first. The first n bytes give what is due to the accepted units among those that they show whole.
abbrev pub outcome_of : List ℕ → Judged → Outcome Status
outcome_of bytes judged = record {
  answer = status_of judged;
  output = frame_file_of judged.units;
  at_open = λ n. [];
  given = λ n. due (first_units (units_shown bytes n) judged.units);
}

-- what `decode` answers for a stream, and what it writes
abbrev pub IsOutcome : List ℕ → Outcome Status → Type 0
IsOutcome bytes outcome =
    (judged : Judged) × HasUnits bytes judged × (outcome ≡ outcome_of bytes judged)

-- The statuses that `decode` ends with, whatever its input is.
abbrev pub IsDecodeStatus : Status → Type 0
IsDecodeStatus status.Done = ⊤
IsDecodeStatus (status.Unit count why) = ⊤
IsDecodeStatus status.OpenFault = ⊤
IsDecodeStatus status.ReadFault = ⊤
IsDecodeStatus status.WriteFault = ⊤
IsDecodeStatus status.NoMemory = ⊤
IsDecodeStatus other = ⊥

-- Of an outcome of the stream exactly that is appended which its first n bytes give.
abbrev pub AppendsGiven : List ℕ → ℕ → Option (List ℕ) → Option (List ℕ) → Type 0
AppendsGiven bytes n old new =
    (outcome : Outcome Status) × IsOutcome bytes outcome × Appends old new (outcome.given n)

-- The same for the bytes that were taken of the input of a name, where the inputs and what is left of it are told.
abbrev pub AppendsTaken : List ℕ → Option Inputs → Option (List ℕ) → Option (List ℕ)
    → Option (List ℕ) → Type 0
AppendsTaken name named rest old new = ForSome named (λ inputs. ForSome rest (λ left.
    AppendsGiven (input_of inputs name) (length (input_of inputs name) - length left) old new))

-- the most bytes of an input that are read at once
abbrev pub piece_limit : ℕ
piece_limit = 65536

-- Where these bytes don't reach behind the first m whole frames, and the first m + 2 of the accepted units lie whole
-- within n bytes, less than a piece was taken behind these n bytes.
abbrev pub IsNear : List ℕ → ℕ → List ℕ → Judged → Type 0
IsNear bytes taken appended judged = (m n : ℕ)
    → length appended < length (file_front (m + 1) (frames_of judged.units))
    → m + 2 ≤ length judged.units
    → m + 2 ≤ units_within bytes n
    → taken < n + piece_limit

-- The stream isn't read far ahead of what is appended of its frame file.
abbrev pub ReadsNear : List ℕ → ℕ → List ℕ → Type 0
ReadsNear bytes taken appended =
    (judged : Judged) × HasUnits bytes judged × IsNear bytes taken appended judged

-- The same for the input of a name, where the inputs, what is left of it, and what was written are told.
abbrev pub TakesNear : List ℕ → Option Inputs → Option (List ℕ) → Option (List ℕ) → Option (List ℕ)
    → Type 0
TakesNear name named rest old new = ForSome named (λ inputs. ForSome rest (λ left.
    ForSome old (λ before. ForSome new (λ after.
    ReadsNear (input_of inputs name) (length (input_of inputs name) - length left)
    (drop (length before) after)))))

-- Each stream has one outcome, and no other.
pub record HasOneOutcome (bytes : List ℕ) : Type 0 where
  pub outcome : Outcome Status
  pub is : IsOutcome bytes outcome
  pub only : (other : Outcome Status) → IsOutcome bytes other → other ≡ outcome

abbrev pub EachHasOneOutcome : Type 0
EachHasOneOutcome = (bytes : List ℕ) → HasOneOutcome bytes
