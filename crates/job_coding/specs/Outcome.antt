-- What is answered and written for a file of frames, over any way of coding.
use Rattle.std.specs.Prelude.{◌≡◌, ⊤, ℕ, ◌+◌, ◌-◌, ◌<◌, ◌≤◌, List, [], ◌++◌, length, take, drop, Option, None, Some, Result, Ok, Err}
use Rattle.std.specs.Option.{ForSome}
use Rattle.std.specs.Io.KnownBytes.{Appends, Keeps}
use Rattle.mv_ends.specs.Ends.{Outcome}
use Rattle.mv_ends.specs.Moves.{Inputs, input_of, AppendsPart}
use Rattle.mv_terms.specs.declared.status.FrameFault.{FrameFault}
use Rattle.mv_terms.specs.declared.frame_header.FrameHeader.{FrameHeader}
use Rattle.mv_terms.specs.declared.status.Status.{Status}
use Rattle.mv_terms.specs.declared.status.Status.TheVariants as status
use Rattle.y4m_frames.specs.Frames.{File, file_of}
use Rattle.y4m_frames.specs.Behind.{frames_within, read_limit}
use Rattle.job_coding.specs.Codings.{Coding, output_of, first_steps}

-- done, or the first fault
abbrev pub status_of : Option FrameFault → Status
status_of None = status.Done
status_of (Some fault) = status.Frames fault

abbrev pub status_by : Result File FrameFault → Status
status_by (Err fault) = status.Frames fault
status_by (Ok file) = status_of file.frames.fault

-- how frames are coded, by the header of their file
abbrev pub HeaderCoding : Type 0
HeaderCoding = FrameHeader → Coding

-- what is written for the frames in front of the first fault, as if the file ended there
abbrev pub output_by : HeaderCoding → Result File FrameFault → List ℕ
output_by coding (Err fault) = []
output_by coding (Ok file) = output_of (coding file.header) file.frames.frames

-- What is answered and written for these bytes. The first n of them give what is written for their own frames.
abbrev pub outcome_of : HeaderCoding → List ℕ → Outcome Status
outcome_of coding bytes = record {
  answer = status_by (file_of bytes);
  output = output_by coding (file_of bytes);
  at_open = λ n. [];
  given = λ n. output_by coding (file_of (take n bytes));
}

-- The statuses that the job ends with, whatever its input is.
abbrev pub IsCodingStatus : Status → Type 0
IsCodingStatus status.Done = ⊤
IsCodingStatus (status.Frames fault) = ⊤
IsCodingStatus status.OpenFault = ⊤
IsCodingStatus status.ReadFault = ⊤
IsCodingStatus status.WriteFault = ⊤
IsCodingStatus status.NoMemory = ⊤
IsCodingStatus other = ⊥

-- What is appended begins what is written for these frames, whatever frames may follow them.
abbrev pub AppendsSettled : HeaderCoding → Result File FrameFault → Option (List ℕ)
    → Option (List ℕ) → Type 0
AppendsSettled coding (Err fault) old new = Keeps old new
AppendsSettled coding (Ok file) old new =
    (more : List (List ℕ))
    → AppendsPart old new (output_of (coding file.header) (file.frames.frames ++ more))

-- the statuses that say that a file was read, up to its end or its first fault
abbrev pub IsRead : Status → Type 0
IsRead status.Done = ⊤
IsRead (status.Frames fault) = ⊤
IsRead other = ⊥

-- What is appended is right for the file that was read; where its header line is refused, nothing is appended.
abbrev pub AppendsRight : (File → List ℕ → Type 0) → Result File FrameFault → Option (List ℕ)
    → Option (List ℕ) → Type 0
AppendsRight IsRight (Err fault) old new = Keeps old new
AppendsRight IsRight (Ok file) old new =
    (output : List ℕ) × Appends old new output × IsRight file output

-- the first bytes of an input, up to what is left of it
abbrev pub taken_of : List ℕ → List ℕ → List ℕ
taken_of bytes left = take (length bytes - length left) bytes

-- What is appended begins what is written for the frames that lie whole within the bytes that were taken of the input of a
-- name, whatever frames may follow them. It is said where the inputs and what is left of this one are told.
abbrev pub AppendsTaken : HeaderCoding → List ℕ → Option Inputs → Option (List ℕ)
    → Option (List ℕ) → Option (List ℕ) → Type 0
AppendsTaken coding name named rest old new = ForSome named (λ inputs. ForSome rest (λ left.
    AppendsSettled coding (file_of (taken_of (input_of inputs name) left)) old new))

-- Where these bytes don't reach behind the first s + 1 steps, and the file has s + 17 frames, which lie whole within n
-- bytes, less than can be read at once was taken behind these n bytes.
abbrev pub IsNear : HeaderCoding → List ℕ → ℕ → List ℕ → Type 0
IsNear coding bytes taken appended = (file : File) → file_of bytes ≡ Ok file → (s n : ℕ)
    → length appended < length (first_steps (coding file.header) file.frames.frames (s + 1))
    → s + 17 ≤ length file.frames.frames
    → s + 17 ≤ frames_within bytes n
    → taken < n + read_limit

-- The same for the input of a name, where the inputs, what is left of it, and what was written are told.
abbrev pub TakesNear : HeaderCoding → List ℕ → Option Inputs → Option (List ℕ)
    → Option (List ℕ) → Option (List ℕ) → Type 0
TakesNear coding name named rest old new = ForSome named (λ inputs. ForSome rest (λ left.
    ForSome old (λ before. ForSome new (λ after.
    IsNear coding (input_of inputs name) (length (input_of inputs name) - length left)
    (drop (length before) after)))))
