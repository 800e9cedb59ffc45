-- A reader behind the first frames of a file that is told: what its calls answer there, and how far it has read.
use Rattle.std.specs.Prelude.{◌≡◌, ◌≢◌, ◌↔◌, ℕ, ◌+◌, ◌-◌, ◌<◌, ◌≤◌, Bool, true, false, List, [], ◌∷◌, ◌++◌, length, take, Option, None, Some, Result, Ok, Err}
use Rattle.std.specs.Option.{ForSome}
use Rattle.mv_terms.specs.declared.status.FrameFault.{FrameFault}
use Rattle.y4m_frames.specs.declared.halt.Halt.{Halt}
use Rattle.y4m_frames.specs.declared.halt.Halt.TheVariants.{Fault, Read, NoMemory}
use Rattle.y4m_frames.specs.Header.{file_header}
use Rattle.y4m_frames.specs.Frames.{Frames, File, behind_frames, file_of}
use Rattle.y4m_frames.specs.Reading.{Reading, StandsFor}

-- the most bytes that are read at once
abbrev pub read_limit : ℕ
read_limit = 65536

-- The reader stands behind these frames of the file. What follows them is what it has read ahead, which is less than can
-- be read at once, and what the shelf has left.
pub record IsBehind (r : Reading) (rest : Option (List ℕ)) (file : List ℕ)
    (frames : List (List ℕ)) : Type 0 where
  pub past : List ℕ
  pub left : List ℕ
  pub stands : StandsFor r past frames
  pub rest_is : rest ≡ Some left
  pub whole : file ≡ past ++ (r.ahead ++ left)
  pub runs : r.failed ≡ None
  pub few : length r.ahead < read_limit

-- the file has the header line of the reader, and these frames up to its end or to this fault
abbrev pub HasFrames : Reading → List ℕ → Frames → Type 0
HasFrames r file frames =
    file_of file ≡ Ok (record { line = r.line; header = r.header; frames = frames })

abbrev pub up_to : List (List ℕ) → Option FrameFault → Frames
up_to frames fault = record { frames = frames; fault = fault }

-- What a reader behind these frames answers for the next one, and what the shelf has left then. A frame is the next one of
-- the file, and the reader stands behind it. At the end the file has these frames and no others. A fault is the file's.
-- Where the shelf can't be read, no other frame lies whole within the bytes that were taken.
abbrev pub AnswersBehind : Reading → Reading → Option (List ℕ) → List ℕ → List (List ℕ) → List ℕ
    → Result Bool Halt → Type 0
AnswersBehind old new rest file frames samples (Ok true) =
    IsBehind new rest file (frames ++ samples ∷ [])
AnswersBehind old new rest file frames samples (Ok false) =
    HasFrames old file (up_to frames None) × (rest ≡ Some [])
AnswersBehind old new rest file frames samples (Err (Fault fault)) =
    HasFrames old file (up_to frames (Some fault))
AnswersBehind old new rest file frames samples (Err Read) = ForSome rest (λ left.
    (fault : Option FrameFault)
    × HasFrames old (take (length file - length left) file) (up_to frames fault))
AnswersBehind old new rest file frames samples (Err NoMemory) = ⊥

-- A file whose header line is refused is refused with the same fault.
abbrev pub HeaderFaultsAreFaults : Type 0
HeaderFaultsAreFaults =
    (file : List ℕ) (fault : FrameFault) → file_header file ≡ Err fault → file_of file ≡ Err fault

-- A file has the frames that a reader stands behind, and then others.
abbrev pub BeginsItsFrames : Type 0
BeginsItsFrames =
    (r : Reading) (rest : Option (List ℕ)) (file : List ℕ) (frames : List (List ℕ))
    → IsBehind r rest file frames
    → (others : Frames) × HasFrames r file (behind_frames frames others)

-- how many whole and right frames some bytes have in front of their first fault
abbrev pub count_of : Result File FrameFault → ℕ
count_of (Ok file) = length file.frames.frames
count_of (Err fault) = 0

-- how many frames of a file lie whole within its first n bytes
abbrev pub frames_within : List ℕ → ℕ → ℕ
frames_within file n = count_of (file_of (take n file))

-- These are the frames that end within n bytes: all those that a reader stands for lie within n bytes exactly where the
-- bytes that it stands for are no more.
abbrev pub FramesEndWithin : Type 0
FramesEndWithin =
    (r : Reading) (past more : List ℕ) (frames : List (List ℕ)) (n : ℕ)
    → StandsFor r past frames → frames ≢ []
    → (length frames ≤ frames_within (past ++ more) n) ↔ (length past ≤ n)

-- Less than can be read at once was taken beyond the end of the frames that a reader stands behind.
abbrev pub ReadsNear : Type 0
ReadsNear =
    (r : Reading) (rest : Option (List ℕ)) (file : List ℕ) (frames : List (List ℕ)) (n : ℕ)
    → IsBehind r rest file frames → frames ≢ [] → length frames ≤ frames_within file n
    → ForSome rest (λ left. length file - length left < n + read_limit)
