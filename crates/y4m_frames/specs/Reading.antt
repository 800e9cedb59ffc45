-- A reader of a frame file: what it stands for, and what each call finds in what is left of the file.
use Rattle.std.specs.Prelude.{◌≡◌, ℕ, ◌+◌, ◌≤◌, ◌<◌, Bool, true, false, List, [], ◌∷◌, ◌++◌, length, Option, None, Result, Ok, Err}
use Rattle.std.specs.Io.KnownBytes.{prepend_known, Consumes}
use Rattle.mv_terms.specs.declared.status.FrameFault.{FrameFault}
use Rattle.mv_terms.specs.declared.frame_header.FrameHeader.{FrameHeader}
use Rattle.y4m_frames.specs.declared.halt.Halt.{Halt}
use Rattle.y4m_frames.specs.declared.halt.Halt.TheVariants.{Fault, Read, NoMemory}
use Rattle.mv_terms.specs.Ranges.{IsFrameHeader}
use Rattle.y4m_frames.specs.FrameFile.{header_line}
use Rattle.y4m_frames.specs.Header.{file_header}
use Rattle.y4m_frames.specs.Frames.{File, file_limit, frame_len, next_frame, IsFrame, AreFrames, IsHeaderLine, Holds, file_of, behind_frames, frames_left}

-- a reader: the header line, how many frames it handed out, how many bytes more may belong to the file, what it has read
-- ahead, and the error that it answers from now on
pub record Reading : Type 0 where
  pub header : FrameHeader
  pub line : List ℕ
  pub count : ℕ
  pub room : ℕ
  pub ahead : List ℕ
  pub failed : Option Halt

-- what is left of the file: what was read ahead, and what the shelf has left, where it is told
abbrev pub left_of : Reading → Option (List ℕ) → Option (List ℕ)
left_of r rest = prepend_known r.ahead rest

-- The reader stands for so much of a file: its header line and these frames.
pub record StandsFor (r : Reading) (past : List ℕ) (frames : List (List ℕ)) : Type 0 where
  pub behind : List ℕ
  pub parts : past ≡ r.line ++ behind
  pub header : IsHeaderLine r.line r.header
  pub frames_are : AreFrames (frame_len r.header) frames behind
  pub count : r.count ≡ length frames
  pub room : r.room + length past ≡ file_limit

-- Known bytes lost fewer than so many at the front.
pub record TakesFewer (most : ℕ) (old new : Option (List ℕ)) : Type 0 where
  pub taken : List ℕ
  pub consumed : Consumes old new taken
  pub few : length taken < most

-- the start of a reader
pub record Starts (old rest : Option (List ℕ)) (r : Reading) : Type 0 where
  pub consumed : Consumes old (left_of r rest) r.line
  pub stands : StandsFor r r.line []
  pub runs : r.failed ≡ None

-- what the front of a file says where no reader starts: its fault
abbrev pub HasNoHeader : List ℕ → Halt → Type 0
HasNoHeader s (Fault fault) = file_header s ≡ Err fault
HasNoHeader s Read = Unit {0}
HasNoHeader s NoMemory = Unit {0}

-- A frame was handed out: it stands in front of what was left.
pub record Hands (old new : Reading) (rest_old rest_new : Option (List ℕ))
    (samples : List ℕ) : Type 0 where
  pub taken : List ℕ
  pub is : IsFrame (frame_len old.header) taken samples
  pub within : length taken ≤ old.room
  pub consumed : Consumes (left_of old rest_old) (left_of new rest_new) taken
  pub stands : (past : List ℕ) (frames : List (List ℕ)) → StandsFor old past frames
      → StandsFor new (past ++ taken) (frames ++ samples ∷ [])

-- what is left, where no frame is handed out: its end or its fault
abbrev pub next_of : Reading → List ℕ → Result (Option ℕ) FrameFault
next_of r s = next_frame (frame_len r.header) r.count r.room s

abbrev pub NextTells : Reading → List ℕ → Result Bool Halt → Type 0
NextTells r s (Ok true) = Unit {0}
NextTells r s (Ok false) = next_of r s ≡ Ok None
NextTells r s (Err (Fault fault)) = next_of r s ≡ Err fault
NextTells r s (Err Read) = Unit {0}
NextTells r s (Err NoMemory) = ⊥

-- Whatever comes, the frames of the file are those that a reader stands for, and then those of what is left.
abbrev pub StandsForItsFrames : Type 0
StandsForItsFrames =
    (r : Reading) (past : List ℕ) (frames : List (List ℕ)) → StandsFor r past frames
    → (more : List ℕ) →
    file_of (past ++ more)
    ≡ Ok
    (record {
      line = r.line;
      header = r.header;
      frames = behind_frames frames (frames_left (frame_len r.header) r.count r.room more);
    })

-- A frame file is read as what it holds.
abbrev pub FrameFilesAreRead : Type 0
FrameFilesAreRead =
    (bytes line : List ℕ) (h : FrameHeader) (frames : List (List ℕ)) → Holds bytes line h frames →
    file_of bytes
    ≡ Ok (record { line = line; header = h; frames = record { frames = frames; fault = None } })

-- Only a frame file is read without a fault.
abbrev pub OnlyFrameFilesAreRead : Type 0
OnlyFrameFilesAreRead = (bytes line : List ℕ) (h : FrameHeader) (frames : List (List ℕ)) →
    file_of bytes
    ≡ Ok (record { line = line; header = h; frames = record { frames = frames; fault = None } })
    → Holds bytes line h frames

-- What is read of any bytes stands in front of them: a header line, and the frames in front of their end or of their
-- first fault, which lie within the bytes that may belong to a file.
pub record HasInFront (bytes : List ℕ) (file : File) : Type 0 where
  pub taken : List ℕ
  pub rest : List ℕ
  pub parts : bytes ≡ file.line ++ (taken ++ rest)
  pub header : IsHeaderLine file.line file.header
  pub frames_are : AreFrames (frame_len file.header) file.frames.frames taken
  pub within : length file.line + length taken ≤ file_limit

abbrev pub FramesAreInFront : Type 0
FramesAreInFront = (bytes : List ℕ) (file : File) → file_of bytes ≡ Ok file → HasInFront bytes file

-- The header of a header line is legal.
abbrev pub HeadersAreLegal : Type 0
HeadersAreLegal = (line : List ℕ) (h : FrameHeader) → IsHeaderLine line h → IsFrameHeader h

-- The header line that is written is read as its header.
abbrev pub WrittenHeadersAreRead : Type 0
WrittenHeadersAreRead = (h : FrameHeader) → IsFrameHeader h → IsHeaderLine (header_line h) h
