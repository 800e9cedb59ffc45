-- What `cut` writes for a list, and how it ends.
use Rattle.std.specs.Prelude.{◌≡◌, ◌⊎◌, ⊤, slice_get, ℕ, ◌+◌, ◌-◌, ◌==◌, ◌&&◌, nat_lt, not, Bool, true, false, List, [], ◌∷◌, ◌++◌, length, take, drop, Option, Some, None, Result, Ok, Err, if◌then◌else◌}
use Rattle.std.specs.List.{flat_map}
use Rattle.std.specs.Io.KnownBytes.{Appends, Keeps}
use Rattle.std.specs.Option.{ForSome}
use Rattle.mv_ends.specs.Causes.{Rose}
use Rattle.mv_ends.specs.Ends.{Outcome}
use Rattle.mv_ends.specs.Moves.{Inputs, input_of, AppendsPart}
use Rattle.mv_ends.specs.Told.{ShelfTold, SinkTold}
use Rattle.mv_terms.specs.declared.status.FrameFault.{FrameFault}
use Rattle.mv_terms.specs.declared.status.FrameFault.TheVariants.{NoFrames}
use Rattle.mv_terms.specs.declared.status.LineFault.{LineFault}
use Rattle.mv_terms.specs.declared.status.LineFault.TheVariants.{BadLine, Differs, ShortInput}
use Rattle.mv_terms.specs.declared.status.LineFault.TheVariants as why
use Rattle.mv_terms.specs.declared.status.Status.{Status}
use Rattle.mv_terms.specs.declared.status.Status.TheVariants as status
use Rattle.mv_terms.specs.declared.frame_header.FrameHeader.{FrameHeader}
use Rattle.y4m_frames.specs.FrameFile.{frame}
use Rattle.y4m_frames.specs.Frames.{Frames, File, file_of}
use Rattle.cut_list.specs.List.{entries_of}
use Rattle.cut_list.specs.declared.entry.Entry.{Entry}

-- What one line gives: the listed frames, and its fault, if it has one.
pub record Listed : Type 0 where
  pub frames : List (List ℕ)
  pub fault : Option LineFault

-- the end of its input, or the fault that ends its frames
abbrev pub line_fault : Option FrameFault → LineFault
line_fault None = ShortInput
line_fault (Some NoFrames) = ShortInput
line_fault (Some fault) = why.Frames fault

-- the frames FROM to TO; a fault behind TO isn't looked at
abbrev pub listed : ℕ → ℕ → Frames → Listed
listed from to f = record {
  frames = take (to + 1 - from) (drop from f.frames);
  fault = if nat_lt to (length f.frames) then None else Some (line_fault f.fault);
}

abbrev pub same_flag : Bool → Bool → Bool
same_flag true b = b
same_flag false b = not b

abbrev pub same_kind : FrameHeader → FrameHeader → Bool
same_kind a b = a.wide == b.wide && a.high == b.high && same_flag a.progressive b.progressive

abbrev pub listed_as : Bool → ℕ → ℕ → Frames → Listed
listed_as true from to f = listed from to f
listed_as false from to f = record { frames = []; fault = Some Differs }

-- what a line gives behind line 1, whose input has this header
abbrev pub line_by : FrameHeader → ℕ → ℕ → Result File FrameFault → Listed
line_by first from to (Err fault) = record { frames = []; fault = Some (why.Frames fault) }
line_by first from to (Ok file) = listed_as (same_kind first file.header) from to file.frames

-- the opening stands before the first frame, where there is one
abbrev pub text_of : List ℕ → List (List ℕ) → List ℕ
text_of opening [] = []
text_of opening (f ∷ frames) = opening ++ flat_map frame (f ∷ frames)

-- What a line gives: the listed frames behind the header line of line 1's input, and its fault.
pub record Given : Type 0 where
  pub text : List ℕ
  pub fault : Option LineFault

abbrev pub given : List ℕ → Listed → Given
given opening l = record { text = text_of opening l.frames; fault = l.fault }

-- of line 1, and of one behind a line 1 whose input has this header
abbrev pub line_given : Option FrameHeader → ℕ → ℕ → Result File FrameFault → Given
line_given None from to (Err fault) = record { text = []; fault = Some (why.Frames fault) }
line_given None from to (Ok file) = given file.line (listed from to file.frames)
line_given (Some first) from to r = given [] (line_by first from to r)

-- the header of line 1's input
abbrev pub first_header : Option FrameHeader → Result File FrameFault → Option FrameHeader
first_header (Some first) r = Some first
first_header None (Ok file) = Some file.header
first_header None (Err fault) = None

-- Text and end of a cut: what is written, and the first line that is refused, with its fault.
pub record Cut : Type 0 where
  pub text : List ℕ
  pub fault : Option (ℕ × LineFault)

-- a line that is refused ends the cut
abbrev pub cut_with : ℕ → List ℕ → Option LineFault → Cut → Cut
cut_with n text None others = record { text = text ++ others.text; fault = others.fault }
cut_with n text (Some fault) others = record { text = text; fault = Some (n, fault) }

abbrev pub cut_by : ℕ → Given → Cut → Cut
cut_by n g others = cut_with n g.text g.fault others

-- lines n and on, where line 1's input has this header, if one was read
unfoldable pub cut_from : (List ℕ → List ℕ) → Option FrameHeader → ℕ → List Entry → Cut
cut_from input first n [] = record { text = []; fault = None }
cut_from input first n (e ∷ entries) =
    cut_by n (line_given first e.from e.to (file_of (input e.name)))
    (cut_from input (first_header first (file_of (input e.name))) (n + 1) entries)

abbrev pub cut_of : (List ℕ → List ℕ) → List Entry → Cut
cut_of input entries = cut_from input None 1 entries

abbrev pub status_of : Option (ℕ × LineFault) → Status
status_of None = status.Done
status_of (Some (n, fault)) = status.Line n fault

-- What `cut` answers and writes. Input 0 is the list, input n that of line n. What was read is a front of the text.
abbrev pub outcome_by : (List ℕ → List ℕ) → Result (List Entry) ℕ → Outcome Status
outcome_by input (Err n) =
    record { answer = status.Line n BadLine; output = []; at_open = λ k. []; given = λ k. [] }
outcome_by input (Ok entries) = record {
  answer = status_of (cut_of input entries).fault;
  output = (cut_of input entries).text;
  at_open = λ k. (cut_of input (take (k - 1) entries)).text;
  given = λ k. (cut_of input entries).text;
}

abbrev pub cut_outcome : Inputs → List ℕ → Outcome Status
cut_outcome inputs list = outcome_by (input_of inputs) (entries_of (input_of inputs list))

-- The statuses that `cut` ends with, whatever its inputs are.
abbrev pub IsCutStatus : Status → Type 0
IsCutStatus status.Words = ⊥
IsCutStatus (status.Unit count why) = ⊥
IsCutStatus (status.Frames fault) = ⊥
IsCutStatus other = ⊤

-- The faults of the input of a line rose, counted by name; the lines are counted from 0.
pub record RoseAt (entries : List Entry) (line : ℕ) (before now : List ℕ → ℕ) : Type 0 where
  pub entry : Entry
  pub entry_is : slice_get entries line ≡ Some entry
  pub rose : Rose (before entry.name) (now entry.name)

-- An input of a line couldn't be opened: its faults rose, and the output of the lines before it is written.
abbrev pub FailsToOpenLine : List Entry → ShelfTold → ShelfTold → SinkTold → SinkTold → Type 0
FailsToOpenLine entries old new before after =
    (line : ℕ) × RoseAt entries line old.open_faults new.open_faults
    × ForSome old.named
    (λ inputs.
    Appends before.written after.written (cut_of (input_of inputs) (take line entries)).text)

-- An input of a line couldn't be read: its faults rose, and no more than the output up to this line is written.
abbrev pub FailsToReadLine : List Entry → ShelfTold → ShelfTold → SinkTold → SinkTold → Type 0
FailsToReadLine entries old new before after =
    (line : ℕ) × RoseAt entries line old.read_faults new.read_faults
    × ForSome old.named
    (λ inputs.
    AppendsPart before.written after.written
    (cut_of (input_of inputs) (take (line + 1) entries)).text)

-- the entries are those of the list of this name, where the inputs are told
abbrev pub AreListed : Option Inputs → List ℕ → List Entry → Type 0
AreListed named list entries =
    ForSome named (λ inputs. entries_of (input_of inputs list) ≡ Ok entries)

-- The list couldn't be opened, or the input of one of its lines.
abbrev pub FailsToOpenCut : List ℕ → ShelfTold → ShelfTold → SinkTold → SinkTold → Type 0
FailsToOpenCut list old new before after =
    (Rose (old.open_faults list) (new.open_faults list) × Keeps before.written after.written)
    ⊎ ((entries : List Entry) × AreListed old.named list entries
    × FailsToOpenLine entries old new before after)

-- The list couldn't be read, or the input of one of its lines.
abbrev pub FailsToReadCut : List ℕ → ShelfTold → ShelfTold → SinkTold → SinkTold → Type 0
FailsToReadCut list old new before after =
    (Rose (old.read_faults list) (new.read_faults list) × Keeps before.written after.written)
    ⊎ ((entries : List Entry) × AreListed old.named list entries
    × FailsToReadLine entries old new before after)
