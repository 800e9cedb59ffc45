-- What each step of a cut answers. Nobody needs to believe it: it only carries proofs.
use Rattle.std.specs.Prelude.{◌≡◌, ℕ, ◌+◌, ◌==◌, Bool, false, not, nat_le, List, [], ◌++◌, length, take, drop, Option, Some, None, Result, Ok, Err, if◌then◌else◌, Vec}
use Rattle.std.specs.Borrow.{Bor}
use Rattle.std.specs.Io.KnownBytes.{Appends, Keeps}
use Rattle.std.specs.Option.{ForSome}
use Rattle.mv_ends.specs.Moves.{Inputs, input_of, AppendsPart, AppendsFront}
use Rattle.mv_terms.specs.declared.status.Status.{Status}
use Rattle.mv_terms.specs.declared.status.Status.TheVariants as status
use Rattle.mv_terms.specs.declared.status.LineFault.TheVariants as why
use Rattle.mv_terms.specs.declared.frame_header.FrameHeader.{FrameHeader}
use Rattle.y4m_frames.specs.FrameFile.{frame}
use Rattle.y4m_frames.specs.declared.halt.Halt.{Halt}
use Rattle.y4m_frames.specs.declared.halt.Halt.TheVariants as halt
use Rattle.y4m_frames.specs.Reading.{Reading, StandsFor, left_of}
use Rattle.cut_list.specs.declared.entry.Entry.{Entry}
use Rattle.cut_list.specs.declared.list.ListFault.{ListFault}
use Rattle.cut_list.specs.declared.list.ListFault.TheVariants as list_fault
use Rattle.cut_list.specs.declared.copy.Stop.{Stop}
use Rattle.cut_list.specs.declared.copy.Stop.TheVariants as stop
use Rattle.cut_list.specs.declared.line.Halted.{Halted}
use Rattle.cut_list.specs.declared.line.Halted.TheVariants as halted
use Rattle.cut_list.specs.List.{entries_of, lines_of, is_end, line_len}
use Rattle.cut_list.specs.Cut.{Listed, text_of, line_fault, Given, same_kind, Cut, cut_of, cut_from}

-- a list was read
abbrev pub ReadsList : {Z : Type 0} → List ℕ → Result (Vec Entry Z) ListFault → Type 0
ReadsList bytes (Ok entries) = entries_of bytes ≡ Ok entries.items
ReadsList bytes (Err (list_fault.BadLine n)) = entries_of bytes ≡ Err n
ReadsList bytes (Err list_fault.NoMemory) = Unit {0}

abbrev pub words_now : Option (Bor (List ℕ) × Bor (List ℕ) × Bor (List ℕ))
    → Option (List ℕ × List ℕ × List ℕ)
words_now None = None
words_now (Some words) = Some (words.0.now, words.1.now, words.2.now)

abbrev pub name_now : Option (Bor (List ℕ)) → Option (List ℕ)
name_now None = None
name_now (Some name) = Some name.now

abbrev pub entry_now : Option (Bor (List ℕ) × ℕ × ℕ) → Option Entry
entry_now None = None
entry_now (Some said) = Some (record { name = said.0.now; from = said.1; to = said.2 })

-- the lines of what is left of a list
abbrev pub lines_left : Option (Bor (List ℕ)) → List (List ℕ)
lines_left None = []
lines_left (Some text) = lines_of text.now

abbrev pub end_of : List ℕ → Option (Bor (List ℕ)) → Bool
end_of line more = is_end line (lines_left more)

abbrev pub len_of : List ℕ → Option (Bor (List ℕ)) → ℕ
len_of line more = line_len line (lines_left more)

-- entries behind those that were read
abbrev pub behind : List Entry → Result (List Entry) ℕ → Result (List Entry) ℕ
behind done (Ok entries) = Ok (done ++ entries)
behind done (Err n) = Err n

-- a frame, behind the opening where it is the first
abbrev pub piece : Bool → List ℕ → List ℕ → List ℕ
piece first opening samples = (if first then opening else []) ++ frame samples

-- what is written of frame `count`
abbrev pub listed_piece : ℕ → ℕ → List ℕ → List ℕ → List ℕ
listed_piece from count opening samples =
    if nat_le from count then piece (count == from) opening samples else []

abbrev pub Copies : List ℕ → Listed → Option (List ℕ) → Option (List ℕ) → Result (Unit {0}) Stop
    → Type 0
Copies opening l old new (Ok _) = (l.fault ≡ None) × Appends old new (text_of opening l.frames)
Copies opening l old new (Err (stop.Fault fault)) =
    (l.fault ≡ Some fault) × Appends old new (text_of opening l.frames)
Copies opening l old new (Err stop.Read) = AppendsPart old new (text_of opening l.frames)
Copies opening l old new (Err stop.Write) = AppendsFront old new (text_of opening l.frames)

abbrev pub stop_of : Halt → Stop
stop_of (halt.Fault fault) = stop.Fault (line_fault (Some fault))
stop_of halt.Read = stop.Read
stop_of halt.NoMemory = stop.Read

-- What was copied so far of an input that begins with `begun` and goes on with `left`.
pub record Copied (from : ℕ) (opening : List ℕ) (r : Reading) (rest : Option (List ℕ)) (count : ℕ)
    (old new : Option (List ℕ)) (begun left : List ℕ) : Type 0 where
  pub past : List ℕ
  pub done : List (List ℕ)
  pub behind : List ℕ
  pub stands : StandsFor r past done
  pub left_is : left_of r rest ≡ Some behind
  pub whole : begun ++ left ≡ past ++ behind
  pub count_is : length done ≡ count
  pub written : Appends old new (text_of opening (drop from done))

-- output that grew
abbrev pub Grows : Option (List ℕ) → Option (List ℕ) → Type 0
Grows old new = (bytes : List ℕ) × Appends old new bytes

-- How a line ends, of which this is given, and behind which line 1's input has this header.
abbrev pub LineEnds : Given → Option FrameHeader → Option (List ℕ) → Option (List ℕ)
    → Result FrameHeader Halted → Type 0
LineEnds g next old new (Ok header) =
    (g.fault ≡ None) × (next ≡ Some header) × Appends old new g.text
LineEnds g next old new (Err (halted.Fault fault)) = (g.fault ≡ Some fault) × Appends old new g.text
LineEnds g next old new (Err halted.Open) = Keeps old new
LineEnds g next old new (Err halted.Read) = AppendsPart old new g.text
LineEnds g next old new (Err halted.Write) = AppendsFront old new g.text
LineEnds g next old new (Err halted.NoMemory) = Keeps old new

abbrev pub differs : Option FrameHeader → FrameHeader → Bool
differs None header = false
differs (Some first) header = not (same_kind first header)

abbrev pub kind_of : Option FrameHeader → FrameHeader → FrameHeader
kind_of None header = header
kind_of (Some first) header = first

abbrev pub opening_of : Option FrameHeader → List ℕ → List ℕ
opening_of None line = line
opening_of (Some first) line = []

abbrev pub not_started : Halt → Halted
not_started (halt.Fault fault) = halted.Fault (why.Frames fault)
not_started halt.Read = halted.Read
not_started halt.NoMemory = halted.NoMemory

abbrev pub halted_of : Stop → Halted
halted_of (stop.Fault fault) = halted.Fault fault
halted_of stop.Read = halted.Read
halted_of stop.Write = halted.Write

-- the status of a line that was not written whole
abbrev pub halted_status : ℕ → Halted → Status
halted_status line (halted.Fault fault) = status.Line line fault
halted_status line halted.Open = status.OpenFault
halted_status line halted.Read = status.ReadFault
halted_status line halted.Write = status.WriteFault
halted_status line halted.NoMemory = status.NoMemory

-- No entries were read: a line is refused, or an endpoint failed, or there was no memory.
abbrev pub IsUnlisted : Option Inputs → List ℕ → Status → Type 0
IsUnlisted named list (status.Line n fault) =
    (fault ≡ why.BadLine) × ForSome named (λ inputs. entries_of (input_of inputs list) ≡ Err n)
IsUnlisted named list status.OpenFault = Unit {0}
IsUnlisted named list status.ReadFault = Unit {0}
IsUnlisted named list status.NoMemory = Unit {0}
IsUnlisted named list other = ⊥

-- A cut behind what was written so far.
abbrev pub onto : List ℕ → Cut → Cut
onto text cut = record { text = text ++ cut.text; fault = cut.fault }

-- What was written of a cut so far: the lines before line i, counted from 0, whatever lines follow.
pub record CutSoFar (input : List ℕ → List ℕ) (entries : List Entry) (i : ℕ)
    (first : Option FrameHeader) (old new : Option (List ℕ)) : Type 0 where
  pub text : List ℕ
  pub whole : (more : List Entry)
      → cut_of input (take i entries ++ more) ≡ onto text (cut_from input first (i + 1) more)
  pub written : Appends old new text
