-- How a line ends.
use Rattle.std.proofs.Common.{◌≡◌, ℕ, Bool, true, false, not, List, [], ◌++◌, take, drop, refl, sym, ap, ◌∙◌, subst, Option, Some, None, Result, Ok, Err}
use Rattle.std.proofs.KnownBytes.{Appends-nil, Keeps-refl}
use Rattle.mv_ends.specs.Moves.{Inputs, Opens, input_of}
use Rattle.mv_ends.proofs.Parts.{none_of}
use Rattle.mv_terms.specs.declared.status.FrameFault.{FrameFault}
use Rattle.mv_terms.specs.declared.frame_header.FrameHeader.{FrameHeader}
use Rattle.y4m_frames.specs.declared.halt.Halt.{Halt}
use Rattle.y4m_frames.specs.declared.halt.Halt.TheVariants as halts
use Rattle.y4m_frames.specs.Header.{file_header, header_limit}
use Rattle.y4m_frames.specs.Lines.{line_within}
use Rattle.y4m_frames.specs.Frames.{File, file_of, file_by, line_len, behind_frames, frames_left, frame_len}
use Rattle.y4m_frames.specs.Reading.{Reading, Starts, HasNoHeader, left_of}
use Rattle.y4m_frames.proofs.FileLaws.{stands_for_its_frames}
use Rattle.mv_terms.specs.declared.status.LineFault.TheVariants.{Differs}
use Rattle.cut_list.specs.declared.copy.Stop.{Stop}
use Rattle.cut_list.specs.declared.copy.Stop.TheVariants as stop
use Rattle.cut_list.specs.declared.line.Halted.TheVariants as halted
use Rattle.cut_list.specs.Cut.{Listed, listed, listed_as, same_kind, Given, given, line_given, first_header}
use Rattle.cut_list.specs.Steps.{Copies, LineEnds, kind_of, differs, opening_of, not_started, halted_of}
use Rattle.cut_list.proofs.CopyExits.{behind_of}

pub opened_is : (named : Option Inputs) (rest : Option (List ℕ)) (inputs : Inputs) (name : List ℕ) → named ≡ Some inputs → Opens named name rest → rest ≡ Some (input_of inputs name)
opened_is named None inputs name e h = absurd (subst (λ (o : Option Inputs). Opens o name None) e h)
opened_is named (Some bytes) inputs name e h = ap (λ b. Some b) (subst (λ (o : Option Inputs). Opens o name (Some bytes)) e h)

bad_file : (s : List ℕ) (fault : FrameFault) → file_header s ≡ Err fault → file_of s ≡ Err fault
unfolding file_of
bad_file s fault h = ap (λ r. file_by r (take (line_len (line_within header_limit s)) s) (drop (line_len (line_within header_limit s)) s)) h

no_start : (next first : Option FrameHeader) (from to : ℕ) (fault : FrameFault) (old : Option (List ℕ)) → LineEnds (line_given first from to (Err fault)) next old old (Err (not_started (halts.Fault fault)))
no_start next None from to fault old = (refl, Appends-nil old)
no_start next (Some f) from to fault old = (refl, Appends-nil old)

pub ends_unstarted : (next first : Option FrameHeader) (from to : ℕ) (input : List ℕ) (halt : Halt) (old : Option (List ℕ)) → HasNoHeader input halt → LineEnds (line_given first from to (file_of input)) next old old (Err (not_started halt))
ends_unstarted next first from to input (halts.Fault fault) old h =
    subst (λ (r : Result File FrameFault). LineEnds (line_given first from to r) next old old (Err (not_started (halts.Fault fault)))) (sym (bad_file input fault h)) (no_start next first from to fault old)
ends_unstarted next first from to input halts.Read old h = none_of old old (line_given first from to (file_of input)).text (Keeps-refl old)
ends_unstarted next first from to input halts.NoMemory old h = Keeps-refl old

-- the file that a reader has just begun
pub record Begun (input : List ℕ) (r : Reading) (rest : Option (List ℕ)) : Type 0 where
  pub left : List ℕ
  pub left_is : left_of r rest ≡ Some left
  pub whole : input ≡ r.line ++ left
  pub file : File
  pub header_is : file.header ≡ r.header
  pub line_is : file.line ≡ r.line
  pub is : file_of (r.line ++ left) ≡ Ok file

pub begun : (input : List ℕ) (old rest : Option (List ℕ)) (r : Reading) → old ≡ Some input → Starts old rest r → Begun input r rest
begun input old rest r told s =
    let b = behind_of old (left_of r rest) r.line input told s.consumed in
    record {
      left = b.0;
      left_is = b.1;
      whole = b.2;
      file = record { line = r.line; header = r.header; frames = behind_frames [] (frames_left (frame_len r.header) r.count r.room b.0) };
      header_is = refl;
      line_is = refl;
      is = stands_for_its_frames r r.line [] s.stands b.0;
    }

-- a line that differs
other_kind : (next first : Option FrameHeader) (from to : ℕ) (file : File) (old : Option (List ℕ)) → differs first file.header ≡ true → LineEnds (line_given first from to (Ok file)) next old old (Err (halted.Fault Differs))
other_kind next None from to file old h = cc
other_kind next (Some f) from to file old h =
    subst (λ b. LineEnds (given [] (listed_as b from to file.frames)) next old old (Err (halted.Fault Differs))) (sym (not_same (same_kind f file.header) h)) (refl, Appends-nil old)
  where
    not_same : (b : Bool) → not b ≡ true → b ≡ false
    not_same true e = cc
    not_same false e = refl

pub ends_differs : (next first : Option FrameHeader) (from to : ℕ) (input : List ℕ) (r : Reading) (rest old : Option (List ℕ)) (b : Begun input r rest) → differs first r.header ≡ true →
    LineEnds (line_given first from to (file_of input)) next old old (Err (halted.Fault Differs))
ends_differs next first from to input r rest old b h =
    subst (λ (x : Result File FrameFault). LineEnds (line_given first from to x) next old old (Err (halted.Fault Differs))) (sym (ap file_of b.whole ∙ b.is))
    (other_kind next first from to b.file old (ap (differs first) b.header_is ∙ h))

same_line : (first : Option FrameHeader) (from to : ℕ) (file : File) → differs first file.header ≡ false → line_given first from to (Ok file) ≡ given (opening_of first file.line) (listed from to file.frames)
same_line None from to file h = refl
same_line (Some f) from to file h = ap (λ b. given [] (listed_as b from to file.frames)) (same (same_kind f file.header) h)
  where
    same : (b : Bool) → not b ≡ false → b ≡ true
    same true e = refl
    same false e = cc

line_is_given : (first : Option FrameHeader) (from to : ℕ) (input : List ℕ) (r : Reading) (rest : Option (List ℕ)) (b : Begun input r rest) → differs first r.header ≡ false →
    line_given first from to (file_of input) ≡ given (opening_of first r.line) (listed from to b.file.frames)
line_is_given first from to input r rest b h =
    ap (line_given first from to) (ap file_of b.whole ∙ b.is) ∙ same_line first from to b.file (ap (differs first) b.header_is ∙ h)
    ∙ ap (λ x. given (opening_of first x) (listed from to b.file.frames)) b.line_is

same_header : (first : Option FrameHeader) (file : File) → first_header first (Ok file) ≡ Some (kind_of first file.header)
same_header None file = refl
same_header (Some f) file = refl

pub ends_copied : (first : Option FrameHeader) (from to : ℕ) (input : List ℕ) (r : Reading) (rest old new : Option (List ℕ)) (b : Begun input r rest) (header : FrameHeader) → header ≡ kind_of first r.header → differs first r.header ≡ false →
    Copies (opening_of first r.line) (listed from to b.file.frames) old new (Ok tt) → LineEnds (line_given first from to (file_of input)) (first_header first (file_of input)) old new (Ok header)
ends_copied first from to input r rest old new b header e h c =
    let next : first_header first (file_of input) ≡ Some header =
    ap (first_header first) (ap file_of b.whole ∙ b.is) ∙ same_header first b.file ∙ ap (λ x. Some (kind_of first x)) b.header_is ∙ ap (λ x. Some x) (sym e) in
    subst (λ (g : Given). LineEnds g (first_header first (file_of input)) old new (Ok header)) (sym (line_is_given first from to input r rest b h)) (c.0, next, c.1)

stop_ends : (next : Option FrameHeader) (opening : List ℕ) (l : Listed) (old new : Option (List ℕ)) (s : Stop) → Copies opening l old new (Err s) → LineEnds (given opening l) next old new (Err (halted_of s))
stop_ends next opening l old new (stop.Fault f) c = c
stop_ends next opening l old new stop.Read c = c
stop_ends next opening l old new stop.Write c = c

pub ends_stopped : (next first : Option FrameHeader) (from to : ℕ) (input : List ℕ) (r : Reading) (rest old new : Option (List ℕ)) (b : Begun input r rest) (s : Stop) → differs first r.header ≡ false →
    Copies (opening_of first r.line) (listed from to b.file.frames) old new (Err s) → LineEnds (line_given first from to (file_of input)) next old new (Err (halted_of s))
ends_stopped next first from to input r rest old new b s h c =
    subst (λ (g : Given). LineEnds g next old new (Err (halted_of s))) (sym (line_is_given first from to input r rest b h)) (stop_ends next (opening_of first r.line) (listed from to b.file.frames) old new s c)
