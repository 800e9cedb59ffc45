-- What is promised of found records.
use Rattle.std.specs.Prelude.{◌≡◌, ◌↔◌, ℕ, List, None, Some}
use Rattle.mv_terms.specs.declared.head.Head.{Head}
use Rattle.mv_terms.specs.declared.macroblock.Decision.{Decision}
use Rattle.mv_terms.specs.declared.macroblock.MacroLevels.{MacroLevels}
use Rattle.mv_terms.specs.Ranges.{IsContext, IsHead}
use Rattle.mv_planes.specs.Planes.{Planes, IsWhole}
use Rattle.mv_heads.specs.declared.sequence_header.CodedSize.{CodedSize}
use Rattle.mv_vectors.specs.Predictable.{AllCanBeReconstructed}
use Rattle.mv_macro.specs.Legal.{AreLegalDecisions, AreLegalLevels}
use Rattle.mv_slices.specs.CanonicalLaws.{IsLegalPicture}
use Rattle.rec_bury.specs.FrameBytes.{unrecorded}
use Rattle.rec_bury.specs.Seals.{SealHolds}
use Rattle.rec_bury.specs.Exhumed.{slots_in, sheet_in}
use Rattle.rec_legal.specs.FoundRecord.{FoundRecord}
use Rattle.rec_legal.specs.Conditions.{IsSaid}
use Rattle.rec_legal.specs.Said.{said}
use Rattle.rec_legal.specs.Found.{IsFound, found}

-- LAWS: the record that is found is the one that meets all conditions, and nothing is found where none does;
abbrev pub FoundIsFound : Type 0
FoundIsFound =
    (size : CodedSize) (frame : List ℕ) (r : FoundRecord)
    → (found size frame ≡ Some r) ↔ IsFound size frame r

-- so a frame has one record at most;
abbrev pub OneRecord : Type 0
OneRecord =
    (size : CodedSize) (frame : List ℕ) (r other : FoundRecord)
    → IsFound size frame r → IsFound size frame other → r ≡ other

-- where the seal holds, it is what its slots and its sheet say;
abbrev pub SealedIsSaid : Type 0
SealedIsSaid =
    (size : CodedSize) (frame : List ℕ) → SealHolds size.mb_wide size.mb_high frame
    → found size frame ≡ said size (slots_in size.mb_wide size.mb_high frame)
    (sheet_in size.mb_wide size.mb_high frame)

-- and a frame without a record has none.
abbrev pub UnrecordedHasNone : Type 0
UnrecordedHasNone =
    (size : CodedSize) (picture : Planes) → IsWhole picture
    → size.mb_wide ≡ picture.mb_wide → size.mb_high ≡ picture.mb_high
    → found size (unrecorded picture) ≡ None

-- LAW: what legal decisions say can be predicted, requantised and reconstructed;
abbrev pub LegalCanBeReconstructed : Type 0
LegalCanBeReconstructed = (head : Head) (decisions : List Decision) →
    AreLegalDecisions head decisions → AllCanBeReconstructed head decisions

-- the context and the head of a record are legal, and of the size of the frame;
pub record HasLegalHeaders (size : CodedSize) (r : FoundRecord) : Type 0 where
  pub context : IsContext r.context
  pub head : IsHead r.head
  pub wide : r.head.mb_wide ≡ size.mb_wide
  pub high : r.head.mb_high ≡ size.mb_high

abbrev pub SaidIsLegal : Type 0
SaidIsLegal = (size : CodedSize) (slots sheet : List ℕ) (r : FoundRecord) →
    IsSaid size slots sheet r → HasLegalHeaders size r

-- and slices can be written by it, with levels that can be coded.
abbrev pub SaidCanBeWritten : Type 0
SaidCanBeWritten =
    (size : CodedSize) (slots sheet : List ℕ) (r : FoundRecord) (levels : List MacroLevels)
    → IsSaid size slots sheet r → AreLegalLevels r.head r.decisions levels
    → IsLegalPicture r.head r.decisions levels
