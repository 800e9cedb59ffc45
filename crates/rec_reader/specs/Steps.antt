-- How far a record is found. Nobody needs to believe it: it only carries proofs.
use Rattle.std.specs.Prelude.{◌≡◌, ℕ, List, Some}
use Rattle.mv_terms.specs.declared.frame_header.FrameHeader.{FrameHeader}
use Rattle.mv_terms.specs.declared.macroblock.Decision.{Decision}
use Rattle.rec_sheet.specs.Sheets.{SheetLists, IsSheet}
use Rattle.rec_legal.specs.FoundRecord.{FoundRecord}
use Rattle.rec_legal.specs.Conditions.{file_size}
use Rattle.rec_legal.specs.Found.{found}
use Rattle.rec_reader.specs.declared.parts.Parts.{Parts}

-- a record with these lists of its sheet
abbrev pub record_of : SheetLists → Parts → List Decision → FoundRecord
record_of lists parts decisions = record {
  sheet = lists;
  seal = parts.seal;
  context = parts.context;
  head = parts.head;
  decisions = decisions;
}

-- what is found in a frame of a file has these parts and these decisions, and these bytes are its sheet
pub record AreFound (file : FrameHeader) (frame sheet : List ℕ) (decisions : List Decision)
    (parts : Parts) : Type 0 where
  pub lists : SheetLists
  pub is_sheet : IsSheet lists sheet
  pub is_found : found (file_size file) frame ≡ Some (record_of lists parts decisions)
