-- The record that is found in a frame: what its sheet says, its seal, and what its bytes are read as.
use Rattle.std.specs.Prelude.{ℕ, List}
use Rattle.mv_terms.specs.declared.head.Context.{Context}
use Rattle.mv_terms.specs.declared.head.Head.{Head}
use Rattle.mv_terms.specs.declared.macroblock.Decision.{Decision}
use Rattle.rec_sheet.specs.Sheets.{SheetLists}

-- The sequence part in the sheet reads as the context, its head under this context as the head, and the slots as the
-- decisions.
pub record FoundRecord : Type 0 where
  pub sheet : SheetLists
  pub seal : List ℕ
  pub context : Context
  pub head : Head
  pub decisions : List Decision
