-- A record as a program lends it.
use Rattle.std.specs.Prelude.{List}
use Rattle.mv_terms.specs.declared.macroblock.Decision.{Decision}
use Rattle.rec_sheet.specs.Sheets.{lent_sheet}
use Rattle.rec_legal.specs.declared.record.Record.{Record}
use Rattle.rec_legal.specs.FoundRecord.{FoundRecord}

-- the lists that are lent, with these decisions
abbrev pub lent_record : Record → List Decision → FoundRecord
lent_record r decisions = record {
  sheet = lent_sheet r.sheet;
  seal = r.seal;
  context = r.context;
  head = r.head;
  decisions = decisions;
}
