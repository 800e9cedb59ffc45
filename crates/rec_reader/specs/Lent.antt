-- A record with its decisions, as a reader lends them.
use Rattle.rec_legal.specs.FoundRecord.{FoundRecord}
use Rattle.rec_legal.specs.Lent.{lent_record}
use Rattle.rec_reader.specs.declared.reader.Found.{Found}

abbrev pub lent_found : Found → FoundRecord
lent_found f = lent_record f.record f.decisions.now
