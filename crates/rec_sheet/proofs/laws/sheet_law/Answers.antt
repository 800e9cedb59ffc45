use Rattle.rec_sheet.proofs.PlaceLemmas.{places_are_written}
use Rattle.rec_sheet.proofs.OneLemmas.{one_sheet}
use Rattle.rec_sheet.proofs.laws.sheet_law.Goals as goal

pub returns : goal.returns
returns c = record { places = places_are_written; one = one_sheet }
