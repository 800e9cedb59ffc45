-- What coders by records have in common.
use Rattle.std.proofs.Common.{◌≡◌, true, Option, Some, None, Result, Ok, Err, OnOk, is_some, refl}
use Rattle.rec_legal.specs.FoundRecord.{FoundRecord}
use Rattle.rec_reader.specs.Summaries.{summary_of}

-- what holds anyway holds where a call succeeds
pub holds_on_ok : {T E A : Type 0} (result : Result T E) → A → OnOk result A
holds_on_ok (Ok x) a = a
holds_on_ok (Err x) a = tt

-- a frame that the plan knows a record of has one
pub has_record : (o : Option FoundRecord) → is_some (summary_of o).kind ≡ true → is_some o ≡ true
has_record None e = absurd cc
has_record (Some r) e = refl
