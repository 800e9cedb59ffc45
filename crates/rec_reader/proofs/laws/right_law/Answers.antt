use Rattle.rec_bury.specs.Exhumed.{slots_in, sheet_in}
use Rattle.rec_reader.proofs.laws.right_law.Goals as goal

pub returns : goal.returns
returns c = λ size frame r e.
    (slots_in size.mb_wide size.mb_high frame, sheet_in size.mb_wide size.mb_high frame, ((c.found_law.ensures.found size frame r).0 e).is_said)
