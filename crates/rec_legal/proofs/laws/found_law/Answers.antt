use Rattle.rec_legal.proofs.FoundLaws.{found_is_found, one_record, sealed_is_said, unrecorded_has_none}
use Rattle.rec_legal.proofs.laws.found_law.Goals as goal

pub returns-clause-found : goal.returns-clause-found
returns-clause-found c = found_is_found c.slot_law.ensures.written c.slot_law.ensures.one

pub returns-clause-one : goal.returns-clause-one
returns-clause-one c = one_record c.slot_law.ensures.written c.slot_law.ensures.one

pub returns-clause-sealed : goal.returns-clause-sealed
returns-clause-sealed c = sealed_is_said

pub returns-clause-none : goal.returns-clause-none
returns-clause-none c = unrecorded_has_none c.bury_law.ensures.back c.bury_law.ensures.plain
