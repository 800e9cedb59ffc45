use Rattle.rec_slot.proofs.OneLemmas.{one_decision}
use Rattle.rec_slot.proofs.laws.slot_law.Goals as goal

pub returns-clause-one : goal.returns-clause-one
returns-clause-one c = one_decision
