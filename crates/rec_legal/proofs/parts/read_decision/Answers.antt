use Rattle.std.proofs.Common.{arith}
use Rattle.rec_legal.proofs.SlotLaws.{slot_none, slot_some}
use Rattle.rec_legal.proofs.parts.read_decision.Goals as goal

pub returns-in-Some : goal.returns-in-Some
returns-in-Some c =
    slot_some c.slot_law.ensures.written c.slot_law.ensures.one c.args.slot.now c.copy_from_slice.new.self c.in-Some.decision c.requires (λ k. let f = c.type_inv.slot k in omega arith) c.copy_from_slice.ensures.after c.in-Some.ensures c.is_held.ensures

pub returns-in-None : goal.returns-in-None
returns-in-None c =
    slot_none c.slot_law.ensures.written c.slot_law.ensures.one c.args.slot.now c.copy_from_slice.new.self c.requires (λ k. let f = c.type_inv.slot k in omega arith) c.copy_from_slice.ensures.after c.in-None.ensures
