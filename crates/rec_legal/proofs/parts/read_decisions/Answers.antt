use Rattle.std.proofs.Common.{length, take, arith, refl, sym, ◌∙◌}
use Rattle.std.proofs.lemmas.List.{length-set}
use Rattle.rec_legal.proofs.DecisionLemmas.{slots_first, slots_next, slots_stopped, slots_all_read}
use Rattle.rec_legal.proofs.parts.read_decisions.Goals as goal

pub returns-in_default-clause-value : goal.returns-in_default-clause-value
returns-in_default-clause-value c =
    sym (c.slots.invariant.said ∙ slots_stopped (length c.args.decisions.now) c.slots.i (take c.slots.i c.slots.decisions) c.slots.rest.now c.split_at.result.0.now (let t = c.slots-test.true in omega (arith, t)) c.split_at.ensures.front (sym c.read_decision.ensures ∙ c.in_default.is))

pub slots-preserved : goal.slots-preserved
slots-preserved c =
    let t = c.slots-test.true in
    let size = c.slots.invariant.size in
    let left = c.slots.invariant.left in
    let len = c.split_at.ensures.back_len in
    record {
      size = length-set c.slots.decisions c.slots.i c.in-Some.decision ∙ size;
      left = omega (arith, t, left, len);
      said = c.slots.invariant.said ∙ slots_next (length c.args.decisions.now) c.slots.i c.slots.decisions c.slots.rest.now c.split_at.result.0.now c.split_at.result.1.now c.in-Some.decision (omega (arith, t)) (omega (arith, t, size)) c.split_at.ensures.front c.split_at.ensures.back (sym c.read_decision.ensures ∙ c.in-Some.is);
    }

pub slots-init : goal.slots-init
slots-init c = record {
  size = refl;
  left = omega (arith, c.requires);
  said = slots_first (length c.args.decisions.now) c.args.slots.now;
}

pub returns-clause-value : goal.returns-clause-value
returns-clause-value c =
    let t = c.slots-test.false in
    let size = c.slots.invariant.size in
    sym (c.slots.invariant.said ∙ slots_all_read (length c.args.decisions.now) c.slots.i c.slots.decisions c.slots.rest.now (omega (arith, t)) (omega (arith, t, size)))
