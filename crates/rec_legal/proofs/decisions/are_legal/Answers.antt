use Rattle.std.proofs.Common.{arith, sym, ◌∙◌}
use Rattle.rec_legal.proofs.DecisionLemmas.{legal_more, legal_not, legal_all}
use Rattle.rec_legal.proofs.decisions.are_legal.Goals as goal

pub returns-then-not-is_legal_at : goal.returns-then-not-is_legal_at
returns-then-not-is_legal_at c =
    sym (c.decisions.invariant ∙ legal_not c.args.head.now c.args.decisions.now c.decisions.place _ c.decisions.past (let t = c.decisions-test.true in omega (arith, t)) c.past_in_slice-past.result c.ends_slice-last.result c.is_legal_at.result
    c.past_in_slice-past.ensures c.ends_slice-last.ensures c.is_legal_at.ensures c.if-not-is_legal_at.true)

pub decisions-preserved : goal.decisions-preserved
decisions-preserved c =
    c.decisions.invariant ∙ legal_more c.args.head.now c.args.decisions.now c.decisions.place _ c.decisions.past (let t = c.decisions-test.true in omega (arith, t)) c.past_in_slice-past.result c.ends_slice-last.result c.is_legal_at.result
    c.past_in_slice-past.ensures c.ends_slice-last.ensures c.is_legal_at.ensures c.past_behind-past.result c.past_behind-past.ensures c.if-not-is_legal_at.false

pub returns : goal.returns
returns c = sym (c.decisions.invariant ∙ legal_all c.args.head.now c.args.decisions.now c.decisions.place c.decisions.past (let t = c.decisions-test.false in omega (arith, t)))
