use Rattle.std.proofs.Common.{◌≡◌, [], Option, sym, subst}
use Rattle.mv_terms.specs.UnitLists.{lent_unit}
use Rattle.job_decode.specs.declared.work.Work.{Work}
use Rattle.job_decode.specs.Steps.{WorkStands}
use Rattle.job_decode.proofs.Works.{step_behind, first_step, may_take, may_start, is_first}
use Rattle.job_decode.proofs.work.take_unit.Goals as goal

pub returns-in-Some-clause-steps : goal.returns-in-Some-clause-steps
returns-in-Some-clause-steps g c before stands =
    let here = subst (λ (w : Option Work). WorkStands w before) c.in-Some.is stands in
    step_behind c.step.new.work before (lent_unit c.args.unit.now) (g.O.Sink.told c.args.out.now).written (g.O.Sink.told c.step.new.out).written c.step.result here.1
    (c.step.ensures.steps before (may_take c.in-Some.work before (lent_unit c.args.unit.now) here) (sym here.1))

pub returns-in_ok-step-in-None-clause-steps : goal.returns-in_ok-step-in-None-clause-steps
returns-in_ok-step-in-None-clause-steps g c before stands =
    let none : before ≡ [] = subst (λ (w : Option Work). WorkStands w before) c.in-None.is stands in
    first_step c.step-in-None.new.work before (lent_unit c.args.unit.now) (g.O.Sink.told c.args.out.now).written (g.O.Sink.told c.step-in-None.new.out).written
    (c.in_ok-step-in-None.ensures.steps before (may_start c.in_ok-first-in-None.first before (lent_unit c.args.unit.now) none c.in_ok-first-in-None.ensures.started) (is_first before none))
