use Rattle.std.proofs.Common.{◌*◌, ◌≤◌, arith, subst}
use Rattle.mv_quant.proofs.SizeLemmas.{small_size, own_value}
use Rattle.mv_quant.proofs.level.least_of_value.Goals as goal

pub least_reaching-requires-clause-target : goal.least_reaching-requires-clause-target
least_reaching-requires-clause-target c =
    omega (arith, small_size c.args.odd c.step_of-step.result c.args.m c.requires.odd c.if-step-lt16.true c.requires.m, c.value_size.ensures)

pub returns-else-step-lt16-clause-least : goal.returns-else-step-lt16-clause-least
returns-else-step-lt16-clause-least c =
    let large : 16 ≤ c.step_of-step.result = omega arith in
    λ p h. own_value c.args.odd (c.args.entry * c.args.scale) p c.args.m (subst (λ n. 16 ≤ n) c.step_of-step.ensures.value large) h
