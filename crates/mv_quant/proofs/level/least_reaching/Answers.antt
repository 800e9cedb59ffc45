use Rattle.std.proofs.Common.{◌≡◌, ◌+◌, ◌-◌, ◌*◌, ◌/◌, ◌<◌, arith, ap, ◌∙◌, subst}
use Rattle.mv_quant.proofs.SizeLemmas.{reached, reached_least}
use Rattle.mv_quant.proofs.level.least_reaching.Goals as goal

pub returns-clause-reaches : goal.returns-clause-reaches
returns-clause-reaches c =
    let step_is = c.step_of.ensures.value in
    let count_is : c.quotient_by_step-count.result ≡ (32 * c.args.target + c.args.entry * c.args.scale - 1) / (c.args.entry * c.args.scale) =
    c.quotient_by_step-count.ensures ∙ ap (λ n. (32 * c.args.target + n - 1) / (c.args.entry * c.args.scale)) step_is in
    let some : 0 < c.args.entry * c.args.scale = subst (λ n. 0 < n) step_is c.step_of.ensures.range.0 in
    reached c.args.odd (c.args.entry * c.args.scale) c.args.target c.max.result (omega arith) some (omega (arith, count_is))

pub returns-clause-least : goal.returns-clause-least
returns-clause-least c =
    let step_is = c.step_of.ensures.value in
    let count_is : c.quotient_by_step-count.result ≡ (32 * c.args.target + c.args.entry * c.args.scale - 1) / (c.args.entry * c.args.scale) =
    c.quotient_by_step-count.ensures ∙ ap (λ n. (32 * c.args.target + n - 1) / (c.args.entry * c.args.scale)) step_is in
    let some : 0 < c.args.entry * c.args.scale = subst (λ n. 0 < n) step_is c.step_of.ensures.range.0 in
    λ p h.
    let far = reached_least c.args.odd (c.args.entry * c.args.scale) c.args.target p (omega arith) some h in
    omega (arith, count_is, far.0, far.1)
