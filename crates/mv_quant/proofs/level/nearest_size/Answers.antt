use Rattle.std.proofs.Common.{◌≡◌, ℕ, ◌-◌, ◌*◌, min, arith, cond, ap, ◌∙◌}
use Rattle.mv_quant.specs.Steps.{value_size}
use Rattle.mv_quant.proofs.SizeLemmas.{IsLeast, reaching_is_positive, falls_short, nearer_first}
use Rattle.mv_quant.proofs.level.nearest_size.Goals as goal

pub overflow_sub-up : goal.overflow_sub-up
overflow_sub-up c = reaching_is_positive c.args.odd (c.args.entry * c.args.scale) c.args.target c.least_reaching-up.result c.requires.target.0 c.least_reaching-up.ensures.reaches

pub is_upper-requires-clause-below : goal.is_upper-requires-clause-below
is_upper-requires-clause-below c =
    let w : IsLeast c.args.odd (c.args.entry * c.args.scale) c.args.target c.least_reaching-up.result = record { reaches = c.least_reaching-up.ensures.reaches; least = c.least_reaching-up.ensures.least } in
    let some = reaching_is_positive c.args.odd (c.args.entry * c.args.scale) c.args.target c.least_reaching-up.result c.requires.target.0 c.least_reaching-up.ensures.reaches in
    let below = c.value_size-below.ensures ∙ ap (λ s. value_size c.args.odd s c.min-down.result) c.step_of-step.ensures.value in
    omega (arith, falls_short c.min-down.result w (omega arith), below)

pub returns-clause-first : goal.returns-clause-first
returns-clause-first c =
    let step : ℕ = c.args.entry * c.args.scale in
    let step_is = c.step_of-step.ensures.value in
    let w : IsLeast c.args.odd step c.args.target c.least_reaching-up.result = record { reaches = c.least_reaching-up.ensures.reaches; least = c.least_reaching-up.ensures.least } in
    let some = reaching_is_positive c.args.odd step c.args.target c.least_reaching-up.result c.requires.target.0 c.least_reaching-up.ensures.reaches in
    let down_is : c.min-down.result ≡ min (c.least_reaching-up.result - 1) 2047 = c.min-down.ensures in
    let below_is : c.value_size-below.result ≡ value_size c.args.odd step (min (c.least_reaching-up.result - 1) 2047) =
    c.value_size-below.ensures ∙ (ap (λ s. value_size c.args.odd s c.min-down.result) step_is ∙ ap (value_size c.args.odd step) down_is) in
    let above : c.value_size.result ≡ value_size c.args.odd step (min c.least_reaching-up.result 2047) =
    c.value_size.ensures ∙ (ap (λ s. value_size c.args.odd s c.min.result) step_is ∙ ap (value_size c.args.odd step) c.min.ensures) in
    let above_is : c.min-above.result ≡ min (value_size c.args.odd step (min c.least_reaching-up.result 2047)) c.args.limit = c.min-above.ensures ∙ ap (λ n. min n c.args.limit) above in
    let pick_is : c.pick-size.result ≡ cond c.is_upper.result c.least_reaching-up.result (min (c.least_reaching-up.result - 1) 2047) = c.pick-size.ensures ∙ ap (λ (d : ℕ). cond c.is_upper.result c.least_reaching-up.result d) down_is in
    let v : IsLeast c.args.odd step (value_size c.args.odd step c.pick-size.result) c.least_of_value.result = record { reaches = c.least_of_value.ensures.reaches; least = c.least_of_value.ensures.least } in
    let t = nearer_first c.args.odd step c.args.limit c.args.target c.least_reaching-up.result c.value_size-below.result c.min-above.result c.least_of_value.result c.is_upper.result
    c.requires.target.1 w some below_is above_is c.is_upper.ensures.upper c.is_upper.ensures.lower (rw pick_is at v) in
    t.1
