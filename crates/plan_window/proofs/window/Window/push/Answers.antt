use Rattle.std.proofs.Common.{◌≤◌, [], ◌∷◌, ◌++◌, length, sym, ap, ◌∙◌, subst, length-append, arith}
use Rattle.plan_window.specs.Plan.{ahead}
use Rattle.plan_window.specs.State.{WindowState}
use Rattle.plan_window.specs.Stands.{StandsFor}
use Rattle.plan_window.proofs.ListLemmas.{keep_all}
use Rattle.plan_window.proofs.StepLemmas.{state_with, pushes}
use Rattle.plan_window.proofs.window.Window.push.Goals as goal

pub returns-clause-stands : goal.returns-clause-stands
returns-clause-stands c = λ pushed given st.
    let i = c.self.inside in
    let s = c.args.summary in
    let room : length i.held.items ≤ 16 = omega (arith, ap (λ (w : WindowState). length w.held) c.self.view_is) in
    let fits : length (i.held.items ++ s ∷ []) ≤ i.held.capacity = omega (arith, length-append i.held.items (s ∷ []), c.self.invariant.capacity) in
    let items = ap (λ b. b.items) c.push_back.ensures.items ∙ keep_all i.held.capacity (i.held.items ++ s ∷ []) fits in
    let same = sym (ap (λ (w : WindowState). state_with (w.held ++ s ∷ []) w.first w.nearest w.group w.closed) c.self.view_is) ∙ ap (λ l. state_with l i.first i.nearest i.group i.closed) (sym items) in
    subst (λ w. StandsFor ahead w (pushed ++ s ∷ []) given) same (pushes ahead c.args.self.now pushed given s c.requires.open st)
