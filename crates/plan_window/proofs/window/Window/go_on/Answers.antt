use Rattle.std.proofs.Common.{Some, sym, ap, ◌∙◌, subst}
use Rattle.plan_window.specs.Plan.{ahead}
use Rattle.plan_window.specs.State.{WindowState}
use Rattle.plan_window.specs.Stands.{StandsFor}
use Rattle.plan_window.proofs.StepLemmas.{state_with, passes}
use Rattle.plan_window.proofs.window.Window.go_on.Goals as goal

pub returns-then-distance-eq0-clause-stands : goal.returns-then-distance-eq0-clause-stands
returns-then-distance-eq0-clause-stands c = λ pushed given st.
    let same = sym (ap (λ (w : WindowState). state_with w.held w.first (Some c.args.anchor) w.group w.closed) (c.self.view_is ∙ c.drop_front.ensures)) in
    subst (λ w. StandsFor ahead w pushed given) same (passes ahead c.args.self.now pushed given c.args.distance c.args.anchor c.if-distance-eq0.true st c.requires)
