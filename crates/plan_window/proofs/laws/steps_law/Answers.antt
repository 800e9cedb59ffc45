use Rattle.plan_window.proofs.FitLemmas.{plan_fits, plan_stands, plan_refers, last_fits}
use Rattle.plan_window.proofs.ShownLemmas.{plan_is_shown_in_order, steps_are_shown_in_order, given_are_shown_in_order}
use Rattle.plan_window.proofs.laws.steps_law.Goals as goal

pub returns : goal.returns
returns c =
    record {
      fits = plan_fits;
      order = plan_stands;
      refers = plan_refers;
      shown = plan_is_shown_in_order;
      shown_first = steps_are_shown_in_order;
      given_fits = last_fits;
      given_shown = given_are_shown_in_order;
    }
