use Rattle.std.proofs.Common.{sym}
use Rattle.plan_window.specs.Plan.{ahead}
use Rattle.plan_window.proofs.PlanLemmas.{ahead_is, begins, all_given}
use Rattle.plan_window.proofs.GivenLemmas.{held_is, counts}
use Rattle.plan_window.proofs.laws.plan_law.Goals as goal

pub returns : goal.returns
returns c =
    record {
      ahead = sym ahead_is;
      begins = begins ahead;
      whole = all_given ahead;
      held = held_is ahead;
      counted = λ window pushed given st. (st.first, counts ahead window pushed given st);
    }
