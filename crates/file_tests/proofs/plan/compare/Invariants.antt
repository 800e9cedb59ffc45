use Rattle.std.proofs.Common.{◌≡◌}
use Rattle.plan_window.specs.State.{count_pushed}
use Rattle.file_tests.proofs.plan.compare.Given as goal

abbrev pub invariant-loop-at : goal.invariant-loop-at
invariant-loop-at g l = (count_pushed l.window ≡ count_pushed l.initial.window) × (l.window.closed ≡ l.initial.window.closed)
