use Rattle.std.proofs.Common.{◌≡◌, false}
use Rattle.plan_window.specs.State.{count_pushed}
use Rattle.file_tests.proofs.plan.the_plan_is_given_as_frames_come.Given as goal

abbrev pub invariant-loop-i : goal.invariant-loop-i
invariant-loop-i g l = (count_pushed l.window ≡ l.i) × (l.window.closed ≡ false)
