use Rattle.std.proofs.Common.{◌≡◌, drop}
use Rattle.plan_window.specs.Steps.{distance_from, next_distance}
use Rattle.plan_window.proofs.window.Window.next_distance.Given as goal

abbrev pub invariant-loop-distance : goal.invariant-loop-distance
invariant-loop-distance l = distance_from l.distance (drop l.distance l.self-inside.held.items) ≡ next_distance l.self-inside.held.items
