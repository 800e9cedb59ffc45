use Rattle.std.proofs.Common.{ℕ, ◌<◌}
use Rattle.plan_numbers.specs.Stands.{IsAt}
use Rattle.plan_numbers.proofs.numbers.ContextNumbers.find.Given as goal

abbrev pub invariant-places : goal.invariant-places
invariant-places l = (k : ℕ) → k < l.k → IsAt l.self l.context k → ⊥
