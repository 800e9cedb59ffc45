use Rattle.std.proofs.Common.{◌≡◌, length}
use Rattle.std.specs.Prelude.{All}
use Rattle.plan_numbers.specs.Stands.{HasRoom}
use Rattle.plan_numbers.proofs.numbers.ContextNumbers.start.Given as goal

abbrev pub invariant-rooms : goal.invariant-rooms
invariant-rooms l = (length l.contexts.items ≡ l._i) × All HasRoom l.contexts.items
