use Rattle.std.proofs.Common.{◌≡◌, length}
use Rattle.syntax_tests.proofs.units.log_units.Given as goal

abbrev pub invariant-units : goal.invariant-units
invariant-units l = l.cutter.closed ≡ l.initial.cutter.closed

abbrev pub decreases-units : goal.decreases-units
decreases-units l = length l.cutter.bytes
