use Rattle.std.proofs.Common.{◌≡◌, false}
use Rattle.syntax_tests.proofs.units.cut.Given as goal

abbrev pub invariant-pieces : goal.invariant-pieces
invariant-pieces l = l.cutter.closed ≡ false
