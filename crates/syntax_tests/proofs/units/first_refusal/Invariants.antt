use Rattle.std.proofs.Common.{◌≡◌, false}
use Rattle.syntax_tests.proofs.units.first_refusal.Given as goal

abbrev pub invariant-bytes : goal.invariant-bytes
invariant-bytes l = l.cutter.closed ≡ false
