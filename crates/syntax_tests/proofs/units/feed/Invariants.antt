use Rattle.std.proofs.Common.{◌≡◌, false, length}
use Rattle.syntax_tests.proofs.units.feed.Given as goal

abbrev pub invariant-pieces : goal.invariant-pieces
invariant-pieces l = l.cutter.closed ≡ false

abbrev pub decreases-pieces : goal.decreases-pieces
decreases-pieces l = length l.rest
