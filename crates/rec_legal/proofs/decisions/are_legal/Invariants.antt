use Rattle.std.proofs.Common.{◌≡◌, drop}
use Rattle.rec_legal.specs.Tests.{are_legal, are_legal_from}
use Rattle.rec_legal.proofs.decisions.are_legal.Given as goal

abbrev pub invariant-decisions : goal.invariant-decisions
invariant-decisions l = are_legal l.head l.fn.decisions ≡ are_legal_from l.head l.place l.past (drop l.place l.decisions)
