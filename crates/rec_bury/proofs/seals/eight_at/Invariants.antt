use Rattle.rec_bury.proofs.seals.eight_at.Given as goal
use Rattle.rec_bury.specs.Steps.{IsPiece}

abbrev pub invariant-bytes : goal.invariant-bytes
invariant-bytes l = IsPiece l.piece l.frame l.start l.clear l.j
