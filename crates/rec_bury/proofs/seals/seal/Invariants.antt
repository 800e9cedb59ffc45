use Rattle.std.proofs.Common.{◌+◌, ◌*◌, take}
use Rattle.sha2.specs.Hashers.{Holds256}
use Rattle.rec_bury.proofs.seals.seal.Given as goal
use Rattle.rec_bury.specs.Seals.{unsealed}

abbrev pub invariant-lines : goal.invariant-lines
invariant-lines l = Holds256 l.hasher (take (640 * (l.wide * l.high) + 16 * (l.y * l.wide)) (unsealed l.wide l.high l.frame))
