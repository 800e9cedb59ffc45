use Rattle.std.proofs.Common.{◌+◌, ◌*◌, take}
use Rattle.sha2.specs.Hashers.{Holds256}
use Rattle.rec_bury.proofs.seals.hash_line.Given as goal
use Rattle.rec_bury.specs.Seals.{unsealed}

abbrev pub invariant-macroblocks : goal.invariant-macroblocks
invariant-macroblocks l =
    Holds256 l.initial.hasher (take (640 * (l.wide * l.high) + 16 * (l.y * l.wide)) (unsealed l.wide l.high l.frame))
    → Holds256 l.hasher (take (640 * (l.wide * l.high) + 16 * (l.y * l.wide) + 16 * l.x) (unsealed l.wide l.high l.frame))
