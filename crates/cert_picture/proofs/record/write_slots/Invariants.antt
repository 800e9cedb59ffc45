use Rattle.std.proofs.Common.{◌≡◌, ◌*◌, take}
use Rattle.cert_picture.proofs.record.write_slots.Given as goal
use Rattle.cert_picture.specs.Records.{slots_of}

abbrev pub invariant-macroblocks : goal.invariant-macroblocks
invariant-macroblocks l = take (20 * l.k) l.to ≡ slots_of (take l.k l.decisions)
