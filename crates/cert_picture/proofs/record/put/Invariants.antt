use Rattle.std.proofs.Common.{◌≡◌, ◌+◌, ◌++◌, take}
use Rattle.cert_picture.proofs.record.put.Given as goal

abbrev pub invariant-bytes : goal.invariant-bytes
invariant-bytes l = take (l.at + l.i) l.to ≡ take l.at l.initial.to ++ take l.i l.piece
