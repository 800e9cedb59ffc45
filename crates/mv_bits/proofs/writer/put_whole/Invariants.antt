use Rattle.std.proofs.Common.{◌≡◌, ◌<◌, ◌≤◌, ◌%◌, ◌^◌, []}
use Rattle.mv_bits.specs.Bits.{digits}
use Rattle.mv_bits.specs.Writing.{Writes}
use Rattle.mv_bits.proofs.writer.put_whole.Given as goal

abbrev pub invariant-bytes : goal.invariant-bytes
invariant-bytes g l = record {
  few : l.count ≤ 40;
  left : l.count % 8 ≡ l.initial.count % 8;
  fits : l.bits < 2 ^ l.count;
  written : Writes g.P.Put.stands l.initial.to l.to [] (digits l.count l.bits) (digits l.initial.count l.initial.bits);
}

abbrev pub decreases-bytes : goal.decreases-bytes
decreases-bytes g l = l.count
