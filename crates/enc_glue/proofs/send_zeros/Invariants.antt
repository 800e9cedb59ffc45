use Rattle.std.proofs.Common.{◌≤◌, ◌-◌}
use Rattle.std.specs.Io.KnownBytes.{Appends}
use Rattle.mv_bits.specs.Zeros.{zero_bytes}
use Rattle.mv_ends.specs.Kept.{KeepsSink}
use Rattle.enc_glue.proofs.send_zeros.Given as goal

abbrev pub invariant-turns : goal.invariant-turns
invariant-turns g l = record {
  within : l.left ≤ l.n;
  bytes : Appends (g.O.Sink.told l.initial.out).written (g.O.Sink.told l.out).written (zero_bytes (l.n - l.left));
  keeps : KeepsSink (g.O.Sink.told l.initial.out) (g.O.Sink.told l.out);
}

abbrev pub decreases-turns : goal.decreases-turns
decreases-turns g l = l.left
