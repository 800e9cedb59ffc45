use Rattle.std.proofs.Common.{◌≤◌, ◌-◌, length, take}
use Rattle.std.specs.Io.KnownBytes.{Appends}
use Rattle.mv_ends.specs.Kept.{KeepsSink}
use Rattle.mv_ends.proofs.send.Given as goal

abbrev pub invariant-loop-sent : goal.invariant-loop-sent
invariant-loop-sent g l = record {
  within : l.sent ≤ length l.bytes;
  bytes : Appends (g.O.Sink.told l.initial.out).written (g.O.Sink.told l.out).written (take l.sent l.bytes);
  keeps : KeepsSink (g.O.Sink.told l.initial.out) (g.O.Sink.told l.out);
}

abbrev pub decreases-loop-sent : goal.decreases-loop-sent
decreases-loop-sent g l = length l.bytes - l.sent
