use Rattle.std.proofs.Common.{take}
use Rattle.std.specs.Io.KnownBytes.{Appends}
use Rattle.mv_ends.specs.Kept.{KeepsSink}
use Rattle.mv_ends.specs.Moves.{joined}
use Rattle.mv_ends.proofs.send_all.Given as goal

abbrev pub invariant-loop-piece : goal.invariant-loop-piece
invariant-loop-piece g l = record {
  bytes : Appends (g.O.Sink.told l.fn.out).written (g.O.Sink.told l.out).written (joined (take l.piece-index l.pieces));
  keeps : KeepsSink (g.O.Sink.told l.fn.out) (g.O.Sink.told l.out);
}
