use Rattle.std.proofs.Common.{◌+◌, ◌≤◌, ◌^◌, IsTrue}
use Rattle.mv_ends.specs.Kept.{KeepsShelf, KeepsSink}
use Rattle.job_decode.specs.Steps.{Fits, left_to_do, unfed}
use Rattle.job_decode.proofs.Turns.{Turn}
use Rattle.job_decode.proofs.stream.decode_stream.Given as goal

abbrev pub invariant-units : goal.invariant-units
invariant-units g l = record {
  turn : Turn (g.S.Shelf.told l.fn.shelf).named l.name (g.S.Shelf.told l.shelf).rest l.cutter (unfed l.piece) l.work l.count (g.O.Sink.told l.fn.out).written (g.O.Sink.told l.out).written;
  fits : Fits l.piece l.cutter;
  counted : l.count + l.cutter.room ≤ 2 ^ 44;
  chosen : IsTrue ((g.S.Shelf.told l.shelf).selected l.name);
  kept : KeepsShelf (g.S.Shelf.told l.fn.shelf) (g.S.Shelf.told l.shelf);
  keeps_sink : KeepsSink (g.O.Sink.told l.fn.out) (g.O.Sink.told l.out);
}

abbrev pub decreases-units : goal.decreases-units
decreases-units g l = left_to_do l.piece l.cutter
