use Rattle.std.proofs.Common.{◌≡◌, ◌-◌, ◌≤◌, length, Some}
use Rattle.mv_ends.specs.Moves.{Inputs, input_of}
use Rattle.mv_ends.specs.Kept.{KeepsShelf, KeepsSink}
use Rattle.cut_list.specs.Steps.{CutSoFar, Grows}
use Rattle.cut_list.proofs.job.cut_entries.Given as goal

abbrev pub invariant-lines : goal.invariant-lines
invariant-lines g l = record {
  within : l.line ≤ length l.entries;
  so_far : (inputs : Inputs) → (g.S.Shelf.told l.fn.shelf).named ≡ Some inputs →
      CutSoFar (input_of inputs) l.entries l.line l.first (g.O.Sink.told l.fn.out).written (g.O.Sink.told l.out).written;
  grown : Grows (g.O.Sink.told l.fn.out).written (g.O.Sink.told l.out).written;
  keeps_sink : KeepsSink (g.O.Sink.told l.fn.out) (g.O.Sink.told l.out);
  keeps : KeepsShelf (g.S.Shelf.told l.fn.shelf) (g.S.Shelf.told l.shelf);
}

abbrev pub decreases-lines : goal.decreases-lines
decreases-lines g l = length l.entries - l.line
