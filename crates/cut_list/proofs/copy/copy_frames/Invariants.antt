use Rattle.std.proofs.Common.{◌≡◌, ◌+◌, ◌-◌, ◌≤◌, length, List, ℕ, [], None, Some}
use Rattle.mv_ends.specs.Kept.{KeepsShelf, KeepsSink}
use Rattle.y4m_frames.specs.Reading.{left_of, StandsFor}
use Rattle.cut_list.specs.Steps.{Copied, Grows}
use Rattle.cut_list.proofs.copy.copy_frames.Given as goal

abbrev pub invariant-frames : goal.invariant-frames
invariant-frames g l = record {
  runs : l.reader.failed ≡ None;
  header : l.reader.header ≡ l.fn.reader.header;
  len : length l.frame ≡ length l.fn.frame;
  most : l.count ≤ l.to + 1;
  told : (begun left : List ℕ) → StandsFor l.fn.reader begun [] → left_of l.fn.reader (g.S.Shelf.told l.fn.shelf).rest ≡ Some left →
      Copied l.from l.opening l.reader (g.S.Shelf.told l.shelf).rest l.count (g.O.Sink.told l.fn.out).written (g.O.Sink.told l.out).written begun left;
  grown : Grows (g.O.Sink.told l.fn.out).written (g.O.Sink.told l.out).written;
  keeps_sink : KeepsSink (g.O.Sink.told l.fn.out) (g.O.Sink.told l.out);
  chosen : (g.S.Shelf.told l.shelf).selected ≡ (g.S.Shelf.told l.fn.shelf).selected;
  keeps : KeepsShelf (g.S.Shelf.told l.fn.shelf) (g.S.Shelf.told l.shelf);
}

abbrev pub decreases-frames : goal.decreases-frames
decreases-frames g l = l.to + 1 - l.count
