use Rattle.std.proofs.Common.{length, ◌-◌, ◌≡◌, []}
use Rattle.std.specs.Io.KnownBytes.{Consumes, prepend_known}
use Rattle.mv_ends.specs.Kept.{KeepsShelf}
use Rattle.y4m_frames.proofs.ahead.Ahead.line.Given as goal

abbrev pub invariant-reads : goal.invariant-reads
invariant-reads g l = record {
  same : Consumes (prepend_known l.fn.self (g.S.Shelf.told l.fn.shelf).rest) (prepend_known l.self (g.S.Shelf.told l.shelf).rest) [];
  chosen : (g.S.Shelf.told l.shelf).selected ≡ (g.S.Shelf.told l.fn.shelf).selected;
  keeps : KeepsShelf (g.S.Shelf.told l.fn.shelf) (g.S.Shelf.told l.shelf);
}

abbrev pub decreases-reads : goal.decreases-reads
decreases-reads g l = 65536 - length l.self
