use Rattle.std.proofs.Common.{length, ◌-◌, ◌≡◌, ◌≤◌, take, slice_range}
use Rattle.std.specs.Io.KnownBytes.{Consumes}
use Rattle.mv_ends.specs.Kept.{KeepsShelf}
use Rattle.y4m_frames.proofs.ahead.read_all.Given as goal

abbrev pub invariant-reads : goal.invariant-reads
invariant-reads g l = record {
  low : l.fn.from ≤ l.filled;
  within : l.filled ≤ length l.to;
  same_len : length l.to ≡ length l.fn.to;
  front : take l.fn.from l.to ≡ take l.fn.from l.fn.to;
  read : Consumes (g.S.Shelf.told l.fn.shelf).rest (g.S.Shelf.told l.shelf).rest (slice_range l.to l.fn.from l.filled);
  chosen : (g.S.Shelf.told l.shelf).selected ≡ (g.S.Shelf.told l.fn.shelf).selected;
  keeps : KeepsShelf (g.S.Shelf.told l.fn.shelf) (g.S.Shelf.told l.shelf);
}

abbrev pub decreases-reads : goal.decreases-reads
decreases-reads g l = length l.initial.to - l.filled
