use Rattle.std.proofs.Common.{◌≡◌, ℕ, ◌+◌, ◌*◌, ◌^◌, ◌≤◌, List, [], length, All, Some, None}
use Rattle.std.specs.Io.KnownBytes.{IsAtEnd}
use Rattle.mv_ends.specs.Kept.{KeepsShelf, KeepsSink}
use Rattle.plan_window.specs.State.{steps_left}
use Rattle.y4m_frames.specs.Behind.{IsBehind}
use Rattle.y4m_frames.specs.Frames.{frame_len}
use Rattle.job_coding.proofs.Turns.{Turn, still}
use Rattle.job_coding.proofs.frames.code_frames.Given as goal

abbrev pub invariant-turns : goal.invariant-turns
invariant-turns g l = record {
  turn : Turn (g.C.Coder.coding l.fn.coder) (g.C.Coder.stands l.coder) (λ (file : List ℕ). IsBehind l.fn.reader (g.S.Shelf.told l.fn.shelf).rest file []) l.reader (g.S.Shelf.told l.shelf).rest l.window l.slots (g.O.Sink.told l.fn.out).written (g.O.Sink.told l.out).written l.count l.ending;
  at_end : l.ending ≡ Some None → IsAtEnd (g.S.Shelf.told l.shelf).rest;
  runs : l.ending ≡ None → l.reader.failed ≡ None;
  coding : g.C.Coder.coding l.coder ≡ g.C.Coder.coding l.fn.coder;
  slots : length l.slots ≡ 17;
  sizes : All (λ (frame : List ℕ). length frame ≡ frame_len l.reader.header) l.slots;
  room : l.count + l.reader.room ≤ 2 ^ 44;
  chosen : (g.S.Shelf.told l.shelf).selected ≡ (g.S.Shelf.told l.fn.shelf).selected;
  kept : KeepsShelf (g.S.Shelf.told l.fn.shelf) (g.S.Shelf.told l.shelf);
  keeps_sink : KeepsSink (g.O.Sink.told l.fn.out) (g.O.Sink.told l.out);
}

abbrev pub decreases-turns : goal.decreases-turns
decreases-turns g l = 2 * l.reader.room + steps_left l.window + still l.ending
