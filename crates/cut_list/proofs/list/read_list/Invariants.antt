use Rattle.std.proofs.Common.{◌≡◌, ◌≤◌, ◌+◌, length}
use Rattle.y4m_frames.specs.Lines.{to_read}
use Rattle.cut_list.specs.List.{entries_of, entries_from, list_limit}
use Rattle.cut_list.specs.Steps.{behind, lines_left}
use Rattle.cut_list.proofs.list.read_list.Given as goal

abbrev pub invariant-lines : goal.invariant-lines
invariant-lines l = record {
  whole : entries_of l.fn.bytes ≡ behind l.entries.items (entries_from l.number l.room (lines_left l.rest));
  count : length l.entries.items + 1 ≡ l.number;
  few : l.number ≤ 4097;
  room : l.room ≤ list_limit;
}

abbrev pub decreases-lines : goal.decreases-lines
decreases-lines l = to_read l.rest
