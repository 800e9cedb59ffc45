use Rattle.std.proofs.Common.{◌≡◌, ◌<◌, ◌+◌, ◌*◌, ℕ, length}
use Rattle.std.specs.Prelude.{slice_index}
use Rattle.mv_planes.proofs.block.rows_at.Given as goal

abbrev pub invariant-rows : goal.invariant-rows
invariant-rows l = record {
  count : length l.block ≡ 64;
  above : (row col : ℕ) → col < 8 → row < l.row → slice_index l.block (8 * row + col) ≡ slice_index l.samples (l.at + row * l.stride + col);
}

abbrev pub invariant-columns : goal.invariant-columns
invariant-columns l = record {
  count : length l.block ≡ 64;
  above : (row col : ℕ) → col < 8 → 8 * row + col < 8 * l.row + l.col → slice_index l.block (8 * row + col) ≡ slice_index l.samples (l.at + row * l.stride + col);
}
