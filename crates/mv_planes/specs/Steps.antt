-- The contracts of inner steps. Nobody needs to believe these: they only carry proofs.
use Rattle.std.specs.Prelude.{◌≡◌, ℕ, ◌+◌, ◌*◌, ◌<◌, List, length, slice_index}

-- The first n samples of a block stand in a list, in rows of eight, the first at a place and each so far behind the one
-- before; what stands at no place of the block is as in the old list.
pub record HasRows (old s : List ℕ) (at stride : ℕ) (block : List ℕ) (n : ℕ) : Type 0 where
  pub size : length s ≡ length old
  pub written : (row col : ℕ) → row < 8 → col < 8 → 8 * row + col < n
      → slice_index s (at + row * stride + col) ≡ slice_index block (8 * row + col)
  pub others : (i : ℕ) → ((row col : ℕ) → row < 8 → col < 8 → i ≡ at + row * stride + col → ⊥)
      → slice_index s i ≡ slice_index old i
