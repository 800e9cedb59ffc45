-- Zero bits in a row. A slice ends where the next 23 bits are zero (H.262, 6.2.4), so none may stand inside of it.
use Rattle.std.specs.Prelude.{ℕ, ◌+◌, ◌<◌, ◌≤◌, nat_le, nat_lt, Bool, true, false, ◌&&◌, List, [], ◌∷◌, length}

-- Behind so many zero bits, no 1 of these bits stands behind 23 zeros in a row, and at most so many zeros are their end.
unfoldable pub RunsAreShort : ℕ → List Bool → ℕ → Type 0
RunsAreShort before [] behind = before ≤ behind
RunsAreShort before (true ∷ bits) behind = (before < 23) × RunsAreShort 0 bits behind
RunsAreShort before (false ∷ bits) behind = RunsAreShort (before + 1) bits behind

-- the test of that
unfoldable pub runs_are_short : ℕ → List Bool → ℕ → Bool
runs_are_short before [] behind = nat_le before behind
runs_are_short before (true ∷ bits) behind = nat_lt before 23 && runs_are_short 0 bits behind
runs_are_short before (false ∷ bits) behind = runs_are_short (before + 1) bits behind

-- the same, and they are at most so many bits
pub record IsBounded (before : ℕ) (bits : List Bool) (behind most : ℕ) : Type 0 where
  pub runs : RunsAreShort before bits behind
  pub short : length bits ≤ most
