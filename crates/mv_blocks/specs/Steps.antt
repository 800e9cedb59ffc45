-- What the writer's inner steps say of the levels that are left; nobody needs to believe these definitions.
use Rattle.std.specs.Prelude.{ℕ, zero, ◌+◌, ◌==◌, not, List, [], ◌∷◌, ℤ, pos, unsigned_abs}
use Rattle.mv_bits.specs.Bits.{worth}

-- 1 for a level that isn't zero
abbrev pub counted : ℤ → ℕ
counted level = worth (not (unsigned_abs level == 0))

-- how many levels aren't zero
unfoldable pub count_levels : List ℤ → ℕ
count_levels [] = 0
count_levels (level ∷ levels) = counted level + count_levels levels

-- where levels aren't zero, counted from a place on
unfoldable pub level_places : ℕ → List ℤ → List ℕ
level_places place [] = []
level_places place (pos zero ∷ levels) = level_places (place + 1) levels
level_places place (level ∷ levels) = place ∷ level_places (place + 1) levels
