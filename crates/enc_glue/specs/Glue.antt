-- The sequence part that is repeated in front of an anchor (H.262, 6.1.1.6).
use Rattle.std.specs.Prelude.{ℕ, Bool, ◌||◌, if◌then◌else◌, List, [], bytes_eq}

-- The bytes of the sequence part that an anchor is to be read under, but nothing where these bytes are in force, or
-- where the anchor has a sequence part of its own. Nothing is in force before the first picture.
abbrev pub glue : List ℕ → List ℕ → Bool → List ℕ
glue in_force target own_part = if own_part || bytes_eq in_force target then [] else target
