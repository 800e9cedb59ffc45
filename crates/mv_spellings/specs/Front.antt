-- Bits in front of other bits, with zeros without end behind these.
use Rattle.std.specs.Prelude.{◌≡◌, ℕ, zero, suc, Bool, false, List, [], ◌∷◌, length, drop}

-- the first n bits, with zeros behind the last bit
unfoldable pub first : ℕ → List Bool → List Bool
first zero bits = []
first (suc n) [] = false ∷ first n []
first (suc n) (b ∷ bits) = b ∷ first n bits

-- The bits begin with these, and go on as the rest.
pub record IsInFront (own bits rest : List Bool) : Type 0 where
  pub begins : first (length own) bits ≡ own
  pub behind : rest ≡ drop (length own) bits
