-- The pictures of accepted units, and what the first unit of a stream is asked. All lists are in coded order, the latest
-- first.
use Rattle.std.specs.Prelude.{◌≡◌, ℕ, List, [], ◌∷◌, map, ⊤, Option, None, Some, Result, Ok, Err}
use Rattle.mv_terms.specs.declared.status.Why.{Why}
use Rattle.mv_terms.specs.declared.head.Context.{Context}
use Rattle.mv_terms.specs.UnitLists.{UnitLists}
use Rattle.mv_heads.specs.declared.head_state.Heads.{Heads}
use Rattle.mv_heads.specs.declared.head_state.Accepted.{Accepted}
use Rattle.mv_heads.specs.HeadsInTurn.{after}
use Rattle.mv_planes.specs.References.{DecodedPicture}
use Rattle.mv_recon.specs.Decoded.{pictures_of}
use Rattle.mv_units.specs.Profile.{CodedUnit}

-- the pictures that units decode to
abbrev pub pictures_in : List CodedUnit → List DecodedPicture
pictures_in units = pictures_of (map (λ u. u.picture) units)

-- the first unit has this size in macroblocks, where there is one
abbrev pub IsFirstSize : ℕ → ℕ → Option Heads → Type 0
IsFirstSize mb_wide mb_high None = ⊤
IsFirstSize mb_wide mb_high (Some heads) =
    (heads.first.mb_wide ≡ mb_wide) × (heads.first.mb_high ≡ mb_high)

-- Where no unit was accepted before, this one has this size if its headers are accepted.
abbrev pub FitsAsFirst : ℕ → ℕ → List CodedUnit → UnitLists → Type 0
FitsAsFirst mb_wide mb_high [] lists = (accepted : Accepted) → after None lists ≡ Ok accepted
    → IsFirstSize mb_wide mb_high (Some accepted.heads)
FitsAsFirst mb_wide mb_high (u ∷ before) lists = ⊤

-- the context of a unit, or the refusal of its headers
abbrev pub context_answer : Result Accepted Why → Result Context Why
context_answer (Ok accepted) = Ok accepted.heads.context
context_answer (Err why) = Err why
