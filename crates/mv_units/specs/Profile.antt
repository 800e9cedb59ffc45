-- What is accepted of a stream, unit by unit, and why the next one is refused: by cutting first, then by its headers,
-- then by its slices.
use Rattle.std.specs.Prelude.{◌≡◌, ◌≤◌, ◌⊎◌, ℕ, List, [], ◌∷◌, length, Option, None, Some, Result, Ok, Err}
use Rattle.mv_terms.specs.declared.status.Why.{Why}
use Rattle.mv_terms.specs.CodedPicture.{CodedPicture}
use Rattle.mv_terms.specs.UnitLists.{UnitLists}
use Rattle.mv_heads.specs.declared.head_state.Heads.{Heads}
use Rattle.mv_heads.specs.declared.head_state.Accepted.{Accepted}
use Rattle.mv_heads.specs.HeadsInTurn.{after}
use Rattle.mv_slices.specs.Slices.{Slices, RefusesSlices}
use Rattle.mv_units.specs.Units.{stream_limit, units_in}

-- a unit as it is accepted: its lists, what its headers say with what holds behind them, and the picture that it codes
pub record CodedUnit : Type 0 where
  pub lists : UnitLists
  pub accepted : Accepted
  pub picture : CodedPicture

-- what holds behind units that were accepted, the latest first
abbrev pub heads_in : List CodedUnit → Option Heads
heads_in [] = None
heads_in (u ∷ before) = Some u.accepted.heads

-- A unit is accepted behind others: its headers are, and its slices code this picture.
pub record Accepts (before : Option Heads) (lists : UnitLists) (u : CodedUnit) : Type 0 where
  pub lists_are : u.lists ≡ lists
  pub headers : after before lists ≡ Ok u.accepted
  pub head : u.picture.head ≡ u.accepted.head
  pub slices : Slices u.accepted.head lists.slices u.picture.decisions u.picture.levels

-- Why a unit is refused: by its headers first, then by its slices.
abbrev pub RefusedBy : Result Accepted Why → List ℕ → Why → Type 0
RefusedBy (Err because) slices why = why ≡ because
RefusedBy (Ok accepted) slices why = RefusesSlices accepted.head slices why

abbrev pub Refuses : Option Heads → UnitLists → Why → Type 0
Refuses before lists why = RefusedBy (after before lists) lists.slices why

-- the accepted units of a stream, the latest first, and why the one behind them is refused, if it is
pub record Judged : Type 0 where
  pub units : List CodedUnit
  pub refusal : Option Why

-- How units behind accepted ones are judged, up to the first one that is refused, where cutting refuses the one behind
-- them all or finds the end.
abbrev pub JudgedTo : List CodedUnit → List UnitLists → Option Why → Judged → Type 0
JudgedTo before [] refusal judged = judged ≡ record { units = before; refusal = refusal }
JudgedTo before (lists ∷ later) refusal judged =
    ((u : CodedUnit) × Accepts (heads_in before) lists u
    × JudgedTo (u ∷ before) later refusal judged)
    ⊎ ((why : Why) × Refuses (heads_in before) lists why
    × (judged ≡ record { units = before; refusal = Some why }))

-- how a stream is judged, of which so many bytes count
abbrev pub HasUnitsIn : ℕ → List ℕ → Judged → Type 0
HasUnitsIn room bytes judged =
    let found = units_in room bytes in
    JudgedTo [] found.units found.refusal judged

abbrev pub HasUnits : List ℕ → Judged → Type 0
HasUnits bytes judged = HasUnitsIn stream_limit bytes judged

-- unit k is the first that is refused, and why
abbrev pub IsRefused : List ℕ → ℕ → Why → Type 0
IsRefused bytes k why =
    (judged : Judged) × HasUnits bytes judged × (length judged.units ≡ k)
    × (judged.refusal ≡ Some why)

-- no unit is refused, whatever the length of the stream
abbrev pub IsInProfile : List ℕ → Type 0
IsInProfile bytes =
    (judged : Judged) × HasUnitsIn (length bytes) bytes judged × (judged.refusal ≡ None)

-- a stream is judged in one way alone
pub record HasOneJudgement (room : ℕ) (bytes : List ℕ) : Type 0 where
  pub judged : Judged
  pub is : HasUnitsIn room bytes judged
  pub only : (other : Judged) → HasUnitsIn room bytes other → other ≡ judged

abbrev pub EachStreamIsJudgedOnce : Type 0
EachStreamIsJudgedOnce = (room : ℕ) (bytes : List ℕ) → HasOneJudgement room bytes

-- LAW: where no unit of a stream is refused, more room changes nothing.
abbrev pub MoreRoomIsFree : Type 0
MoreRoomIsFree =
    (room more : ℕ) (bytes : List ℕ) (judged : Judged) → HasUnitsIn room bytes judged
    → judged.refusal ≡ None → length bytes ≤ more → HasUnitsIn more bytes judged
