-- What the answers of `decode` say of a stream.
use Rattle.std.specs.Prelude.{◌≡◌, ◌≤◌, ◌↔◌, ℕ, List, length}
use Rattle.mv_ends.specs.Ends.{Outcome}
use Rattle.mv_terms.specs.declared.status.Why.{Why}
use Rattle.mv_terms.specs.declared.status.Status.{Status}
use Rattle.mv_terms.specs.declared.status.Status.TheVariants as status
use Rattle.mv_units.specs.Units.{stream_limit}
use Rattle.mv_units.specs.Profile.{IsInProfile, IsRefused}
use Rattle.job_decode.specs.Stream.{IsOutcome}

-- LAWS: all is done exactly where the stream is in the profile, unless it is too long;
abbrev pub DoneIsInProfile : Type 0
DoneIsInProfile =
    (bytes : List ℕ) (outcome : Outcome Status) → IsOutcome bytes outcome
    → length bytes ≤ stream_limit → (outcome.answer ≡ status.Done) ↔ IsInProfile bytes

-- and the number of a unit is answered exactly where it is the first that is refused, with the reason.
abbrev pub UnitIsRefused : Type 0
UnitIsRefused =
    (bytes : List ℕ) (outcome : Outcome Status) (k : ℕ) (why : Why) → IsOutcome bytes outcome
    → (outcome.answer ≡ status.Unit k why) ↔ IsRefused bytes k why
