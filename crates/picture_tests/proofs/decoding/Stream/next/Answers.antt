use Rattle.std.proofs.Common.{ℕ, List, ◌∷◌, Result, Ok, Err}
use Rattle.mv_terms.specs.declared.status.Why.{Why}
use Rattle.mv_terms.specs.UnitLists.{UnitLists, lent_unit}
use Rattle.mv_store.specs.declared.store.Shown.{Shown}
use Rattle.mv_units.specs.Profile.{CodedUnit}
use Rattle.mv_decode.specs.declared.decoder.Decoder.{Decoder}
use Rattle.mv_decode.specs.Stands.{Decodes}
use Rattle.mv_decode.specs.Steps.{IsBehindFirst}
use Rattle.picture_tests.proofs.decoding.Stream.next.Goals as goal

-- some unit stays accepted, whatever the next one comes to
stays_behind_first : (mb_wide mb_high : ℕ) (u : CodedUnit) (before : List CodedUnit) (lists : UnitLists) (new : Decoder) (r : Result Shown Why)
    → Decodes mb_wide mb_high new (u ∷ before) lists r → IsBehindFirst new
stays_behind_first mb_wide mb_high u before lists new (Ok shown) decoded = (mb_wide, mb_high, decoded.unit, u ∷ before, decoded.accepted.stands)
stays_behind_first mb_wide mb_high u before lists new (Err why) decoded = (mb_wide, mb_high, u, before, decoded.1)

pub invariant_of-self : goal.invariant_of-self
invariant_of-self g c =
    let i = c.self.invariant in
    stays_behind_first i.0 i.1 i.2 i.3 (lent_unit c.unit.result) c.unit-2.new.self c.unit-2.result
    (c.unit-2.ensures.decodes i.0 i.1 (i.2 ∷ i.3) i.4 tt)
