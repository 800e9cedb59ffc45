-- A stream no unit of which is refused is judged alike in any room that it fits.
use Rattle.std.proofs.Common.{◌≡◌, ℕ, ◌≤◌, ◌⊎◌, inl, inr, List, [], ◌∷◌, ◌++◌, length, Option, None, Some, arith, refl, sym, ap, ◌∙◌, subst}
use Rattle.std.proofs.lemmas.Bool.{le-leb}
use Rattle.std.proofs.lemmas.List.{append-nil}
use Rattle.mv_terms.specs.declared.status.Why.{Why}
use Rattle.mv_terms.specs.declared.status.Why.TheVariants.{NoStart}
use Rattle.mv_terms.specs.UnitLists.{UnitLists}
use Rattle.mv_units.specs.declared.next.Before.TheVariants as before
use Rattle.mv_units.specs.Shape.{AreUnits}
use Rattle.mv_units.specs.declared.walk.Next.TheVariants.{Refused}
use Rattle.mv_units.specs.Units.{Units, next_of, stream_in, units_in}
use Rattle.mv_units.specs.Walk.{next_unit}
use Rattle.mv_units.specs.Profile.{CodedUnit, Judged, JudgedTo, MoreRoomIsFree}
use Rattle.mv_units.specs.Written.{IsCutWhole, stream_of}
use Rattle.mv_units.proofs.CuttingLaws.{units_left_refused}
use Rattle.mv_units.proofs.ShapeLaws.{streams_are_cut_whole, units_have_shape, written_units_are_cut}

none_of : {A : Type 0} (why : Why) → Some why ≡ None → A
none_of why e = absurd (let n : Some why ≡ None = e in cc n)

-- what no unit of is refused is not refused by cutting
cut_to_end : (before : List CodedUnit) (us : List UnitLists) (refusal : Option Why) (judged : Judged) → JudgedTo before us refusal judged → judged.refusal ≡ None → refusal ≡ None
cut_to_end before [] refusal judged is none = sym (ap (λ (j : Judged). j.refusal) is) ∙ none
cut_to_end before (lists ∷ later) refusal judged (inl (u, accepts, on)) none = cut_to_end (u ∷ before) later refusal judged on none
cut_to_end before (lists ∷ later) refusal judged (inr (why, refuses, is)) none = none_of why (sym (ap (λ (j : Judged). j.refusal) is) ∙ none)

-- nothing at all is refused in any room
nothing_next : (room : ℕ) → next_of (stream_in room []) ≡ Refused NoStart
unfolding next_unit
nothing_next room = rw (le-leb 0 room (omega arith)) refl

nothing_cut : (room : ℕ) → units_in room [] ≡ record { units = []; refusal = Some NoStart }
nothing_cut room = units_left_refused (stream_in room []) NoStart (nothing_next room)

cut_alike : (room more : ℕ) (us : List UnitLists) (bytes : List ℕ) → bytes ≡ stream_of us → AreUnits before.Stream us → length bytes ≤ more
    → units_in room bytes ≡ record { units = us; refusal = None } → units_in more bytes ≡ record { units = us; refusal = None }
unfolding stream_of
cut_alike room more [] bytes is are fits found =
    let empty : units_in room [] ≡ record { units = []; refusal = None } = sym (ap (units_in room) is) ∙ found in
    none_of NoStart (ap (λ (us : Units). us.refusal) (sym (nothing_cut room) ∙ empty))
cut_alike room more (u ∷ us) bytes is are fits found =
    ap (units_in more) is ∙ written_units_are_cut more u us are (subst (λ (b : List ℕ). length b ≤ more) is fits)

pub more_room_is_free : MoreRoomIsFree
more_room_is_free room more bytes judged is none fits =
    let found = units_in room bytes in
    let whole = streams_are_cut_whole room bytes in
    let end : found.refusal ≡ None = cut_to_end [] found.units found.refusal judged is none in
    let all : bytes ≡ stream_of found.units = whole.all ∙ (ap (λ (r : List ℕ). stream_of found.units ++ r) (whole.none end) ∙ append-nil (stream_of found.units)) in
    let here : found ≡ record { units = found.units; refusal = None } = ap (λ (o : Option Why). (let us : Units = record { units = found.units; refusal = o } in us)) end in
    let same : found ≡ units_in more bytes = here ∙ sym (cut_alike room more found.units bytes all (units_have_shape room bytes) fits here) in
    subst (λ (us : Units). JudgedTo [] us.units us.refusal judged) same is
