-- What the answers of `decode` say of a stream.
use Rattle.std.proofs.Common.{◌≡◌, ◌≤◌, ◌↔◌, ℕ, List, length, Option, None, Some, refl, sym, ap, ◌∙◌, arith, subst}
use Rattle.mv_ends.specs.Ends.{Outcome}
use Rattle.mv_slices.specs.Slices.{IsCodedOrRefused}
use Rattle.mv_terms.specs.declared.status.Why.{Why}
use Rattle.mv_terms.specs.declared.status.Status.{Status}
use Rattle.mv_terms.specs.declared.status.Status.TheVariants as status
use Rattle.mv_units.specs.Units.{stream_limit}
use Rattle.mv_units.specs.Profile.{Judged, HasUnitsIn, IsInProfile, IsRefused}
use Rattle.mv_units.proofs.JudgementLaws.{each_is_judged_once}
use Rattle.mv_units.proofs.RoomLaws.{more_room_is_free}
use Rattle.job_decode.specs.Stream.{status_by}
use Rattle.job_decode.specs.Profile.{DoneIsInProfile, UnitIsRefused}

-- what an answer says of a refusal
is_done : (refusal : Option Why) (count : ℕ) → status_by refusal count ≡ status.Done → refusal ≡ None
is_done None count e = refl
is_done (Some why) count e = absurd (let n : status.Unit count why ≡ status.Done = e in cc n)

is_unit : (refusal : Option Why) (count k : ℕ) (why : Why) → status_by refusal count ≡ status.Unit k why → (count ≡ k) × (refusal ≡ Some why)
is_unit None count k why e = absurd (let n : status.Done ≡ status.Unit k why = e in cc n)
is_unit (Some because) count k why e = (cc e, cc e)

answers_done : (refusal : Option Why) (count : ℕ) → refusal ≡ None → status_by refusal count ≡ status.Done
answers_done refusal count e = ap (λ (r : Option Why). status_by r count) e

answers_unit : (refusal : Option Why) (count k : ℕ) (why : Why) → count ≡ k → refusal ≡ Some why → status_by refusal count ≡ status.Unit k why
answers_unit refusal count k why e r = rw (e, r) refl

pub done_is_in_profile : IsCodedOrRefused → DoneIsInProfile
done_is_in_profile law bytes outcome is fits = (
  (λ done.
      let judged : Judged = is.0 in
      let none = is_done judged.refusal (length judged.units) (sym (ap (λ (o : Outcome Status). o.answer) is.2) ∙ done) in
      (judged, more_room_is_free stream_limit (length bytes) bytes judged is.1 none (omega arith), none)),
  (λ profile.
      let judged : Judged = is.0 in
      let one = each_is_judged_once law stream_limit bytes in
      let here = more_room_is_free (length bytes) stream_limit bytes profile.0 profile.1 profile.2 fits in
      let same : judged ≡ profile.0 = one.only judged is.1 ∙ sym (one.only profile.0 here) in
      let none : judged.refusal ≡ None = ap (λ (j : Judged). j.refusal) same ∙ profile.2 in
      ap (λ (o : Outcome Status). o.answer) is.2 ∙ answers_done judged.refusal (length judged.units) none),
)

pub unit_is_refused : IsCodedOrRefused → UnitIsRefused
unit_is_refused law bytes outcome k why is = (
  (λ answered.
      let judged : Judged = is.0 in
      let refused = is_unit judged.refusal (length judged.units) k why (sym (ap (λ (o : Outcome Status). o.answer) is.2) ∙ answered) in
      (judged, is.1, refused.0, refused.1)),
  (λ refused.
      let judged : Judged = is.0 in
      let one = each_is_judged_once law stream_limit bytes in
      let same : judged ≡ refused.0 = one.only judged is.1 ∙ sym (one.only refused.0 refused.1) in
      ap (λ (o : Outcome Status). o.answer) is.2
      ∙ answers_unit judged.refusal (length judged.units) k why (ap (λ (j : Judged). length j.units) same ∙ refused.2) (ap (λ (j : Judged). j.refusal) same ∙ refused.3)),
)
