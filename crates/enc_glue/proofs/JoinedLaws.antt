-- Units with zero bytes and end codes behind them, and units that are written one behind the other.
use Rattle.std.proofs.Common.{◌≡◌, ℕ, ◌+◌, ◌≤◌, ◌<◌, List, [], ◌∷◌, ◌++◌, length, refl, sym, ap, ◌∙◌, subst, append_assoc, append-nil, arith, Option, None, Some}
use Rattle.std.proofs.lemmas.List.{replicate-append-replicate}
use Rattle.std.proofs.Math.ListN.{length-reverse_aux}
use mathlib.Core.List.{reverse_aux}
use Rattle.mv_bits.specs.Zeros.{zero_bytes}
use Rattle.mv_terms.specs.UnitLists.{UnitLists}
use Rattle.mv_units.specs.declared.next.Before.TheVariants as before
use Rattle.mv_units.specs.Shape.{IsUnit, EndsLast, AreUnits}
use Rattle.mv_units.specs.Units.{units_in}
use Rattle.mv_units.specs.Written.{end_bytes, unit_bytes, stream_of}
use Rattle.mv_units.proofs.ShapeLaws.{written_units_are_cut}
use Rattle.enc_glue.specs.Joined.{AreOpen, GlueIsInFront, UnitWithZeros, WrittenIsCut, before_next, with_end, written}

pub glue_is_in_front : GlueIsInFront
glue_is_in_front part u = append_assoc part u.prefix _

pub unit_with_zeros : UnitWithZeros
unit_with_zeros begin n u is none =
    let sum : zero_bytes (u.zeros + n) ≡ zero_bytes u.zeros ++ zero_bytes n = sym (replicate-append-replicate u.zeros n 0) in (
      record { prefix = is.prefix; head = is.head; slices = is.slices },
      rw (none, sum) (simp (append_assoc, append-nil)),
    )

with_end_bytes : (u : UnitLists) (end : Option ℕ) → u.end ≡ None → unit_bytes (with_end end u) ≡ unit_bytes u ++ end_bytes end
with_end_bytes u end none = rw none (simp (append_assoc, append-nil))

-- ---- units, the latest first

-- units in front of others
open_in_front : (units later : List UnitLists) → AreOpen units → AreUnits (before_next units) later → AreUnits before.Stream (reverse_aux units later)
unfolding AreOpen
open_in_front [] later are behind = behind
open_in_front (u ∷ units) later are behind =
    let ends : EndsLast u.end later = subst (λ (end : Option ℕ). EndsLast end later) (sym are.1) tt in
    open_in_front units (u ∷ later) are.2 (are.0, ends, behind)

written_in_front : (units later : List UnitLists) → stream_of (reverse_aux units later) ≡ written units ++ stream_of later
unfolding written stream_of
written_in_front [] later = refl
written_in_front (u ∷ units) later = written_in_front units (u ∷ later) ∙ sym (append_assoc (written units) (unit_bytes u) (stream_of later))

some_are_cut : (room : ℕ) (us : List UnitLists) → 0 < length us → AreUnits before.Stream us → length (stream_of us) ≤ room → units_in room (stream_of us) ≡ record { units = us; refusal = None }
some_are_cut room [] some are fits = absurd (omega arith)
some_are_cut room (u ∷ us) some are fits = written_units_are_cut room u us are fits

ends_last : (end : Option ℕ) → EndsLast end []
ends_last None = tt
ends_last (Some n) = refl

pub written_is_cut : WrittenIsCut
unfolding AreOpen written stream_of
written_is_cut room end u units are fits =
    let last = with_end end u in
    let us = reverse_aux units (last ∷ []) in
    let unit : IsUnit (before_next units) last = record { prefix = are.0.prefix; head = are.0.head; slices = are.0.slices } in
    let bytes : stream_of us ≡ (written units ++ unit_bytes u) ++ end_bytes end =
    written_in_front units (last ∷ []) ∙ ap (λ (x : List ℕ). written units ++ x) (append-nil (unit_bytes last) ∙ with_end_bytes u end are.1) ∙ sym (append_assoc (written units) (unit_bytes u) (end_bytes end)) in
    let some : 0 < length us = omega (arith, length-reverse_aux units (last ∷ [])) in
    let short : length (stream_of us) ≤ room = subst (λ (x : List ℕ). length x ≤ room) (sym bytes) fits in
    ap (λ (x : List ℕ). units_in room x) (sym bytes) ∙ some_are_cut room us some (open_in_front units (last ∷ []) are.2 (unit, ends_last end, tt)) short
