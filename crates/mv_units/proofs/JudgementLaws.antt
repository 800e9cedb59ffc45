-- Each stream is judged in one way.
use Rattle.std.proofs.Common.{◌≡◌, ◌⊎◌, inl, inr, ◌∷◌, List, [], Option, Some, Result, Ok, Err, refl, sym, ap, ◌∙◌, subst}
use Rattle.mv_terms.specs.declared.status.Why.{Why}
use Rattle.mv_terms.specs.declared.head.Head.{Head}
use Rattle.mv_terms.specs.declared.macroblock.Decision.{Decision}
use Rattle.mv_terms.specs.declared.macroblock.MacroLevels.{MacroLevels}
use Rattle.mv_terms.specs.UnitLists.{UnitLists}
use Rattle.mv_heads.specs.declared.head_state.Heads.{Heads}
use Rattle.mv_heads.specs.declared.head_state.Accepted.{Accepted}
use Rattle.mv_heads.specs.HeadsInTurn.{after}
use Rattle.mv_slices.specs.Slices.{Slices, HasOneCoding, HasOneRefusal, IsCodedOrRefused}
use Rattle.mv_units.specs.Units.{units_in}
use Rattle.mv_units.specs.Profile.{CodedUnit, heads_in, Accepts, RefusedBy, Refuses, Judged, JudgedTo, EachStreamIsJudgedOnce}

-- ---- a unit is accepted with one picture alone, or refused for one reason alone

record IsAccepted (before : Option Heads) (lists : UnitLists) : Type 0 where
  unit : CodedUnit
  accepts : Accepts before lists unit
  only : (u : CodedUnit) → Accepts before lists u → u ≡ unit
  not_refused : (why : Why) → Refuses before lists why → ⊥

record IsRefusedUnit (before : Option Heads) (lists : UnitLists) : Type 0 where
  why : Why
  refuses : Refuses before lists why
  only : (because : Why) → Refuses before lists because → because ≡ why
  not_accepted : (u : CodedUnit) → Accepts before lists u → ⊥

by_headers : (before : Option Heads) (lists : UnitLists) (why : Why) → after before lists ≡ Err why → IsRefusedUnit before lists
by_headers before lists why is = record {
  why = why;
  refuses = subst (λ (r : Result Accepted Why). RefusedBy r lists.slices why) (sym is) refl;
  only = λ because h. subst (λ (r : Result Accepted Why). RefusedBy r lists.slices because) is h;
  not_accepted = λ u h. let same : Err why ≡ Ok u.accepted = sym is ∙ h.headers in cc;
}

same_accepted : (r : Result Accepted Why) (a b : Accepted) → r ≡ Ok a → r ≡ Ok b → b ≡ a
same_accepted r a b h k = cc

coded_by : (before : Option Heads) (lists : UnitLists) (accepted : Accepted) (u : CodedUnit) → after before lists ≡ Ok accepted → Accepts before lists u →
    Slices accepted.head lists.slices u.picture.decisions u.picture.levels
coded_by before lists accepted u is h =
    subst (λ (x : Accepted). Slices x.head lists.slices u.picture.decisions u.picture.levels) (same_accepted (after before lists) accepted u.accepted is h.headers) h.slices

coded_as : UnitLists → Accepted → List Decision → List MacroLevels → CodedUnit
coded_as lists accepted d l = record { lists = lists; accepted = accepted; picture = record { head = accepted.head; decisions = d; levels = l } }

same_unit : (u : CodedUnit) (lists : UnitLists) (accepted : Accepted) (d : List Decision) (l : List MacroLevels) →
    u.lists ≡ lists → u.accepted ≡ accepted → u.picture.head ≡ accepted.head → u.picture.decisions ≡ d → u.picture.levels ≡ l → u ≡ coded_as lists accepted d l
unfolding coded_as
same_unit u lists accepted d l a b c e f =
    ap (λ (x : UnitLists). record u { lists = x }) a
    ∙ ap (λ (x : Accepted). record { lists = lists; accepted = x; picture = u.picture }) b
    ∙ ap (λ (x : Head). record { lists = lists; accepted = accepted; picture = record u.picture { head = x } }) c
    ∙ ap (λ (x : List Decision). record { lists = lists; accepted = accepted; picture = record { head = accepted.head; decisions = x; levels = u.picture.levels } }) e
    ∙ ap (λ (x : List MacroLevels). record { lists = lists; accepted = accepted; picture = record { head = accepted.head; decisions = d; levels = x } }) f

refuses_as : (before : Option Heads) (lists : UnitLists) (accepted : Accepted) (why : Why) → after before lists ≡ Ok accepted →
    Refuses before lists why → RefusedBy (Ok accepted) lists.slices why
refuses_as before lists accepted why is h = subst (λ (r : Result Accepted Why). RefusedBy r lists.slices why) is h

slices_accepted : (before : Option Heads) (lists : UnitLists) (accepted : Accepted) → after before lists ≡ Ok accepted → HasOneCoding accepted.head lists.slices → IsAccepted before lists
unfolding coded_as
slices_accepted before lists accepted is s = record {
  unit = coded_as lists accepted s.decisions s.levels;
  accepts = record { lists_are = refl; headers = is; head = refl; slices = s.coded };
  only = λ u h.
      let both = s.only u.picture.decisions u.picture.levels (coded_by before lists accepted u is h) in
      let same = same_accepted (after before lists) accepted u.accepted is h.headers in
      same_unit u lists accepted s.decisions s.levels h.lists_are same (h.head ∙ ap (λ (x : Accepted). x.head) same) both.0 both.1;
  not_refused = λ why h. s.not_refused why (refuses_as before lists accepted why is h);
}

slices_refused : (before : Option Heads) (lists : UnitLists) (accepted : Accepted) → after before lists ≡ Ok accepted → HasOneRefusal accepted.head lists.slices → IsRefusedUnit before lists
slices_refused before lists accepted is r = record {
  why = r.why;
  refuses = subst (λ (x : Result Accepted Why). RefusedBy x lists.slices r.why) (sym is) r.refused;
  only = λ because h. r.only because (refuses_as before lists accepted because is h);
  not_accepted = λ u h. r.not_coded u.picture.decisions u.picture.levels (coded_by before lists accepted u is h);
}

by_slices : (before : Option Heads) (lists : UnitLists) (accepted : Accepted) → after before lists ≡ Ok accepted →
    HasOneCoding accepted.head lists.slices ⊎ HasOneRefusal accepted.head lists.slices → IsAccepted before lists ⊎ IsRefusedUnit before lists
by_slices before lists accepted is (inl s) = inl (slices_accepted before lists accepted is s)
by_slices before lists accepted is (inr r) = inr (slices_refused before lists accepted is r)

by_answer : IsCodedOrRefused → (before : Option Heads) (lists : UnitLists) (r : Result Accepted Why) → after before lists ≡ r → IsAccepted before lists ⊎ IsRefusedUnit before lists
by_answer law before lists (Ok accepted) is = by_slices before lists accepted is (law accepted.head lists.slices)
by_answer law before lists (Err why) is = inr (by_headers before lists why is)

judged_unit : IsCodedOrRefused → (before : Option Heads) (lists : UnitLists) → IsAccepted before lists ⊎ IsRefusedUnit before lists
judged_unit law before lists = by_answer law before lists (after before lists) refl

-- ---- units are judged in one way

pub record JudgedToOne (before : List CodedUnit) (later : List UnitLists) (refusal : Option Why) : Type 0 where
  pub judged : Judged
  pub is : JudgedTo before later refusal judged
  pub only : (other : Judged) → JudgedTo before later refusal other → other ≡ judged

only_refused : (before : List CodedUnit) (lists : UnitLists) (later : List UnitLists) (refusal : Option Why) (r : IsRefusedUnit (heads_in before) lists) (other : Judged) →
    JudgedTo before (lists ∷ later) refusal other → other ≡ record { units = before; refusal = Some r.why }
only_refused before lists later refusal r other (inl h) = absurd (r.not_accepted h.0 h.1)
only_refused before lists later refusal r other (inr h) = h.2 ∙ ap (λ (w : Why). record { units = before; refusal = Some w }) (r.only h.0 h.1)

only_accepted : (before : List CodedUnit) (lists : UnitLists) (later : List UnitLists) (refusal : Option Why) (a : IsAccepted (heads_in before) lists) (one : JudgedToOne (a.unit ∷ before) later refusal) (other : Judged) →
    JudgedTo before (lists ∷ later) refusal other → other ≡ one.judged
only_accepted before lists later refusal a one other (inl h) =
    one.only other (subst (λ (u : CodedUnit). JudgedTo (u ∷ before) later refusal other) (a.only h.0 h.1) h.2)
only_accepted before lists later refusal a one other (inr h) = absurd (a.not_refused h.0 h.1)

by_unit : (before : List CodedUnit) (lists : UnitLists) (later : List UnitLists) (refusal : Option Why) → IsAccepted (heads_in before) lists ⊎ IsRefusedUnit (heads_in before) lists →
    ((u : CodedUnit) → JudgedToOne (u ∷ before) later refusal) → JudgedToOne before (lists ∷ later) refusal
by_unit before lists later refusal (inl a) on =
    let one = on a.unit in
    record { judged = one.judged; is = inl (a.unit, a.accepts, one.is); only = only_accepted before lists later refusal a one }
by_unit before lists later refusal (inr r) on = record {
  judged = record { units = before; refusal = Some r.why };
  is = inr (r.why, r.refuses, refl);
  only = only_refused before lists later refusal r;
}

pub judged_to_one : IsCodedOrRefused → (before : List CodedUnit) (later : List UnitLists) (refusal : Option Why) → JudgedToOne before later refusal
judged_to_one law before [] refusal = record { judged = record { units = before; refusal = refusal }; is = refl; only = λ other h. h }
judged_to_one law before (lists ∷ later) refusal =
    by_unit before lists later refusal (judged_unit law (heads_in before) lists) (λ u. judged_to_one law (u ∷ before) later refusal)

pub each_is_judged_once : IsCodedOrRefused → EachStreamIsJudgedOnce
each_is_judged_once law room bytes =
    let one = judged_to_one law [] (units_in room bytes).units (units_in room bytes).refusal in
    record { judged = one.judged; is = one.is; only = one.only }
