-- What is known where the headers of a unit are accepted, and what the first unit's say.
use Rattle.std.proofs.Common.{◌≡◌, ℕ, List, [], ◌∷◌, Option, None, Some, Result, Ok, Err, refl, sym, ap, ◌∙◌, subst}
use Rattle.std.specs.Prelude.{IfSome}
use Rattle.mv_terms.specs.declared.status.Why.{Why}
use Rattle.mv_terms.specs.declared.head.Context.{Context}
use Rattle.mv_terms.specs.declared.head.Head.{Head}
use Rattle.mv_terms.specs.UnitLists.{UnitLists}
use Rattle.mv_heads.specs.declared.head_state.Heads.{Heads}
use Rattle.mv_heads.specs.declared.head_state.Accepted.{Accepted}
use Rattle.mv_heads.specs.HeadsInTurn.{after, context_in, head_answer, heads_kept}
use Rattle.mv_heads.specs.Legal.{HasSizeOf, IsHeads}
use Rattle.mv_heads.proofs.TurnLaws.{first_kept}
use Rattle.mv_units.specs.Profile.{CodedUnit, heads_in}
use Rattle.mv_decode.specs.Units.{FitsAsFirst, IsFirstSize, context_answer}

-- The headers of a unit behind others are accepted with this head and leave these heads, and the head has the size of
-- the first unit.
pub record HasHeaders (mb_wide mb_high : ℕ) (before : List CodedUnit) (lists : UnitLists) (new : Option Heads) (head : Head) : Type 0 where
  pub accepted : Accepted
  pub headers : after (heads_in before) lists ≡ Ok accepted
  pub head_is : head ≡ accepted.head
  pub heads : new ≡ Some accepted.heads
  pub first : IsFirstSize mb_wide mb_high (Some accepted.heads)
  pub wide : head.mb_wide ≡ mb_wide
  pub high : head.mb_high ≡ mb_high

first_behind : (mb_wide mb_high : ℕ) (before : List CodedUnit) (lists : UnitLists) (accepted : Accepted)
    → IsFirstSize mb_wide mb_high (heads_in before) → FitsAsFirst mb_wide mb_high before lists
    → after (heads_in before) lists ≡ Ok accepted → IsFirstSize mb_wide mb_high (Some accepted.heads)
first_behind mb_wide mb_high [] lists accepted first fits is = fits accepted is
first_behind mb_wide mb_high (u ∷ before) lists accepted first fits is =
    let kept = first_kept u.accepted.heads lists accepted is in
    (ap (λ size. size.mb_wide) kept ∙ first.0, ap (λ size. size.mb_high) kept ∙ first.1)

by_answer : (mb_wide mb_high : ℕ) (before : List CodedUnit) (lists : UnitLists) (new : Option Heads) (head : Head) (r : Result Accepted Why)
    → after (heads_in before) lists ≡ r → IsFirstSize mb_wide mb_high (heads_in before) → FitsAsFirst mb_wide mb_high before lists
    → Ok head ≡ head_answer r → new ≡ heads_kept (heads_in before) r → IfSome new (HasSizeOf head)
    → HasHeaders mb_wide mb_high before lists new head
by_answer mb_wide mb_high before lists new head (Err why) is first fits answer kept size = absurd cc
by_answer mb_wide mb_high before lists new head (Ok accepted) is first fits answer kept size =
    let of_first : HasSizeOf head accepted.heads = subst (λ (o : Option Heads). IfSome o (HasSizeOf head)) kept size in
    let now = first_behind mb_wide mb_high before lists accepted first fits is in
    record {
      accepted = accepted;
      headers = is;
      head_is = cc;
      heads = kept;
      first = now;
      wide = of_first.wide ∙ now.0;
      high = of_first.high ∙ now.1;
    }

pub has_headers : (mb_wide mb_high : ℕ) (before : List CodedUnit) (lists : UnitLists) (old new : Option Heads) (head : Head)
    → old ≡ heads_in before → IsFirstSize mb_wide mb_high old → FitsAsFirst mb_wide mb_high before lists
    → Ok head ≡ head_answer (after old lists) → new ≡ heads_kept old (after old lists) → IfSome new (HasSizeOf head)
    → HasHeaders mb_wide mb_high before lists new head
has_headers mb_wide mb_high before lists old new head same first fits answer kept size =
    by_answer mb_wide mb_high before lists new head (after (heads_in before) lists) refl
    (subst (λ (o : Option Heads). IsFirstSize mb_wide mb_high o) same first) fits
    (answer ∙ ap (λ (o : Option Heads). head_answer (after o lists)) same)
    (kept ∙ ap (λ (o : Option Heads). heads_kept o (after o lists)) same) size

-- ---- the first unit

pub context_is : (r : Result Accepted Why) (new : Option Heads) (head : Head) (context : Context)
    → Ok head ≡ head_answer r → new ≡ heads_kept None r → Some context ≡ context_in new → Ok context ≡ context_answer r
context_is (Err why) new head context answer kept is = absurd cc
context_is (Ok accepted) new head context answer kept is =
    let same : Some context ≡ Some accepted.heads.context = is ∙ ap context_in kept in cc

pub has_context : (r : Result Accepted Why) (new : Option Heads) (head : Head)
    → Ok head ≡ head_answer r → new ≡ heads_kept None r → None ≡ context_in new → ⊥
has_context (Err why) new head answer kept is = absurd cc
has_context (Ok accepted) new head answer kept is =
    let never : None ≡ Some accepted.heads.context = is ∙ ap context_in kept in cc

pub refused_as : (r : Result Accepted Why) (why : Why) → Err why ≡ head_answer r → Err why ≡ context_answer r
refused_as (Err because) why answer = cc
refused_as (Ok accepted) why answer = absurd cc

pub fits_as_first : (lists : UnitLists) (new : Option Heads) (context : Context)
    → new ≡ heads_kept None (after None lists) → IfSome new IsHeads → Some context ≡ context_in new
    → FitsAsFirst context.mb_wide context.mb_high [] lists
fits_as_first lists new context kept legal is accepted headers =
    let now : new ≡ Some accepted.heads = kept ∙ ap (heads_kept None) headers in
    let heads : IsHeads accepted.heads = subst (λ (o : Option Heads). IfSome o IsHeads) now legal in
    let same : context ≡ accepted.heads.context = let h : Some context ≡ Some accepted.heads.context = is ∙ ap context_in now in cc in (
      ap (λ size. size.mb_wide) heads.size ∙ ap (λ (c : Context). c.mb_wide) (sym same),
      ap (λ size. size.mb_high) heads.size ∙ ap (λ (c : Context). c.mb_high) (sym same),
    )
