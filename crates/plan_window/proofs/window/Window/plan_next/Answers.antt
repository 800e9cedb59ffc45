use Rattle.std.proofs.Common.{rules, ◌≡◌, ◌⊎◌, suc, ◌+◌, ◌-◌, ◌<◌, ◌≤◌, ◌∷◌, ◌++◌, true, false, length, slice_get, Some, None, inr, sym, ap, ◌∙◌, subst, arith}
use Rattle.plan_window.specs.Links.{mode_by}
use Rattle.plan_window.specs.Plan.{ahead, is_plan_anchor, group_before}
use Rattle.plan_window.specs.State.{WindowState, IsHeld, without_front}
use Rattle.plan_window.specs.Stands.{StandsAt}
use Rattle.plan_window.proofs.PlanLemmas.{ahead_is}
use Rattle.plan_window.proofs.NextLemmas.{next_held, get_past, none_empty}
use Rattle.plan_window.proofs.StepLemmas.{step_of, anchor_given, anchor_group, b_given, get_below}
use Rattle.plan_window.proofs.window.Window.plan_next.Goals as goal

pub returns-in_err-anchor-in-None-clause-none : goal.returns-in_err-anchor-in-None-clause-none
returns-in_err-anchor-in-None-clause-none c =
    let xs = c.args.self.now.held in
    let at : slice_get xs c.next_distance-distance.result ≡ None = search rules in
    (λ _. inr (next_held xs (sym (ap (slice_get xs) c.next_distance-distance.ensures) ∙ at)), λ _. search rules)

pub overflow_add-frame : goal.overflow_add-frame
overflow_add-frame c =
    let xs = c.args.self.now.held in
    let at : slice_get xs c.next_distance-distance.result ≡ Some c.in_ok-anchor-in-None.anchor = search rules in
    let lt : c.next_distance-distance.result < length xs = get_below xs _ _ at in
    omega (arith, c.self.invariant.count, ap (λ (w : WindowState). length w.held) c.self.view_is)

pub returns-in_ok-anchor-in-None-clause-frame : goal.returns-in_ok-anchor-in-None-clause-frame
returns-in_ok-anchor-in-None-clause-frame c =
    let xs = c.args.self.now.held in
    let at : slice_get xs c.next_distance-distance.result ≡ Some c.in_ok-anchor-in-None.anchor = search rules in
    let lt : c.next_distance-distance.result < length xs = get_below xs _ _ at in
    let same : c.self.inside.first ≡ c.args.self.now.first = ap (λ (w : WindowState). w.first) c.self.view_is in
    (omega arith, omega arith)

pub returns-in_err-front-in-Some-clause-none : goal.returns-in_err-front-in-Some-clause-none
returns-in_err-front-in-Some-clause-none c =
    let xs = c.args.self.now.held in
    let at : slice_get xs 0 ≡ None = search rules in
    (λ _. inr (none_empty xs at), λ _. search rules)

pub returns-in_err-anchor-in-Some-clause-none : goal.returns-in_err-anchor-in-Some-clause-none
returns-in_err-anchor-in-Some-clause-none c =
    let d = c.in-Some.distance in
    let at : slice_get c.args.self.now.held d ≡ None = search rules in
    let some : c.self.inside.group ≡ Some d = search rules in
    let near : d < length c.self.inside.held.items = (subst (λ o. IsHeld o c.self.inside.held.items) some c.self.invariant.group).1 in
    absurd (get_past c.args.self.now.held d (omega (arith, ap (λ (w : WindowState). length w.held) c.self.view_is)) at)

pub returns-in_ok-anchor-in-None-clause-stands : goal.returns-in_ok-anchor-in-None-clause-stands
returns-in_ok-anchor-in-None-clause-stands c = λ pushed given st.
    let i = c.self.inside in
    let now = c.args.self.now in
    let d = c.next_distance-distance.result in
    let s = c.in_ok-anchor-in-None.anchor in
    let at : slice_get now.held d ≡ Some s = search rules in
    let none : i.group ≡ None = search rules in
    let ready : (now.closed ≡ true) ⊎ (16 < length now.held) = search rules in
    let mode : c.mode-mode.result ≡ mode_by s i.nearest None = search rules in
    let room : length now.held ≤ suc ahead = omega (arith, ahead_is, ap (λ (w : WindowState). length w.held) c.self.view_is, c.self.invariant.room) in
    let step = ap (λ (w : WindowState). step_of (w.first + d) true (mode_by s w.nearest None)) (sym c.self.view_is) ∙ ap (step_of (i.first + d) true) (sym mode) in
    c.go_on.ensures.stands pushed _ (subst (λ x. StandsAt ahead now d pushed (x ∷ given)) step
    (anchor_given ahead now pushed given d s st (sym (ap (λ (w : WindowState). w.group) c.self.view_is) ∙ none) room
    (subst (λ n. (now.closed ≡ true) ⊎ (n < length now.held)) (sym ahead_is) ready) (sym c.next_distance-distance.ensures) at))

pub returns-in_ok-anchor-in-None-clause-group : goal.returns-in_ok-anchor-in-None-clause-group
returns-in_ok-anchor-in-None-clause-group c = λ pushed given st.
    let i = c.self.inside in
    let now = c.args.self.now in
    let d = c.next_distance-distance.result in
    let s = c.in_ok-anchor-in-None.anchor in
    let at : slice_get now.held d ≡ Some s = search rules in
    let none : i.group ≡ None = search rules in
    let ready : (now.closed ≡ true) ⊎ (16 < length now.held) = search rules in
    let room : length now.held ≤ suc ahead = omega (arith, ahead_is, ap (λ (w : WindowState). length w.held) c.self.view_is, c.self.invariant.room) in
    let same : i.first ≡ now.first = ap (λ (w : WindowState). w.first) c.self.view_is in
    λ t more ok. subst (λ f. now.first + length (group_before (is_plan_anchor ahead (pushed ++ more)) (f + d)) ≡ f + d) (sym same)
    (anchor_group ahead now pushed given _ d st (sym (ap (λ (w : WindowState). w.group) c.self.view_is) ∙ none)
    (anchor_given ahead now pushed given d s st (sym (ap (λ (w : WindowState). w.group) c.self.view_is) ∙ none) room
    (subst (λ n. (now.closed ≡ true) ⊎ (n < length now.held)) (sym ahead_is) ready) (sym c.next_distance-distance.ensures) at) more ok)

pub returns-in_ok-anchor-in-Some-clause-stands : goal.returns-in_ok-anchor-in-Some-clause-stands
returns-in_ok-anchor-in-Some-clause-stands c = λ pushed given st.
    let i = c.self.inside in
    let now = c.args.self.now in
    let d = c.in-Some.distance in
    let front = c.in_ok-front-in-Some.front in
    let s = c.in_ok-anchor-in-Some.anchor in
    let atf : slice_get now.held 0 ≡ Some front = search rules in
    let at : slice_get now.held d ≡ Some s = search rules in
    let some : i.group ≡ Some d = search rules in
    let mode : c.mode-mode-in-Some.result ≡ mode_by front i.nearest (Some s) = search rules in
    let room : length now.held ≤ suc ahead = omega (arith, ahead_is, ap (λ (w : WindowState). length w.held) c.self.view_is, c.self.invariant.room) in
    let far : 0 < d = (subst (λ o. IsHeld o i.held.items) some c.self.invariant.group).0 in
    let less : d ≡ suc (d - 1) = omega arith in
    let step = ap (λ (w : WindowState). step_of w.first false (mode_by front w.nearest (Some s))) (sym c.self.view_is) ∙ ap (step_of i.first false) (sym mode) in
    c.go_on-in-Some.ensures.stands pushed _ (subst (λ w. StandsAt ahead w (d - 1) pushed (step_of i.first false c.mode-mode-in-Some.result ∷ given)) (sym c.drop_front.ensures)
    (subst (λ x. StandsAt ahead (without_front now) (d - 1) pushed (x ∷ given)) step
    (b_given ahead now pushed given d (d - 1) front s st (sym (ap (λ (w : WindowState). w.group) c.self.view_is) ∙ some) less room atf at)))
