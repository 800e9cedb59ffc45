-- Each call of a window leads from what it stands for to what it stands for then: one lemma for each.
use Rattle.std.proofs.Common.{◌≡◌, ◌⊎◌, ℕ, zero, suc, ◌+◌, ◌<◌, ◌≤◌, Bool, true, false, cond, true≢false, List, [], ◌∷◌, ◌++◌, map, drop, length, slice_get, Option, Some, None, refl, sym, ap, ap₂, ◌∙◌, subst, inl, inr, append_assoc, length-append, length-drop, arith}
use Rattle.std.proofs.lemmas.List.{drop-append-le}
use Rattle.std.specs.Option.{option_map_or, option_and_then}
use Rattle.plan_window.specs.declared.summary.Summary.{Summary}
use Rattle.plan_window.specs.declared.summary.Mode.{Mode}
use Rattle.plan_window.specs.declared.summary.Mode.TheVariants.{Fresh}
use Rattle.plan_window.specs.declared.summary.Step.{Step}
use Rattle.plan_window.specs.Links.{mode_by}
use Rattle.plan_window.specs.Plan.{is_plan_anchor, anchors_before, first_anchor, nearest_before, anchor_of_group, step_at, group_before, coding_order}
use Rattle.plan_window.specs.State.{WindowState, IsHeld, without_front, behind_anchor, in_group}
use Rattle.plan_window.specs.Steps.{next_distance}
use Rattle.plan_window.specs.Stands.{Between, Within, Reaches, MayFollow, StandsFor, StandsAt}
use Rattle.plan_window.proofs.ListLemmas.{drop_more, get-drop, get-first, take_seen}
use Rattle.plan_window.proofs.OrderLemmas.{clear_anchors, clear_order, first_at, group_length}
use Rattle.plan_window.proofs.NextLemmas.{NextAt, next_found}

-- a step and a state by their fields
abbrev pub state_with : List Summary → ℕ → Option Summary → Option ℕ → Bool → WindowState
state_with held first nearest group closed = record { held = held; first = first; nearest = nearest; group = group; closed = closed }

abbrev pub step_of : ℕ → Bool → Mode → Step
step_of frame anchor mode = record { frame = frame; anchor = anchor; mode = mode }

-- the frames from the first one held on
held_frames : (pushed more held : List Summary) (i : ℕ) → i ≤ length pushed → drop i pushed ≡ held → drop i (pushed ++ more) ≡ held ++ more
held_frames pushed more held i le h = drop-append-le i pushed more le ∙ ap (λ l. l ++ more) h

held_get : (pushed more held : List Summary) (i k : ℕ) → i ≤ length pushed → drop i pushed ≡ held → k < length held → slice_get (pushed ++ more) (i + k) ≡ slice_get held k
held_get pushed more held i k le h lt =
    sym (get-drop i (pushed ++ more) k) ∙ ap (λ l. slice_get l k) (held_frames pushed more held i le h) ∙ get-first held more k lt

pub get_below : (xs : List Summary) (k : ℕ) (s : Summary) → slice_get xs k ≡ Some s → k < length xs
get_below [] k s h = cc
get_below (x ∷ xs) zero s h = omega arith
get_below (x ∷ xs) (suc k) s h = let l : k < length xs = get_below xs k s h in omega arith

-- a step is made of what was found for its frame
step_is : (n : ℕ) (frames : List Summary) (i : ℕ) (a : Bool) (s : Summary) (nearest group : Option Summary) → is_plan_anchor n frames i ≡ a → slice_get frames i ≡ Some s
    → nearest_before n frames i ≡ nearest → anchor_of_group n frames i ≡ group → step_at n frames i ≡ step_of i a (mode_by s nearest group)
step_is n frames i a s nearest group ea es en eg =
    ap₂ (step_of i) ea (ap (λ o. option_map_or (λ (q : Summary). mode_by q (nearest_before n frames i) (anchor_of_group n frames i)) o Fresh) es ∙ ap₂ (mode_by s) en eg)

next_at : (n : ℕ) (frames : List Summary) (i : ℕ) (held more : List Summary) (d : ℕ) (s : Summary) → drop i frames ≡ held ++ more → length held ≤ suc n
    → (more ≡ []) ⊎ (n < length held) → next_distance held ≡ d → slice_get held d ≡ Some s → NextAt (is_plan_anchor n frames) i (i + d)
next_at n frames i [] more d s h le r is at = cc
next_at n frames i (x ∷ xs) more d s h le r is at = next_found n frames i x xs more d h (omega arith) (take_seen n xs more (omega arith) (seen r)) is
  where
    seen : (more ≡ []) ⊎ (n < length (x ∷ xs)) → (more ≡ []) ⊎ (length xs ≡ n)
    seen (inl e) = inl e
    seen (inr l) = inr (omega arith)

-- `plan_next` between two groups: the next anchor gets its step
pub anchor_given : (n : ℕ) (window : WindowState) (pushed : List Summary) (given : List Step) (d : ℕ) (s : Summary) → StandsFor n window pushed given → window.group ≡ None
    → length window.held ≤ suc n → (window.closed ≡ true) ⊎ (n < length window.held) → next_distance window.held ≡ d → slice_get window.held d ≡ Some s
    → StandsAt n window d pushed (step_of (window.first + d) true (mode_by s window.nearest None) ∷ given)
anchor_given n window pushed given d s st none le ready is at =
    let lt : d < length window.held = get_below window.held d s at in
    record { held = st.held; first = st.first; near = lt; nearest = st.nearest; reached = reached }
  where
    reached : (more : List Summary) → MayFollow window.closed more
        → Within n (pushed ++ more) window.first (window.first + d) (step_of (window.first + d) true (mode_by s window.nearest None) ∷ given)
    reached more ok =
        let frames = pushed ++ more in
        let anchor = is_plan_anchor n frames in
        let g = window.first + d in
        let lt : d < length window.held = get_below window.held d s at in
        let sum : window.first + length window.held ≡ length pushed = st.first in
        let below : window.first ≤ length pushed = omega arith in
        let next : NextAt anchor window.first g = next_at n frames window.first window.held more d s (held_frames pushed more window.held window.first below st.held) le (seen ready) is at in
        let between : Between n frames window.first given = subst (λ o. Reaches n frames window.first o given) none (st.reached more ok) in
        let reach : window.first ≤ g = omega arith in
        let step : step_at n frames g ≡ step_of g true (mode_by s window.nearest None) =
        step_is n frames g true s window.nearest None next.is_anchor (held_get pushed more window.held window.first d below st.held lt ∙ at)
        (ap (λ l. option_and_then (slice_get frames) (slice_get l 0)) (clear_anchors anchor window.first g reach next.clear) ∙ st.nearest more ok)
        (ap (λ b. cond b None (option_and_then (slice_get frames) (first_anchor anchor (suc g) n))) next.is_anchor) in
        record {
          is_anchor = next.is_anchor;
          clear = next.clear;
          given_is = ap₂ (λ x l. x ∷ l) (sym step) (between.given_is ∙ ap (map (step_at n frames)) (sym (clear_order anchor window.first g reach next.clear)))
              ∙ sym (ap (λ l. map (step_at n frames) (l ++ g ∷ coding_order anchor g)) between.no_group);
        }
      where
        seen : (window.closed ≡ true) ⊎ (n < length window.held) → (more ≡ []) ⊎ (n < length window.held)
        seen (inl c) = inl (ok c)
        seen (inr l) = inr l

-- `plan_next` in a group: the first frame held gets its step, and is let go
pub b_given : (n : ℕ) (window : WindowState) (pushed : List Summary) (given : List Step) (d e : ℕ) (front s : Summary) → StandsFor n window pushed given → window.group ≡ Some d
    → d ≡ suc e → length window.held ≤ suc n → slice_get window.held 0 ≡ Some front → slice_get window.held d ≡ Some s
    → StandsAt n (without_front window) e pushed (step_of window.first false (mode_by front window.nearest (Some s)) ∷ given)
b_given n window pushed given d e front s st some de le atf at =
    let lt : d < length window.held = get_below window.held d s at in
    let sum : window.first + length window.held ≡ length pushed = st.first in
    record {
      held = drop_more window.first pushed ∙ ap (drop 1) st.held;
      first = simp length-drop (omega arith);
      near = simp length-drop (omega arith);
      nearest = λ more ok. ap (λ b. option_and_then (slice_get (pushed ++ more))
          (slice_get (cond b (window.first ∷ anchors_before (is_plan_anchor n (pushed ++ more)) window.first) (anchors_before (is_plan_anchor n (pushed ++ more)) window.first)) 0))
          (plain more ok) ∙ st.nearest more ok;
      reached = reached;
    }
  where
    within : (more : List Summary) → MayFollow window.closed more → Within n (pushed ++ more) window.first (window.first + d) given
    within more ok = subst (λ o. Reaches n (pushed ++ more) window.first o given) some (st.reached more ok)

    plain : (more : List Summary) → MayFollow window.closed more → is_plan_anchor n (pushed ++ more) window.first ≡ false
    plain more ok = (within more ok).clear window.first (omega arith) (omega arith)

    reached : (more : List Summary) → MayFollow window.closed more
        → Within n (pushed ++ more) (suc window.first) (suc window.first + e) (step_of window.first false (mode_by front window.nearest (Some s)) ∷ given)
    reached more ok =
        let frames = pushed ++ more in
        let anchor = is_plan_anchor n frames in
        let g = window.first + d in
        let lt : d < length window.held = get_below window.held d s at in
        let sum : window.first + length window.held ≡ length pushed = st.first in
        let below : window.first ≤ length pushed = omega arith in
        let old : Within n frames window.first g given = within more ok in
        let f : anchor window.first ≡ false = plain more ok in
        let here : slice_get frames window.first ≡ Some front =
        (let z : window.first ≡ window.first + 0 = omega arith in ap (slice_get frames) z) ∙ held_get pushed more window.held window.first 0 below st.held (omega arith) ∙ atf in
        let group : anchor_of_group n frames window.first ≡ Some s =
        ap (λ b. cond b None (option_and_then (slice_get frames) (first_anchor anchor (suc window.first) n))) f
        ∙ ap (option_and_then (slice_get frames)) (first_at anchor n (suc window.first) g (omega arith) (omega arith) old.is_anchor (λ j a b. old.clear j (omega arith) b))
        ∙ held_get pushed more window.held window.first d below st.held lt ∙ at in
        let step : step_at n frames window.first ≡ step_of window.first false (mode_by front window.nearest (Some s)) =
        step_is n frames window.first false front window.nearest (Some s) f here (st.nearest more ok) group in
        let new : Within n frames (suc window.first) g (step_of window.first false (mode_by front window.nearest (Some s)) ∷ given) = record {
          is_anchor = old.is_anchor;
          clear = λ j a b. old.clear j (omega arith) b;
          given_is = ap₂ (λ x l. x ∷ l) (sym step) old.given_is
              ∙ sym (ap (λ b. map (step_at n frames) (cond b [] (window.first ∷ group_before anchor window.first) ++ g ∷ coding_order anchor g)) f);
        } in
        let place : g ≡ suc window.first + e = omega arith in
        subst (λ k. Within n frames (suc window.first) k (step_of window.first false (mode_by front window.nearest (Some s)) ∷ given)) place new

-- `go_on` where the anchor stands first: its group is given, and it is let go
pub passes : (n : ℕ) (window : WindowState) (pushed : List Summary) (given : List Step) (d : ℕ) (s : Summary) → d ≡ 0 → StandsAt n window d pushed given → slice_get window.held d ≡ Some s
    → StandsFor n (behind_anchor window s) pushed given
passes n window pushed given d s z st at = record {
  held = drop_more window.first pushed ∙ ap (drop 1) st.held;
  first = let lt : d < length window.held = st.near in let sum : window.first + length window.held ≡ length pushed = st.first in simp length-drop (omega arith);
  group = tt;
  nearest = nearest;
  reached = reached;
}
  where
    within : (more : List Summary) → MayFollow window.closed more → Within n (pushed ++ more) window.first window.first given
    within more ok = let e : window.first + d ≡ window.first = omega arith in subst (λ k. Within n (pushed ++ more) window.first k given) e (st.reached more ok)

    nearest : (more : List Summary) → MayFollow window.closed more → nearest_before n (pushed ++ more) (suc window.first) ≡ Some s
    nearest more ok =
        let frames = pushed ++ more in
        let anchor = is_plan_anchor n frames in
        let lt : d < length window.held = st.near in
        let sum : window.first + length window.held ≡ length pushed = st.first in
        ap (λ b. option_and_then (slice_get frames) (slice_get (cond b (window.first ∷ anchors_before anchor window.first) (anchors_before anchor window.first)) 0)) (within more ok).is_anchor
        ∙ (let e : window.first ≡ window.first + d = omega arith in ap (slice_get frames) e) ∙ held_get pushed more window.held window.first d (omega arith) st.held lt ∙ at

    reached : (more : List Summary) → MayFollow window.closed more → Between n (pushed ++ more) (suc window.first) given
    reached more ok =
        let frames = pushed ++ more in
        let anchor = is_plan_anchor n frames in
        let i = window.first in
        let old = within more ok in
        record {
          no_group = ap (λ b. cond b [] (i ∷ group_before anchor i)) old.is_anchor;
          given_is = old.given_is ∙ sym (ap (λ b. map (step_at n frames) (cond b (group_before anchor i ++ i ∷ coding_order anchor i) (coding_order anchor i))) old.is_anchor);
        }

-- `go_on` where others stand before the anchor: they are the rest of its group
pub enters : (n : ℕ) (window : WindowState) (pushed : List Summary) (given : List Step) (d : ℕ) → 0 < d → StandsAt n window d pushed given → StandsFor n (in_group window d) pushed given
enters n window pushed given d lt st = record { held = st.held; first = st.first; group = (lt, st.near); nearest = st.nearest; reached = st.reached }

-- `start`
pub stands_empty : (n : ℕ) → StandsFor n (record { held = []; first = 0; nearest = None; group = None; closed = false }) [] []
stands_empty n = record { held = refl; first = refl; group = tt; nearest = λ more ok. refl; reached = λ more ok. record { no_group = refl; given_is = refl } }

held_more : (o : Option ℕ) (held more : List Summary) → IsHeld o held → IsHeld o (held ++ more)
held_more None held more h = tt
held_more (Some d) held more h = (h.0, let l : d < length held = h.1 in omega (arith, length-append held more))

-- `push`: what still comes begins with the summary that is pushed
pub pushes : (n : ℕ) (window : WindowState) (pushed : List Summary) (given : List Step) (s : Summary) → window.closed ≡ false → StandsFor n window pushed given
    → StandsFor n (record { held = window.held ++ s ∷ []; first = window.first; nearest = window.nearest; group = window.group; closed = window.closed }) (pushed ++ s ∷ []) given
pushes n window pushed given s not_closed st = record {
  held = let sum : window.first + length window.held ≡ length pushed = st.first in drop-append-le window.first pushed (s ∷ []) (omega arith) ∙ ap (λ l. l ++ s ∷ []) st.held;
  first = let sum : window.first + length window.held ≡ length pushed = st.first in omega (arith, length-append pushed (s ∷ []), length-append window.held (s ∷ []));
  group = held_more window.group window.held (s ∷ []) st.group;
  nearest = λ more ok. subst (λ l. nearest_before n l window.first ≡ window.nearest) (sym (append_assoc pushed (s ∷ []) more)) (st.nearest (s ∷ more) (never (s ∷ more)));
  reached = λ more ok. subst (λ l. Reaches n l window.first window.group given) (sym (append_assoc pushed (s ∷ []) more)) (st.reached (s ∷ more) (never (s ∷ more)));
}
  where
    never : (more : List Summary) → MayFollow window.closed more
    never more c = absurd (true≢false (sym c ∙ not_closed))

-- `close`: what still comes is nothing
pub closes : (n : ℕ) (window : WindowState) (pushed : List Summary) (given : List Step) → StandsFor n window pushed given
    → StandsFor n (record { held = window.held; first = window.first; nearest = window.nearest; group = window.group; closed = true }) pushed given
closes n window pushed given st = record {
  held = st.held;
  first = st.first;
  group = st.group;
  nearest = λ more ok. st.nearest more (λ c. ok refl);
  reached = λ more ok. st.reached more (λ c. ok refl);
}

-- between two groups, the group of the next anchor begins with the first frame held
pub anchor_group : (n : ℕ) (window : WindowState) (pushed : List Summary) (given after : List Step) (d : ℕ) → StandsFor n window pushed given → window.group ≡ None → StandsAt n window d pushed after
    → (more : List Summary) → MayFollow window.closed more → window.first + length (group_before (is_plan_anchor n (pushed ++ more)) (window.first + d)) ≡ window.first + d
anchor_group n window pushed given after d st none at more ok =
    let between : Between n (pushed ++ more) window.first given = subst (λ o. Reaches n (pushed ++ more) window.first o given) none (st.reached more ok) in
    group_length (is_plan_anchor n (pushed ++ more)) window.first (window.first + d) between.no_group (omega arith) (at.reached more ok).clear
