-- Which frames have their steps: those of the groups of the anchors before the first frame held, and those of the group that is given.
use Rattle.std.proofs.Common.{◌≡◌, ◌⊎◌, ℕ, zero, suc, ◌+◌, ◌<◌, ◌≤◌, Bool, true, false, cond, List, [], ◌∷◌, ◌++◌, map, length, Option, Some, None, refl, sym, ap, ◌∙◌, subst, inl, inr, length-append, arith}
use Rattle.std.proofs.lemmas.Bool.{cases_lt}
use Rattle.plan_window.specs.declared.summary.Summary.{Summary}
use Rattle.plan_window.specs.declared.summary.Step.{Step}
use Rattle.plan_window.specs.Plan.{is_plan_anchor, step_at, group_before, coding_order}
use Rattle.plan_window.specs.State.{WindowState, IsHeld, steps_left, left_of}
use Rattle.plan_window.specs.Stands.{Reaches, StandsFor}
use Rattle.plan_window.specs.Fits.{frames_of}
use Rattle.plan_window.specs.PlanLaws.{Among, HasStep, IsFirstOpen}
use Rattle.plan_window.proofs.OrderLemmas.{clear_order}

among_left : (xs ys : List ℕ) (k : ℕ) → Among xs k → Among (xs ++ ys) k
among_left [] ys k h = absurd h
among_left (x ∷ xs) ys k (inl e) = inl e
among_left (x ∷ xs) ys k (inr h) = inr (among_left xs ys k h)

among_right : (xs ys : List ℕ) (k : ℕ) → Among ys k → Among (xs ++ ys) k
among_right [] ys k h = h
among_right (x ∷ xs) ys k h = inr (among_right xs ys k h)

among_cases : (xs ys : List ℕ) (k : ℕ) → Among (xs ++ ys) k → Among xs k ⊎ Among ys k
among_cases [] ys k h = inr h
among_cases (x ∷ xs) ys k (inl e) = inl (inl e)
among_cases (x ∷ xs) ys k (inr h) = go (among_cases xs ys k h)
  where
    go : Among xs k ⊎ Among ys k → Among (x ∷ xs) k ⊎ Among ys k
    go (inl a) = inl (inr a)
    go (inr b) = inr b

pub frames_at : (n : ℕ) (frames : List Summary) (xs : List ℕ) → frames_of (map (step_at n frames) xs) ≡ xs
frames_at n frames [] = refl
frames_at n frames (x ∷ xs) = ap (λ l. x ∷ l) (frames_at n frames xs)

group_below : (anchor : ℕ → Bool) (m k : ℕ) → Among (group_before anchor m) k → k < m
group_below anchor zero k h = absurd h
group_below anchor (suc m) k h = go (anchor m) h (group_below anchor m k)
  where
    go : (b : Bool) → Among (cond b [] (m ∷ group_before anchor m)) k → (Among (group_before anchor m) k → k < m) → k < suc m
    go true h more = absurd h
    go false (inl e) more = omega arith
    go false (inr h) more = let l : k < m = more h in omega arith

order_below : (anchor : ℕ → Bool) (m k : ℕ) → Among (coding_order anchor m) k → k < m
order_below anchor zero k h = absurd h
order_below anchor (suc m) k h = go (anchor m) h (order_below anchor m k)
  where
    go : (b : Bool) → Among (cond b (group_before anchor m ++ m ∷ coding_order anchor m) (coding_order anchor m)) k → (Among (coding_order anchor m) k → k < m) → k < suc m
    go false h more = let l : k < m = more h in omega arith
    go true h more = by (among_cases (group_before anchor m) (m ∷ coding_order anchor m) k h)
      where
        by : Among (group_before anchor m) k ⊎ Among (m ∷ coding_order anchor m) k → k < suc m
        by (inl g) = let l : k < m = group_below anchor m k g in omega arith
        by (inr (inl e)) = omega arith
        by (inr (inr o)) = let l : k < m = more o in omega arith

-- a frame before m stands in the order of coding, or waits for the next anchor
covered : (anchor : ℕ → Bool) (m k : ℕ) → k < m → Among (coding_order anchor m) k ⊎ Among (group_before anchor m) k
covered anchor zero k lt = absurd (omega arith)
covered anchor (suc m) k lt = go (anchor m) (cases_lt k m) (covered anchor m k)
  where
    go : (b : Bool) → (k < m) ⊎ (m ≤ k) → (k < m → Among (coding_order anchor m) k ⊎ Among (group_before anchor m) k)
        → Among (cond b (group_before anchor m ++ m ∷ coding_order anchor m) (coding_order anchor m)) k ⊎ Among (cond b [] (m ∷ group_before anchor m)) k
    go true (inr le) more = let e : m ≡ k = omega arith in inl (among_right (group_before anchor m) (m ∷ coding_order anchor m) k (inl e))
    go false (inr le) more = let e : m ≡ k = omega arith in inr (inl e)
    go true (inl l) more = waited (more l)
      where
        waited : Among (coding_order anchor m) k ⊎ Among (group_before anchor m) k → Among (group_before anchor m ++ m ∷ coding_order anchor m) k ⊎ Among [] k
        waited (inl h) = inl (among_right (group_before anchor m) (m ∷ coding_order anchor m) k (inr h))
        waited (inr h) = inl (among_left (group_before anchor m) (m ∷ coding_order anchor m) k h)
    go false (inl l) more = waits (more l)
      where
        waits : Among (coding_order anchor m) k ⊎ Among (group_before anchor m) k → Among (coding_order anchor m) k ⊎ Among (m ∷ group_before anchor m) k
        waits (inl h) = inl h
        waits (inr h) = inr (inr h)

-- and so do their numbers
pub counted : (anchor : ℕ → Bool) (m : ℕ) → length (coding_order anchor m) + length (group_before anchor m) ≡ m
counted anchor zero = omega arith
counted anchor (suc m) = go (anchor m) (counted anchor m)
  where
    go : (b : Bool) → length (coding_order anchor m) + length (group_before anchor m) ≡ m
        → length (cond b (group_before anchor m ++ m ∷ coding_order anchor m) (coding_order anchor m)) + length (cond b [] (m ∷ group_before anchor m)) ≡ suc m
    go true e = omega (arith, length-append (group_before anchor m) (m ∷ coding_order anchor m))
    go false e = omega arith

length_map : (n : ℕ) (frames : List Summary) (xs : List ℕ) → length (map (step_at n frames) xs) ≡ length xs
length_map n frames [] = refl
length_map n frames (x ∷ xs) = ap suc (length_map n frames xs)

open_first : (n : ℕ) (frames : List Summary) (i : ℕ) (o : Option ℕ) (held : List Summary) (given : List Step) → IsHeld o held → Reaches n frames i o given → IsFirstOpen given i
open_first n frames i None held given h p =
    let e : frames_of given ≡ coding_order (is_plan_anchor n frames) i = ap frames_of p.given_is ∙ frames_at n frames (coding_order (is_plan_anchor n frames) i) in
    record { before = λ k lt. subst (λ l. Among l k) (sym e) (by k (covered (is_plan_anchor n frames) i k lt)); no_step = none }
  where
    by : (k : ℕ) → Among (coding_order (is_plan_anchor n frames) i) k ⊎ Among (group_before (is_plan_anchor n frames) i) k → Among (coding_order (is_plan_anchor n frames) i) k
    by k (inl c) = c
    by k (inr c) = absurd (subst (λ l. Among l k) p.no_group c)

    none : HasStep given i → ⊥
    none c =
        let e : frames_of given ≡ coding_order (is_plan_anchor n frames) i = ap frames_of p.given_is ∙ frames_at n frames (coding_order (is_plan_anchor n frames) i) in
        let l : i < i = order_below (is_plan_anchor n frames) i i (subst (λ l. Among l i) e c) in omega arith
open_first n frames i (Some d) held given h p =
    record { before = λ k lt. subst (λ l. Among l k) (sym same) (by k (covered (is_plan_anchor n frames) i k lt)); no_step = λ c. none (subst (λ l. Among l i) same c) }
  where
    mine : List ℕ
    mine = group_before (is_plan_anchor n frames) i ++ (i + d) ∷ coding_order (is_plan_anchor n frames) i

    far : 0 < d
    far = h.0

    same : frames_of given ≡ group_before (is_plan_anchor n frames) i ++ (i + d) ∷ coding_order (is_plan_anchor n frames) i
    same = ap frames_of p.given_is ∙ frames_at n frames (group_before (is_plan_anchor n frames) i ++ (i + d) ∷ coding_order (is_plan_anchor n frames) (i + d))
        ∙ ap (λ l. group_before (is_plan_anchor n frames) i ++ (i + d) ∷ l) (clear_order (is_plan_anchor n frames) i (i + d) (omega arith) p.clear)

    by : (k : ℕ) → Among (coding_order (is_plan_anchor n frames) i) k ⊎ Among (group_before (is_plan_anchor n frames) i) k
        → Among (group_before (is_plan_anchor n frames) i ++ (i + d) ∷ coding_order (is_plan_anchor n frames) i) k
    by k (inl c) = among_right (group_before (is_plan_anchor n frames) i) ((i + d) ∷ coding_order (is_plan_anchor n frames) i) k (inr c)
    by k (inr c) = among_left (group_before (is_plan_anchor n frames) i) ((i + d) ∷ coding_order (is_plan_anchor n frames) i) k c

    none : Among (group_before (is_plan_anchor n frames) i ++ (i + d) ∷ coding_order (is_plan_anchor n frames) i) i → ⊥
    none c = cases (among_cases (group_before (is_plan_anchor n frames) i) ((i + d) ∷ coding_order (is_plan_anchor n frames) i) i c)
      where
        cases : Among (group_before (is_plan_anchor n frames) i) i ⊎ Among ((i + d) ∷ coding_order (is_plan_anchor n frames) i) i → ⊥
        cases (inl g) = let l : i < i = group_below (is_plan_anchor n frames) i i g in omega arith
        cases (inr (inl e)) = let f : 0 < d = far in omega arith
        cases (inr (inr o)) = let l : i < i = order_below (is_plan_anchor n frames) i i o in omega arith

-- the summaries held are those from the first frame without a step on
pub held_is : (n : ℕ) (window : WindowState) (pushed : List Summary) (given : List Step) → StandsFor n window pushed given
    → (first : ℕ) × (first + length window.held ≡ length pushed) × IsFirstOpen given first
held_is n window pushed given st = (window.first, st.first, open_first n (pushed ++ []) window.first window.group window.held given st.group (st.reached [] (λ c. refl)))

-- all steps are given but for those left
pub counts : (n : ℕ) (window : WindowState) (pushed : List Summary) (given : List Step) → StandsFor n window pushed given → length given + steps_left window ≡ length pushed
counts n window pushed given st = go window.group st.group (st.reached [] (λ c. refl))
  where
    go : (o : Option ℕ) → IsHeld o window.held → Reaches n (pushed ++ []) window.first o given → length given + left_of o (length window.held) ≡ length pushed
    go None h p =
        let anchor = is_plan_anchor n (pushed ++ []) in
        let a : length given ≡ length (coding_order anchor window.first) = ap length p.given_is ∙ length_map n (pushed ++ []) (coding_order anchor window.first) in
        let b : length (coding_order anchor window.first) + length (group_before anchor window.first) ≡ window.first = counted anchor window.first in
        let c : length (group_before anchor window.first) ≡ 0 = ap length p.no_group in
        let sum : window.first + length window.held ≡ length pushed = st.first in
        omega arith
    go (Some d) h p =
        let anchor = is_plan_anchor n (pushed ++ []) in
        let i = window.first in
        let xs = group_before anchor i ++ (i + d) ∷ coding_order anchor (i + d) in
        let a : length given ≡ length xs = ap length p.given_is ∙ length_map n (pushed ++ []) xs in
        let b : length xs ≡ length (group_before anchor i) + suc (length (coding_order anchor (i + d))) = length-append (group_before anchor i) ((i + d) ∷ coding_order anchor (i + d)) in
        let e : length (coding_order anchor (i + d)) ≡ length (coding_order anchor i) = ap length (clear_order anchor i (i + d) (omega arith) p.clear) in
        let f : length (coding_order anchor i) + length (group_before anchor i) ≡ i = counted anchor i in
        let sum : i + length window.held ≡ length pushed = st.first in
        let near : d < length window.held = h.1 in
        omega arith
