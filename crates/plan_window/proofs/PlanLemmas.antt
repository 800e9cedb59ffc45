-- The steps that a window gave are the first ones of the plan.
use Rattle.std.proofs.Common.{◌≡◌, ℕ, suc, ◌+◌, ◌<◌, cond, List, [], ◌∷◌, ◌++◌, map, length, Option, Some, None, refl, sym, ap, ap₂, ◌∙◌, append_assoc, length-append, arith}
use Rattle.std.proofs.lemmas.List.{map-append}
use Rattle.plan_window.specs.declared.summary.Summary.{Summary}
use Rattle.plan_window.specs.declared.summary.Step.{Step}
use Rattle.plan_window.specs.Plan.{ahead, is_plan_anchor, step_at, group_before, coding_order, plan}
use Rattle.plan_window.specs.State.{WindowState, IsHeld}
use Rattle.plan_window.specs.Stands.{Reaches, MayFollow, StandsFor}
use Rattle.plan_window.proofs.OrderLemmas.{order_from, group_from}

-- behind them come others
pub begins : (n : ℕ) (window : WindowState) (pushed : List Summary) (given : List Step) → StandsFor n window pushed given
    → (more : List Summary) → MayFollow window.closed more → (later : List Step) × (plan n (pushed ++ more) ≡ later ++ given)
begins n window pushed given st more ok = go window.group st.group (st.reached more ok)
  where
    long : length (pushed ++ more) ≡ length pushed + length more
    long = length-append pushed more

    go : (o : Option ℕ) → IsHeld o window.held → Reaches n (pushed ++ more) window.first o given → (later : List Step) × (plan n (pushed ++ more) ≡ later ++ given)
    go None h p =
        let anchor = is_plan_anchor n (pushed ++ more) in
        let sum : window.first + length window.held ≡ length pushed = st.first in
        let (later, e) = order_from anchor window.first (length (pushed ++ more)) (omega (arith, long)) in (
          map (step_at n (pushed ++ more)) later,
          ap (map (step_at n (pushed ++ more))) e ∙ map-append (step_at n (pushed ++ more)) later (coding_order anchor window.first)
              ∙ ap (λ l. map (step_at n (pushed ++ more)) later ++ l) (sym p.given_is),
        )
    go (Some d) h p =
        let anchor = is_plan_anchor n (pushed ++ more) in
        let step = step_at n (pushed ++ more) in
        let g = window.first + d in
        let near : d < length window.held = h.1 in
        let sum : window.first + length window.held ≡ length pushed = st.first in
        let (later, e) = order_from anchor (suc g) (length (pushed ++ more)) (omega (arith, long)) in
        let (waiting, f) = group_from anchor window.first g (omega arith) p.clear in
        let whole : coding_order anchor (length (pushed ++ more)) ≡ (later ++ waiting) ++ (group_before anchor window.first ++ g ∷ coding_order anchor g) =
        e ∙ ap (λ b. later ++ cond b (group_before anchor g ++ g ∷ coding_order anchor g) (coding_order anchor g)) p.is_anchor
        ∙ ap (λ l. later ++ (l ++ g ∷ coding_order anchor g)) f ∙ ap (λ l. later ++ l) (append_assoc waiting (group_before anchor window.first) (g ∷ coding_order anchor g))
        ∙ sym (append_assoc later waiting (group_before anchor window.first ++ g ∷ coding_order anchor g)) in (
          map step (later ++ waiting),
          ap (map step) whole ∙ map-append step (later ++ waiting) (group_before anchor window.first ++ g ∷ coding_order anchor g)
              ∙ ap (λ l. map step (later ++ waiting) ++ l) (sym p.given_is),
        )

-- where none is held, none come
pub all_given : (n : ℕ) (window : WindowState) (pushed : List Summary) (given : List Step) → StandsFor n window pushed given
    → window.held ≡ [] → given ≡ plan n pushed
all_given n window pushed given st empty = go window.group st.group (st.reached [] (λ c. refl))
  where
    append_nil : (xs : List Summary) → xs ++ [] ≡ xs
    append_nil [] = refl
    append_nil (x ∷ xs) = ap (λ l. x ∷ l) (append_nil xs)

    none : length window.held ≡ 0
    none = ap length empty

    go : (o : Option ℕ) → IsHeld o window.held → Reaches n (pushed ++ []) window.first o given → given ≡ plan n pushed
    go None h p =
        let sum : window.first + length window.held ≡ length pushed = st.first in
        let e : window.first ≡ length pushed = omega (arith, none) in
        p.given_is ∙ ap₂ (λ frames k. map (step_at n frames) (coding_order (is_plan_anchor n frames) k)) (append_nil pushed) e
    go (Some d) h p = absurd (let near : d < length window.held = h.1 in omega (arith, none))

pub ahead_is : ahead ≡ 16
unfolding ahead
ahead_is = refl
