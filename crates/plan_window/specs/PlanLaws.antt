-- What follows for the steps of a window from what it stands for.
use Rattle.std.specs.Prelude.{◌≡◌, ◌⊎◌, ℕ, ◌+◌, ◌<◌, List, [], ◌∷◌, ◌++◌, map, length}
use Rattle.plan_window.specs.declared.summary.Summary.{Summary}
use Rattle.plan_window.specs.declared.summary.Step.{Step}
use Rattle.plan_window.specs.Plan.{ahead, plan}
use Rattle.plan_window.specs.State.{WindowState, count_pushed, steps_left}
use Rattle.plan_window.specs.Stands.{MayFollow, StandsFor}

abbrev pub Among : List ℕ → ℕ → Type 0
Among [] k = ⊥
Among (x ∷ xs) k = (x ≡ k) ⊎ Among xs k

-- one of these steps is that of frame k
abbrev pub HasStep : List Step → ℕ → Type 0
HasStep given k = Among (map (λ (s : Step). s.frame) given) k

-- frame i is the first one without a step
pub record IsFirstOpen (given : List Step) (i : ℕ) : Type 0 where
  pub before : (k : ℕ) → k < i → HasStep given k
  pub no_step : HasStep given i → ⊥

-- a window, and what it stands for
abbrev pub OfWindows : (WindowState → List Summary → List Step → Type 0) → Type 0
OfWindows Law =
    (window : WindowState) (pushed : List Summary) (given : List Step)
    → StandsFor ahead window pushed given → Law window pushed given

-- the steps are the first ones of the plan, whatever summaries still come
abbrev pub BeginPlan : WindowState → List Summary → List Step → Type 0
BeginPlan window pushed given =
    (more : List Summary) → MayFollow window.closed more
    → (later : List Step) × (plan ahead (pushed ++ more) ≡ later ++ given)

-- where none is held, they are the plan of the summaries pushed
abbrev pub ArePlan : WindowState → List Summary → List Step → Type 0
ArePlan window pushed given = window.held ≡ [] → given ≡ plan ahead pushed

-- the summaries held are those from the first frame on that has no step
abbrev pub AreHeldFromOpen : WindowState → List Summary → List Step → Type 0
AreHeldFromOpen window pushed given =
    (first : ℕ) × (first + length window.held ≡ length pushed) × IsFirstOpen given first

-- the counts of a window are those of the summaries and of the steps
abbrev pub AreCounted : WindowState → List Summary → List Step → Type 0
AreCounted window pushed given =
    (count_pushed window ≡ length pushed) × (length given + steps_left window ≡ length pushed)
