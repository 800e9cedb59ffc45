-- Numbers in place of contexts.
use Rattle.std.specs.Prelude.{◌≡◌, ℕ, ◌+◌, ◌<◌, ◌≤◌, List, [], ◌∷◌, ◌++◌, Some, map, slice_get, length, bytes_eq}
use Rattle.plan_window.specs.declared.summary.Summary.{Summary}
use Rattle.plan_window.specs.declared.summary.Step.{Step}
use Rattle.plan_window.specs.Plan.{ahead, plan}
use Rattle.plan_window.specs.State.{WindowState}
use Rattle.plan_window.specs.Stands.{MayFollow, StandsFor}

-- all but the context
abbrev pub without_context : Summary → Summary
without_context s =
    record {
      kind = s.kind;
      low_delay = s.low_delay;
      uses_forward = s.uses_forward;
      forward = s.forward;
      backward = s.backward;
      seal = s.seal;
      context = [];
    }

-- The lists differ in their contexts alone, and of two frames at most w apart the contexts are equal in both lists or
-- in none.
pub record AreNumbered (w : ℕ) (frames numbered : List Summary) : Type 0 where
  pub rest : map without_context frames ≡ map without_context numbered
  pub contexts : (i j : ℕ) (a b c d : Summary) → i < j → j ≤ i + w
      → slice_get frames i ≡ Some a → slice_get frames j ≡ Some b
      → slice_get numbered i ≡ Some c → slice_get numbered j ≡ Some d
      → bytes_eq a.context b.context ≡ bytes_eq c.context d.context

-- one more frame s, with the number of t: it has the same number as one of the w frames before it exactly where it has
-- the same context
abbrev pub AgreesWithLast : ℕ → List Summary → List Summary → Summary → Summary → Type 0
AgreesWithLast w frames numbered s t =
    (i : ℕ) (a c : Summary) → i < length frames → length frames ≤ i + w
    → slice_get frames i ≡ Some a → slice_get numbered i ≡ Some c
    → bytes_eq a.context s.context ≡ bytes_eq c.context t.context

-- the plan is the same
abbrev pub NumbersServe : Type 0
NumbersServe =
    (frames numbered : List Summary) → AreNumbered ahead frames numbered
    → plan ahead frames ≡ plan ahead numbered

-- the frames may be numbered as they come
abbrev pub NumbersAreAdded : Type 0
NumbersAreAdded =
    (frames numbered : List Summary) (s t : Summary) → AreNumbered ahead frames numbered
    → AgreesWithLast ahead frames numbered s t → without_context s ≡ without_context t
    → AreNumbered ahead (frames ++ s ∷ []) (numbered ++ t ∷ [])

-- The steps that a window of numbered summaries gave are the first ones of the plan over the contexts, whatever frames
-- still come.
abbrev pub NumbersBegin : Type 0
NumbersBegin =
    (window : WindowState) (frames numbered : List Summary) (given : List Step)
    → StandsFor ahead window numbered given → AreNumbered ahead frames numbered
    → (more : List Summary) → MayFollow window.closed more
    → (later : List Step) × (plan ahead (frames ++ more) ≡ later ++ given)
