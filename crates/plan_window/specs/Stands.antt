-- What a window stands for: the summaries that were pushed into it, in the order of their frames, and the steps that it
-- gave, the last one first.
use Rattle.std.specs.Prelude.{◌≡◌, ℕ, ◌+◌, ◌≤◌, ◌<◌, Bool, true, false, List, [], ◌∷◌, ◌++◌, Option, None, Some, map, drop, length}
use Rattle.plan_window.specs.declared.summary.Summary.{Summary}
use Rattle.plan_window.specs.declared.summary.Step.{Step}
use Rattle.plan_window.specs.Plan.{is_plan_anchor, nearest_before, step_at, group_before, coding_order}
use Rattle.plan_window.specs.State.{WindowState, IsHeld}

-- no anchor from frame k up to frame n
abbrev pub NoAnchor : (ℕ → Bool) → ℕ → ℕ → Type 0
NoAnchor anchor k n = (j : ℕ) → k ≤ j → j < n → anchor j ≡ false

-- Between two groups: the frames before this one have their steps, and no others.
pub record Between (w : ℕ) (frames : List Summary) (first : ℕ) (given : List Step) : Type 0 where
  pub no_group : group_before (is_plan_anchor w frames) first ≡ []
  pub given_is : given ≡ map (step_at w frames) (coding_order (is_plan_anchor w frames) first)

-- Within the group of an anchor: the anchor has its step, and so have the frames of its group before this one.
pub record Within (w : ℕ) (frames : List Summary) (first anchor : ℕ) (given : List Step)
    : Type 0 where
  pub is_anchor : is_plan_anchor w frames anchor ≡ true
  pub clear : NoAnchor (is_plan_anchor w frames) first anchor
  pub given_is : given
      ≡ map (step_at w frames)
      (group_before (is_plan_anchor w frames) first
      ++ anchor ∷ coding_order (is_plan_anchor w frames) anchor)

-- the steps given reach this frame, in the group of the anchor at this distance, if there is one
abbrev pub Reaches : ℕ → List Summary → ℕ → Option ℕ → List Step → Type 0
Reaches w frames first None given = Between w frames first given
Reaches w frames first (Some distance) given = Within w frames first (first + distance) given

-- these summaries may still come: none, where the window is closed
abbrev pub MayFollow : Bool → List Summary → Type 0
MayFollow closed more = closed ≡ true → more ≡ []

-- The window holds the last of the summaries pushed, and the steps given are right whatever summaries still come.
pub record StandsFor (w : ℕ) (window : WindowState) (pushed : List Summary)
    (given : List Step) : Type 0 where
  pub held : drop window.first pushed ≡ window.held
  pub first : window.first + length window.held ≡ length pushed
  pub group : IsHeld window.group window.held
  pub nearest : (more : List Summary) → MayFollow window.closed more
      → nearest_before w (pushed ++ more) window.first ≡ window.nearest
  pub reached : (more : List Summary) → MayFollow window.closed more
      → Reaches w (pushed ++ more) window.first window.group given

-- The same where the anchor at this distance has its step, whether it stands first or not.
pub record StandsAt (w : ℕ) (window : WindowState) (distance : ℕ) (pushed : List Summary)
    (given : List Step) : Type 0 where
  pub held : drop window.first pushed ≡ window.held
  pub first : window.first + length window.held ≡ length pushed
  pub near : distance < length window.held
  pub nearest : (more : List Summary) → MayFollow window.closed more
      → nearest_before w (pushed ++ more) window.first ≡ window.nearest
  pub reached : (more : List Summary) → MayFollow window.closed more
      → Within w (pushed ++ more) window.first (window.first + distance) given
