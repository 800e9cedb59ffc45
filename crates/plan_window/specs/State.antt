-- What contracts see of a window.
use Rattle.std.specs.Prelude.{ℕ, suc, ◌+◌, ◌-◌, ◌<◌, Bool, List, Option, None, Some, length, drop}
use Rattle.plan_window.specs.declared.summary.Summary.{Summary}

pub record WindowState : Type 0 where
  -- the summaries held, in the order of their frames
  pub held : List Summary
  -- the number of the frame of the first of them
  pub first : ℕ
  -- the nearest anchor before that frame
  pub nearest : Option Summary
  -- how far behind it the anchor stands whose group is given
  pub group : Option ℕ
  -- no more summaries come
  pub closed : Bool

-- how many summaries were pushed
abbrev pub count_pushed : WindowState → ℕ
count_pushed w = w.first + length w.held

-- how many of the summaries held have no step yet: the anchor of the group has one
abbrev pub left_of : Option ℕ → ℕ → ℕ
left_of None n = n
left_of (Some distance) n = n - 1

abbrev pub steps_left : WindowState → ℕ
steps_left w = left_of w.group (length w.held)

-- the anchor of the group is held, behind the first one
abbrev pub IsHeld : Option ℕ → List Summary → Type 0
IsHeld None held = Unit {0}
IsHeld (Some distance) held = (0 < distance) × (distance < length held)

-- the same but for the first summary
abbrev pub without_front : WindowState → WindowState
without_front w =
    record {
      held = drop 1 w.held;
      first = suc w.first;
      nearest = w.nearest;
      group = None;
      closed = w.closed;
    }

-- the same but for the first summary, which is an anchor
abbrev pub behind_anchor : WindowState → Summary → WindowState
behind_anchor w anchor =
    record {
      held = drop 1 w.held;
      first = suc w.first;
      nearest = Some anchor;
      group = None;
      closed = w.closed;
    }

-- the same in the group of the anchor at this distance
abbrev pub in_group : WindowState → ℕ → WindowState
in_group w distance =
    record {
      held = w.held;
      first = w.first;
      nearest = w.nearest;
      group = Some distance;
      closed = w.closed;
    }
