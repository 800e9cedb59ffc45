-- The fields of a window.
use Rattle.std.specs.Prelude.{◌≡◌, ◌+◌, ◌<◌, ◌≤◌, ◌^◌, length}
use Rattle.plan_window.specs.State.{WindowState, IsHeld}
use Rattle.plan_window.specs.declared.window.Window.TheInside.{Inside}

-- what they say
abbrev pub state_of : Inside → WindowState
state_of w =
    record {
      held = w.held.items;
      first = w.first;
      nearest = w.nearest;
      group = w.group;
      closed = w.closed;
    }

-- what holds of them between two calls
pub record IsWindow (w : Inside) : Type 0 where
  pub capacity : w.held.capacity ≡ 17
  pub room : length w.held.items ≤ 17
  pub count : w.first + length w.held.items < 2 ^ 64
  pub group : IsHeld w.group w.held.items
