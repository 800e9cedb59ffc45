-- When a fault may be answered: its count rose in the call.
use Rattle.std.specs.Prelude.{⊤, Option, None, Some, length, ℕ, ◌+◌, ◌-◌, ◌^◌, ◌≤◌, min, List, IsTrue}
use Rattle.mv_ends.specs.Told.{ShelfTold, SinkTold}

-- A count rose, or it stands at the last value that it can have.
abbrev pub Rose : ℕ → ℕ → Type 0
Rose before now = min (before + 1) (2 ^ 64 - 1) ≤ now

-- counts by name, none of which fell
abbrev pub NeverFall : (List ℕ → ℕ) → (List ℕ → ℕ) → Type 0
NeverFall before now = (name : List ℕ) → before name ≤ now name

-- Why a read failed: some name counts as selected, and the count of each such name rose.
pub record FailedRead (old new : ShelfTold) : Type 0 where
  pub some : (name : List ℕ) × IsTrue (old.selected name)
  pub each : (name : List ℕ) → IsTrue (old.selected name)
      → Rose (old.read_faults name) (new.read_faults name)

-- Known bytes grew to as many as a sink surely takes.
abbrev pub Fills : ℕ → Option (List ℕ) → Option (List ℕ) → Type 0
Fills room None new = ⊤
Fills room (Some before) None = ⊥
Fills room (Some before) (Some now) = room ≤ length now

-- Why a write failed: its count rose, and all the bytes that are surely taken were taken.
pub record FailedWrite (old new : SinkTold) : Type 0 where
  pub rose : Rose old.faults new.faults
  pub full : Fills old.room old.written new.written
