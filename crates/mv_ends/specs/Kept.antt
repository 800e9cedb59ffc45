-- What every call keeps of its endpoints.
use Rattle.std.specs.Prelude.{◌≡◌, ◌≤◌, ◌<◌}
use Rattle.mv_ends.specs.Causes.{NeverFall, Fills}
use Rattle.mv_ends.specs.Told.{ShelfTold, SinkTold}

-- The inputs stay, and no count of faults falls.
pub record KeepsShelf (old new : ShelfTold) : Type 0 where
  pub inputs : new.named ≡ old.named
  pub opens : NeverFall old.open_faults new.open_faults
  pub reads : NeverFall old.read_faults new.read_faults

-- What a sink surely takes stays. Its count of faults doesn't fall, and it moves only where all the bytes that are surely
-- taken were taken.
pub record KeepsSink (old new : SinkTold) : Type 0 where
  pub same_room : new.room ≡ old.room
  pub later : old.faults ≤ new.faults
  pub moved : old.faults < new.faults → Fills old.room old.written new.written
