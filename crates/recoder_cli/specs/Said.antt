-- What is said of a run.
use Rattle.std.specs.Prelude.{◌⊎◌, ℕ, List}
use Rattle.std.specs.Io.KnownBytes.{Appends}
use Rattle.mv_ends.specs.Causes.{FailedWrite}
use Rattle.mv_ends.specs.Kept.{KeepsSink}
use Rattle.mv_ends.specs.Moves.{AppendsFront}
use Rattle.mv_ends.specs.Told.{SinkTold}

-- What was said of this line.
pub record IsSaid (old new : SinkTold) (line : List ℕ) : Type 0 where
  -- The whole line was; or a write failed, and only the front of the line before it was.
  pub said : Appends old.written new.written line
      ⊎ (AppendsFront old.written new.written line × FailedWrite old new)
  pub keeps : KeepsSink old new
