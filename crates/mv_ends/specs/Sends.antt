-- What a call does to a sink that is to take some bytes whole.
use Rattle.std.specs.Prelude.{ℕ, List, Result, OnOk, OnErr}
use Rattle.std.specs.Io.KnownBytes.{Appends}
use Rattle.mv_ends.specs.Causes.{FailedWrite}
use Rattle.mv_ends.specs.Kept.{KeepsSink}
use Rattle.mv_ends.specs.Moves.{AppendsFront}
use Rattle.mv_ends.specs.Told.{SinkTold}

-- All the bytes were written, or only a front of them, where the sink failed.
pub record Sends {T E : Type 0} (old new : SinkTold) (bytes : List ℕ) (result : Result T E)
    : Type 0 where
  pub sent : OnOk result (Appends old.written new.written bytes)
  pub front : OnErr result (AppendsFront old.written new.written bytes)
  pub keeps : KeepsSink old new
  -- it fails only where the sink did, and counted it
  pub failed : OnErr result (FailedWrite old new)
