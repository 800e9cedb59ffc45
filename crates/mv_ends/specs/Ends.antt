-- How a call ends whose answer and output its input defines: exactly as they are defined, but for want of memory and
-- for faults of its endpoints. Those may come in place of the defined end, and nothing else may.
use Rattle.std.specs.Prelude.{◌≡◌, ℕ, List, Option}
use Rattle.std.specs.Io.KnownBytes.{Appends}
use Rattle.mv_ends.specs.Moves.{AppendsPart, AppendsFront}

-- What a call is defined to answer and to append to its output.
pub record Outcome (Answer : Type 0) : Type 0 where
  pub answer : Answer
  pub output : List ℕ
  -- what is appended before input n is opened, counted from 0
  pub at_open : ℕ → List ℕ
  -- what the units give that lie wholly within the first n bytes of input
  pub given : ℕ → List ℕ

-- With what a call ended: with an answer that its input defines, or for want of memory, or with an endpoint's fault.
pub data Ending (Answer : Type 0) : Type 0 where
  defined : Answer → Ending Answer
  no_memory : Ending Answer
  open_fault : Ending Answer
  read_fault : Ending Answer
  write_fault : Ending Answer

-- How a call with this outcome may end, and what then stands on its output. That the count of a fault rose in the call
-- is a clause of its own.
module _ {Answer : Type 0} where
  abbrev pub Ends : Outcome Answer → Ending Answer → Option (List ℕ) → Option (List ℕ) → Type 0
  Ends outcome (defined answer) old new = (answer ≡ outcome.answer) × Appends old new outcome.output
  Ends outcome no_memory old new = AppendsPart old new outcome.output
  Ends outcome open_fault old new = (n : ℕ) × Appends old new (outcome.at_open n)
  Ends outcome read_fault old new = (n : ℕ) × AppendsPart old new (outcome.given n)
  Ends outcome write_fault old new = AppendsFront old new outcome.output
