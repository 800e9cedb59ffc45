-- Commands over named inputs: what one is defined to do, and that a call runs it.
use Rattle.std.specs.Prelude.{◌≡◌, ℕ, List, Option}
use Rattle.std.specs.Option.{ForSome}
use Rattle.mv_ends.specs.Causes.{FailedWrite, Rose}
use Rattle.mv_ends.specs.Complete.{FaultCounts, IsComplete, counts_of}
use Rattle.mv_ends.specs.Endings.{ending_of}
use Rattle.mv_ends.specs.Ends.{Ends, Outcome}
use Rattle.mv_ends.specs.Moves.{Inputs}
use Rattle.mv_ends.specs.Told.{ShelfTold, SinkTold}
use Rattle.mv_terms.specs.declared.status.Status.{Status}
use Rattle.mv_terms.specs.declared.status.Status.TheVariants as status

-- What defines a command. What the shelf and the sink tell is given as it is before a call and behind it.
pub record Command : Type 1 where
  -- what it answers and writes over these inputs
  pub is_outcome : Inputs → Outcome Status → Type 0
  -- the statuses that it ends with, whatever its inputs are
  pub is_status : Status → Type 0
  -- what is left of the selected input where it is done
  pub is_done_over : Option (List ℕ) → Type 0
  -- an input couldn't be opened: its faults rose, and so much is written
  pub fails_to_open : ShelfTold → ShelfTold → SinkTold → SinkTold → Type 0
  -- an input couldn't be read: its faults rose, and what is written is known
  pub fails_to_read : ShelfTold → ShelfTold → SinkTold → SinkTold → Type 0
  -- the output couldn't be written: how far the inputs were taken
  pub fails_to_write : ShelfTold → ShelfTold → SinkTold → SinkTold → Type 0
  -- memory was wanting: what is written
  pub lacks_memory : SinkTold → SinkTold → Type 0
  -- what is promised of the output beyond its definition, where it ends with this status
  pub is_promised : Inputs → Status → SinkTold → SinkTold → Type 0
  -- the names of the inputs that it reads
  pub names_input : Inputs → List ℕ → Type 0

-- The status is that of a fault only where this fault's count rose in the call, of one of these inputs.
pub record NamedFaultsAreCounted (IsInput : List ℕ → Type 0) (before now : FaultCounts)
    (answered : Status) : Type 0 where
  pub opens : answered ≡ status.OpenFault → (name : List ℕ) × IsInput name
      × Rose (before.opens name) (now.opens name)
  pub reads : answered ≡ status.ReadFault → (name : List ℕ) × IsInput name
      × Rose (before.reads name) (now.reads name)
  pub writes : answered ≡ status.WriteFault → Rose before.writes now.writes

-- No fault of these inputs was counted in a call, and none of writing.
pub record NoneRoseOf (IsInput : List ℕ → Type 0) (before now : FaultCounts) : Type 0 where
  pub opens : (name : List ℕ) → IsInput name → Rose (before.opens name) (now.opens name) → ⊥
  pub reads : (name : List ℕ) → IsInput name → Rose (before.reads name) (now.reads name) → ⊥
  pub writes : Rose before.writes now.writes → ⊥

-- A call runs a command: what then is known of its status, of the shelf and of the sink.
pub record Runs (command : Command) (old new : ShelfTold) (before after : SinkTold)
    (answered : Status) : Type 0 where
  -- Where the inputs are told, it ends as it is defined, but for want of memory and for the faults below.
  pub ends : ForSome old.named (λ inputs.
      (outcome : Outcome Status) × command.is_outcome inputs outcome
      × Ends outcome (ending_of answered) before.written after.written)
  -- Where no fault was counted, of the inputs that it names and of writing, it ends so but for want of memory.
  pub complete : ForSome old.named (λ inputs.
      NoneRoseOf (command.names_input inputs) (counts_of old before) (counts_of new after)
      → (outcome : Outcome Status) × command.is_outcome inputs outcome
      × IsComplete outcome answered before.written after.written)
  -- A fault is answered only where it was counted in this call, of an input that it names.
  pub counted : ForSome old.named (λ inputs.
      NamedFaultsAreCounted (command.names_input inputs) (counts_of old before)
      (counts_of new after) answered)
  -- What is promised of the output holds.
  pub promised : ForSome old.named (λ inputs. command.is_promised inputs answered before after)
  -- Where it is done, its input was taken as it says.
  pub done : answered ≡ status.Done → command.is_done_over new.rest
  -- Also where the inputs aren't told, only its own statuses come.
  pub kind : command.is_status answered
  -- What then is known holds where an input couldn't be opened or read, where a write failed, or where memory was wanting.
  pub open_fault : answered ≡ status.OpenFault → command.fails_to_open old new before after
  pub read_fault : answered ≡ status.ReadFault → command.fails_to_read old new before after
  pub unwritten : answered ≡ status.WriteFault → command.fails_to_write old new before after
  pub no_memory : answered ≡ status.NoMemory → command.lacks_memory before after
  -- A write fails only where the sink did, and counted it.
  pub write_fault : answered ≡ status.WriteFault → FailedWrite before after
