-- Completeness: where no count of faults rises, a call ends as its input defines, or for want of memory.
use Rattle.std.specs.Prelude.{◌≡◌, ◌⊎◌, ℕ, List, Option}
use Rattle.std.specs.Io.KnownBytes.{Appends}
use Rattle.mv_ends.specs.Causes.{Rose}
use Rattle.mv_ends.specs.Ends.{Outcome, Ends}
use Rattle.mv_ends.specs.Endings.{ending_of}
use Rattle.mv_ends.specs.Told.{ShelfTold, SinkTold}
use Rattle.mv_terms.specs.declared.status.Status.{Status}
use Rattle.mv_terms.specs.declared.status.Status.TheVariants as status

-- The counts of the faults of a call's endpoints, before or behind it: of opening and of reading the input of a name, and
-- of writing.
pub record FaultCounts : Type 0 where
  pub opens : List ℕ → ℕ
  pub reads : List ℕ → ℕ
  pub writes : ℕ

-- the counts that endpoints tell
abbrev pub counts_of : ShelfTold → SinkTold → FaultCounts
counts_of shelf out =
    record { opens = shelf.open_faults; reads = shelf.read_faults; writes = out.faults }

-- The status is that of a fault only where this fault's count rose in the call, of an input for some name.
pub record FaultsAreCounted (before now : FaultCounts) (answered : Status) : Type 0 where
  pub opens : answered ≡ status.OpenFault → (name : List ℕ)
      × Rose (before.opens name) (now.opens name)
  pub reads : answered ≡ status.ReadFault → (name : List ℕ)
      × Rose (before.reads name) (now.reads name)
  pub writes : answered ≡ status.WriteFault → Rose before.writes now.writes

-- No count rose.
pub record NoneRose (before now : FaultCounts) : Type 0 where
  pub opens : (name : List ℕ) → Rose (before.opens name) (now.opens name) → ⊥
  pub reads : (name : List ℕ) → Rose (before.reads name) (now.reads name) → ⊥
  pub writes : Rose before.writes now.writes → ⊥

-- The call ended for want of memory, or with the answer and the whole output that are defined.
abbrev pub IsComplete : Outcome Status → Status → Option (List ℕ) → Option (List ℕ) → Type 0
IsComplete outcome answered old new =
    (answered ≡ status.NoMemory) ⊎ ((answered ≡ outcome.answer) × Appends old new outcome.output)

-- Whatever the endpoints: a call that ends as it is defined, but for counted faults, is complete where no count rose.
abbrev pub NoFaultIsComplete : Type 0
NoFaultIsComplete = (outcome : Outcome Status) (answered : Status) (old new : Option (List ℕ))
    (before now : FaultCounts)
    → Ends outcome (ending_of answered) old new
    → FaultsAreCounted before now answered
    → NoneRose before now
    → IsComplete outcome answered old new
