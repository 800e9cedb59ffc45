-- What is known of the faults of a command.
use Rattle.std.proofs.Common.{◌≡◌, ℕ, List}
use Rattle.mv_ends.specs.Causes.{FailedWrite, Rose}
use Rattle.mv_ends.specs.Commands.{Command, NamedFaultsAreCounted, NoneRoseOf}
use Rattle.mv_ends.specs.Complete.{IsComplete, counts_of}
use Rattle.mv_ends.specs.Endings.{ending_of}
use Rattle.mv_ends.specs.Ends.{Ends, Outcome}
use Rattle.mv_ends.specs.Moves.{Inputs}
use Rattle.mv_ends.specs.Told.{ShelfTold, SinkTold}
use Rattle.mv_ends.proofs.CompleteLaws.{complete_but_for_faults}
use Rattle.mv_terms.specs.declared.status.Status.{Status}
use Rattle.mv_terms.specs.declared.status.Status.TheVariants as status

-- where none was counted of the inputs that it names, nor of writing, it ends as it is defined, or for want of memory
pub completes : (command : Command) (inputs : Inputs) (old new : ShelfTold) (before after : SinkTold) (answered : Status)
    → ((outcome : Outcome Status) × command.is_outcome inputs outcome × Ends outcome (ending_of answered) before.written after.written)
    → NamedFaultsAreCounted (command.names_input inputs) (counts_of old before) (counts_of new after) answered
    → NoneRoseOf (command.names_input inputs) (counts_of old before) (counts_of new after)
    → (outcome : Outcome Status) × command.is_outcome inputs outcome × IsComplete outcome answered before.written after.written
completes command inputs old new before after answered (outcome, is, ends) counted none = (
  outcome,
  is,
  complete_but_for_faults outcome answered before.written after.written
      (λ e. let at = counted.opens e in none.opens at.0 at.1 at.2)
      (λ e. let at = counted.reads e in none.reads at.0 at.1 at.2)
      (λ e. none.writes (counted.writes e))
      ends,
)

-- the faults of one name count where it is that of an input
pub faults_of_name : (IsInput : List ℕ → Type 0) (old new : ShelfTold) (before after : SinkTold) (answered : Status) (name : List ℕ) → IsInput name
    → (answered ≡ status.OpenFault → Rose (old.open_faults name) (new.open_faults name))
    → (answered ≡ status.ReadFault → Rose (old.read_faults name) (new.read_faults name))
    → (answered ≡ status.WriteFault → FailedWrite before after) → NamedFaultsAreCounted IsInput (counts_of old before) (counts_of new after) answered
faults_of_name IsInput old new before after answered name here opens reads writes = record {
  opens = λ is. (name, here, opens is);
  reads = λ is. (name, here, reads is);
  writes = λ is. (writes is).rose;
}
