-- A call that answers no fault is complete.
use Rattle.std.proofs.Common.{◌≡◌, inl, inr, ℕ, List, Option, refl}
use Rattle.mv_ends.specs.Ends.{Outcome, Ends}
use Rattle.mv_ends.specs.Endings.{ending_of}
use Rattle.mv_ends.specs.Complete.{IsComplete, NoFaultIsComplete}
use Rattle.mv_terms.specs.declared.status.Status.{Status}
use Rattle.mv_terms.specs.declared.status.Status.TheVariants as status

-- where no fault is answered, what ends as it is defined is complete
pub complete_but_for_faults : (outcome : Outcome Status) (answered : Status) (old new : Option (List ℕ))
    → (answered ≡ status.OpenFault → ⊥) → (answered ≡ status.ReadFault → ⊥) → (answered ≡ status.WriteFault → ⊥)
    → Ends outcome (ending_of answered) old new → IsComplete outcome answered old new
complete_but_for_faults outcome status.NoMemory old new opens reads writes ends = inl refl
complete_but_for_faults outcome status.OpenFault old new opens reads writes ends = absurd (opens refl)
complete_but_for_faults outcome status.ReadFault old new opens reads writes ends = absurd (reads refl)
complete_but_for_faults outcome status.WriteFault old new opens reads writes ends = absurd (writes refl)
complete_but_for_faults outcome status.Done old new opens reads writes ends = inr ends
complete_but_for_faults outcome status.Words old new opens reads writes ends = inr ends
complete_but_for_faults outcome (status.Unit k why) old new opens reads writes ends = inr ends
complete_but_for_faults outcome (status.Frames fault) old new opens reads writes ends = inr ends
complete_but_for_faults outcome (status.Line n fault) old new opens reads writes ends = inr ends

pub no_fault_is_complete : NoFaultIsComplete
no_fault_is_complete outcome answered old new before now ends counted none =
    complete_but_for_faults outcome answered old new
    (λ is. let at = counted.opens is in none.opens at.0 at.1)
    (λ is. let at = counted.reads is in none.reads at.0 at.1)
    (λ is. none.writes (counted.writes is))
    ends
