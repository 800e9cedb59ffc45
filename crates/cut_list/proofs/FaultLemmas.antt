-- Whose faults count in a cut.
use Rattle.std.proofs.Common.{◌≡◌, ℕ, inl, inr, List, Option, Some, Result, Ok, refl, sym, subst}
use Rattle.mv_ends.specs.Causes.{FailedWrite, Rose}
use Rattle.mv_ends.specs.Commands.{NamedFaultsAreCounted}
use Rattle.mv_ends.specs.Complete.{counts_of}
use Rattle.mv_ends.specs.Moves.{Inputs, input_of}
use Rattle.mv_ends.specs.Told.{ShelfTold, SinkTold}
use Rattle.mv_terms.specs.declared.status.Status.{Status}
use Rattle.mv_terms.specs.declared.status.Status.TheVariants as status
use Rattle.cut_list.specs.Command.{IsListed, cut_command}
use Rattle.cut_list.specs.Cut.{AreListed, FailsToOpenCut, FailsToReadCut, RoseAt}
use Rattle.cut_list.specs.List.{entries_of}
use Rattle.cut_list.specs.declared.entry.Entry.{Entry}

-- the count of some name that the list gives rose
abbrev RoseListed : List ℕ → Inputs → (List ℕ → ℕ) → (List ℕ → ℕ) → Type 0
RoseListed list inputs before now = (name : List ℕ) × (cut_command list).names_input inputs name × Rose (before name) (now name)

of_line : (list : List ℕ) (inputs : Inputs) (entries : List Entry) (line : ℕ) (before now : List ℕ → ℕ) → AreListed (Some inputs) list entries → RoseAt entries line before now → RoseListed list inputs before now
of_line list inputs entries line before now listed at =
    let is : entries_of (input_of inputs list) ≡ Ok entries = listed inputs refl in
    (at.entry.name, inr (subst (λ (r : Result (List Entry) ℕ). IsListed r at.entry.name) (sym is) (line, at.entry, at.entry_is, refl)), at.rose)

opens_listed : (list : List ℕ) (inputs : Inputs) (old new : ShelfTold) (before after : SinkTold) → old.named ≡ Some inputs → FailsToOpenCut list old new before after → RoseListed list inputs old.open_faults new.open_faults
opens_listed list inputs old new before after told (inl h) = (list, inl refl, h.0)
opens_listed list inputs old new before after told (inr (entries, listed, (line, at, wrote))) =
    of_line list inputs entries line old.open_faults new.open_faults (subst (λ (named : Option Inputs). AreListed named list entries) told listed) at

reads_listed : (list : List ℕ) (inputs : Inputs) (old new : ShelfTold) (before after : SinkTold) → old.named ≡ Some inputs → FailsToReadCut list old new before after → RoseListed list inputs old.read_faults new.read_faults
reads_listed list inputs old new before after told (inl h) = (list, inl refl, h.0)
reads_listed list inputs old new before after told (inr (entries, listed, (line, at, wrote))) =
    of_line list inputs entries line old.read_faults new.read_faults (subst (λ (named : Option Inputs). AreListed named list entries) told listed) at

pub faults_listed : (list : List ℕ) (inputs : Inputs) (old new : ShelfTold) (before after : SinkTold) (answered : Status) → old.named ≡ Some inputs
    → (answered ≡ status.OpenFault → FailsToOpenCut list old new before after)
    → (answered ≡ status.ReadFault → FailsToReadCut list old new before after)
    → (answered ≡ status.WriteFault → FailedWrite before after)
    → NamedFaultsAreCounted ((cut_command list).names_input inputs) (counts_of old before) (counts_of new after) answered
faults_listed list inputs old new before after answered told opens reads writes = record {
  opens = λ is. opens_listed list inputs old new before after told (opens is);
  reads = λ is. reads_listed list inputs old new before after told (reads is);
  writes = λ is. (writes is).rose;
}
