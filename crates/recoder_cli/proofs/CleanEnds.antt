-- Over endpoints that don't fail nothing but want of memory keeps a command from its end.
use Rattle.std.proofs.Common.{◌≡◌, ◌⊎◌, subst, refl, ℕ, ◌+◌, ◌≤◌, List, length, arith, inl, inr, Some, Result, Ok, Err}
use Rattle.std.specs.Io.KnownBytes.{Appends}
use Rattle.mv_ends.specs.Causes.{Rose, FailedWrite}
use Rattle.mv_ends.specs.Clean.{taken_by, room_of, shelf_told, sink_told}
use Rattle.mv_ends.specs.Commands.{NamedFaultsAreCounted}
use Rattle.mv_ends.specs.Complete.{IsComplete, counts_of}
use Rattle.mv_ends.specs.Moves.{AppendsFront}
use Rattle.mv_ends.specs.Endings.{ending_of}
use Rattle.mv_ends.specs.Ends.{Outcome, Ends}
use Rattle.mv_ends.specs.Sends.{Sends}
use Rattle.mv_ends.specs.declared.Failed.{Failed}
use Rattle.mv_ends.specs.Told.{SinkTold}
use Rattle.mv_ends.specs.declared.clean.CleanShelf.{CleanShelf}
use Rattle.mv_ends.specs.declared.clean.CleanSink.{CleanSink}
use Rattle.mv_ends.proofs.CompleteLaws.{complete_but_for_faults}
use Rattle.mv_ends.proofs.Parts.{fails_without_room}
use Rattle.recoder_cli.specs.Said.{IsSaid}
use Rattle.mv_terms.specs.declared.status.Status.{Status}
use Rattle.mv_terms.specs.declared.status.Status.TheVariants as status

pub clean_end : (IsInput : List ℕ → Type 0) (shelf read : CleanShelf) (old new : CleanSink) (d : Outcome Status) (s : Status) → NamedFaultsAreCounted IsInput (counts_of (shelf_told shelf) (sink_told old)) (counts_of (shelf_told read) (sink_told new)) s
    → (s ≡ status.WriteFault → FailedWrite (sink_told old) (sink_told new)) → length (taken_by old) + length d.output ≤ room_of old
    → Ends d (ending_of s) (Some (taken_by old)) (Some (taken_by new)) → IsComplete d s (Some (taken_by old)) (Some (taken_by new))
clean_end IsInput shelf read old new d s counted w fits e =
    complete_but_for_faults d s (Some (taken_by old)) (Some (taken_by new)) (λ is. none (counted.opens is).2) (λ is. none (counted.reads is).2)
    (λ is. fails_without_room (sink_told old) (sink_told new) (taken_by old) d.output refl fits (subst (λ (x : Status). Ends d (ending_of x) (Some (taken_by old)) (Some (taken_by new))) is e) (w is))
    e
  where
    none : Rose 0 0 → ⊥
    none rose = omega (arith, rose)

-- what is said stands whole where there is room
pub clean_line : (old new : CleanSink) (line : List ℕ) → length (taken_by old) + length line ≤ room_of old
    → IsSaid (sink_told old) (sink_told new) line → Appends (Some (taken_by old)) (Some (taken_by new)) line
clean_line old new line fits says = by_said says.said
  where
    by_said : Appends (Some (taken_by old)) (Some (taken_by new)) line ⊎ (AppendsFront (Some (taken_by old)) (Some (taken_by new)) line × FailedWrite (sink_told old) (sink_told new)) → Appends (Some (taken_by old)) (Some (taken_by new)) line
    by_said (inl whole) = whole
    by_said (inr cut) = absurd (fails_without_room (sink_told old) (sink_told new) (taken_by old) line refl fits cut.0 cut.1)

-- a send says its bytes
pub said_by : (old new : SinkTold) (line : List ℕ) (r : Result (Unit {0}) Failed) → Sends old new line r → IsSaid old new line
said_by old new line (Ok v) h = record { said = inl h.sent; keeps = h.keeps }
said_by old new line (Err e) h = record { said = inr (h.front, h.failed); keeps = h.keeps }
