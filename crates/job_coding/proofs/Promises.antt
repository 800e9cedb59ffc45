-- What is appended where a file was read is right, where the defined output is.
use Rattle.std.proofs.Common.{◌≡◌, ℕ, List, [], append-nil, Option, Some, None, Result, Ok, Err, refl, subst, ◌∙◌}
use Rattle.std.specs.Io.KnownBytes.{Appends, Keeps}
use Rattle.mv_ends.specs.Commands.{Runs}
use Rattle.mv_ends.specs.Ends.{Ends, Outcome}
use Rattle.mv_ends.specs.Endings.{ending_of}
use Rattle.mv_ends.specs.Moves.{Inputs, input_of}
use Rattle.mv_ends.specs.Told.{ShelfTold, SinkTold}
use Rattle.mv_terms.specs.declared.status.FrameFault.{FrameFault}
use Rattle.mv_terms.specs.declared.status.Status.{Status}
use Rattle.mv_terms.specs.declared.status.Status.TheVariants as status
use Rattle.y4m_frames.specs.Frames.{File, file_of}
use Rattle.job_coding.specs.Command.{coding_command}
use Rattle.job_coding.specs.Outcome.{AppendsRight, HeaderCoding, IsRead, outcome_of, output_by}

keeps : (old new : Option (List ℕ)) → Appends old new [] → Keeps old new
keeps None new h = tt
keeps (Some xs) None h = h
keeps (Some xs) (Some ys) h = h ∙ append-nil xs

-- an answer that a file was read is the defined one, and what is defined is appended
pub read_ends : (coding : HeaderCoding) (bytes : List ℕ) (s : Status) (old new : Option (List ℕ)) → IsRead s → Ends (outcome_of coding bytes) (ending_of s) old new
    → (s ≡ (outcome_of coding bytes).answer) × Appends old new (output_by coding (file_of bytes))
read_ends coding bytes status.Done old new is ends = ends
read_ends coding bytes (status.Frames fault) old new is ends = ends
read_ends coding bytes other old new is ends = absurd is

pub appends_right : (IsRight : File → List ℕ → Type 0) (coding : HeaderCoding) (bytes : List ℕ) (s : Status) (old new : Option (List ℕ)) → ((file : File) → file_of bytes ≡ Ok file → IsRight file (outcome_of coding bytes).output)
    → IsRead s → Ends (outcome_of coding bytes) (ending_of s) old new → AppendsRight IsRight (file_of bytes) old new
appends_right IsRight coding bytes s old new right is ends = by_file (file_of bytes) (read_ends coding bytes s old new is ends).1 right
  where
    by_file : (r : Result File FrameFault) → Appends old new (output_by coding r) → ((file : File) → r ≡ Ok file → IsRight file (output_by coding r)) → AppendsRight IsRight r old new
    by_file (Err fault) appends right = keeps old new appends
    by_file (Ok file) appends right = (output_by coding (Ok file), appends, right file refl)

-- how a call that runs the command ends
pub runs_end : (coding : HeaderCoding) (name : List ℕ) (old new : ShelfTold) (before after : SinkTold) (s : Status) → Runs (coding_command coding name) old new before after s
    → (inputs : Inputs) → old.named ≡ Some inputs → Ends (outcome_of coding (input_of inputs name)) (ending_of s) before.written after.written
runs_end coding name old new before after s runs inputs told =
    let end = runs.ends inputs told in
    subst (λ (outcome : Outcome Status). Ends outcome (ending_of s) before.written after.written) end.1 end.2
