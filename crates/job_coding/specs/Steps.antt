-- What the steps of the job do. Nobody needs to believe it: it only carries proofs.
use Rattle.std.specs.Prelude.{◌≡◌, ℕ, ◌-◌, ◌%◌, Bool, true, List, length, drop, slice_set, Option, Result, Ok}
use Rattle.std.specs.Option.{ForSome}
use Rattle.mv_ends.specs.Endings.{ending_of}
use Rattle.mv_ends.specs.Ends.{Ends}
use Rattle.mv_terms.specs.declared.status.Status.{Status}
use Rattle.mv_terms.specs.declared.status.Status.TheVariants as status
use Rattle.y4m_frames.specs.declared.halt.Halt.{Halt}
use Rattle.y4m_frames.specs.Frames.{file_of}
use Rattle.y4m_frames.specs.Reading.{Reading}
use Rattle.y4m_frames.specs.Behind.{IsBehind, AnswersBehind}
use Rattle.job_coding.specs.Codings.{IsFrameOf}
use Rattle.job_coding.specs.Outcome.{HeaderCoding, outcome_of, AppendsSettled, IsNear, taken_of}

-- a frame of this number was read into its slot
pub record FillsSlot (slots_old slots_new : List (List ℕ)) (number : ℕ) (old new : Reading)
    (rest_old rest_new : Option (List ℕ)) (result : Result Bool Halt) : Type 0 where
  pub frame : List ℕ
  pub slots_are : slots_new ≡ slice_set slots_old (number % 17) frame
  pub right : result ≡ Ok true → IsFrameOf old.header frame
  pub answers : (file : List ℕ) (frames : List (List ℕ)) → IsBehind old rest_old file frames
      → AnswersBehind old new rest_new file frames frame result

-- how coding ends the frames of a file that is told
pub record EndsFile (coding : HeaderCoding) (file : List ℕ) (rest old new : Option (List ℕ))
    (result : Status) : Type 0 where
  pub ends : Ends (outcome_of coding file) (ending_of result) old new
  pub settled : result ≡ status.ReadFault → ForSome rest (λ left.
      AppendsSettled coding (file_of (taken_of file left)) old new)
  pub near : result ≡ status.WriteFault → ForSome rest (λ left. ForSome old (λ before.
      ForSome new (λ after.
      IsNear coding file (length file - length left) (drop (length before) after))))
