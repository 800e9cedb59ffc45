-- What a reader of records stands for: the frames that it looked at, and their summaries with numbers for contexts.
use Rattle.std.specs.Prelude.{◌≡◌, ℕ, List, map}
use Rattle.std.specs.Borrow.{MutBor, Fml}
use Rattle.std.specs.Io.BufRead.{Rests}
use Rattle.mv_terms.specs.declared.frame_header.FrameHeader.{FrameHeader}
use Rattle.mv_terms.specs.Ranges.{IsFrameHeader}
use Rattle.rec_legal.specs.Conditions.{file_size}
use Rattle.rec_legal.specs.Found.{found}
use Rattle.rec_reader.specs.Summaries.{summary_of}
use Rattle.plan_window.specs.declared.summary.Summary.{Summary}
use Rattle.plan_window.specs.Numbers.{without_context}
use Rattle.plan_numbers.specs.Stands.{StandsFor as HasNumbered}
use Rattle.job_coding.specs.declared.records.Records.{Records}
use Rattle.job_coding.specs.contracts.records.Records.{the_row}

-- what the plan knows of each frame, by the record that is found in it
abbrev pub known_of : FrameHeader → List (List ℕ) → List Summary
known_of header frames = map (λ (frame : List ℕ). summary_of (found (file_size header) frame)) frames

abbrev pub contexts_of : List Summary → List (List ℕ)
contexts_of frames = map (λ (s : Summary). s.context) frames

-- It looked at these frames of a file with this header, and gave these summaries: they say what the plan knows of the
-- frames, with a number in place of each context.
pub record StandsFor (records : Records) (header : FrameHeader) (frames : List (List ℕ))
    (numbered : List Summary) : Type 0 where
  pub header_is : records.reader ≡ header
  pub is_header : IsFrameHeader header
  pub rest : map without_context (known_of header frames) ≡ map without_context numbered
  pub contexts : HasNumbered records.numbers (contexts_of (known_of header frames))
      (contexts_of numbered)

-- it stands for the same when a record that it lent isn't looked at any more
abbrev pub StaysSame : MutBor Records → Fml
StaysSame records = Rests the_row records (λ left. left ≡ records.now)
