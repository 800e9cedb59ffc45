-- What is promised of pictures that are certified, and of those that are intact with all that they depend on.
use Rattle.std.specs.Prelude.{◌≡◌, ℕ, true, List}
use Rattle.mv_terms.specs.declared.frame_header.FrameHeader.{FrameHeader}
use Rattle.mv_terms.specs.Ranges.{IsFrameHeader}
use Rattle.plan_window.specs.declared.summary.Mode.TheVariants.{Guided}
use Rattle.rec_legal.specs.Conditions.{file_size}
use Rattle.cert_picture.specs.Records.{is_certified}
use Rattle.cert_picture.specs.RecordLaws.{ComesFromSamples}
use Rattle.enc_guided.specs.Recoded.{CodedStep, FrameStep, coded_step}
use Rattle.enc_guided.specs.FileSteps.{recoding_by_records}
use Rattle.cert_chains.specs.Intact.{StreamPicture, IsAccepted, Intact, frame_in_stream, parts_in_stream}
use Rattle.cert_chains.specs.ComesBack.{AreSameUsed, CameBack, IsKept, glue_before, references_at}
use Rattle.cert_chains.specs.Chains.{has_chain}

-- LAW: a certified picture of a stream has the levels that are nearest to its own samples, and settled decisions.
abbrev pub CertifiedComesFromItself : Type 0
CertifiedComesFromItself =
    (p : StreamPicture) → IsAccepted p → is_certified (parts_in_stream p) ≡ true
    → ComesFromSamples (parts_in_stream p)

-- THE STEP LAW: a step that is coded by the record in its frame, which is the frame of a certified picture, in the size of
-- its stream, comes back as this picture, where its references are those of the picture, as far as it uses them. What else
-- stands before it makes no difference.
abbrev pub StepComesBack : Type 0
StepComesBack =
    (scale : ℕ) (header : FrameHeader) (s : FrameStep) (before : List CodedStep)
    (p : StreamPicture)
    → IsFrameHeader header → IsAccepted p
    → file_size header ≡ p.unit.accepted.heads.first
    → s.frame ≡ (frame_in_stream p).samples → is_certified (parts_in_stream p) ≡ true
    → s.step.mode ≡ Guided
    → AreSameUsed p.unit.picture.head p.unit.picture.decisions (references_at p before)
    (parts_in_stream p).references
    → CameBack p (glue_before (recoding_by_records scale header) s p before)
    (coded_step (recoding_by_records scale header) s before)

-- LAWS: each frame of a file that is intact comes back as it was, whatever other frames the file has;
abbrev pub IntactIsKept : Type 0
IntactIsKept =
    (scale : ℕ) (header : FrameHeader) (frames : List (List ℕ)) (i : ℕ) (p : StreamPicture)
    → IsFrameHeader header → IsAccepted p
    → Intact (recoding_by_records scale header) frames i p
    → IsKept (recoding_by_records scale header) frames i p

-- and has a chain.
abbrev pub IntactHasChain : Type 0
IntactHasChain =
    (scale : ℕ) (header : FrameHeader) (frames : List (List ℕ)) (i : ℕ) (p : StreamPicture)
    → IsFrameHeader header → IsAccepted p
    → Intact (recoding_by_records scale header) frames i p
    → has_chain (recoding_by_records scale header) frames i ≡ true
