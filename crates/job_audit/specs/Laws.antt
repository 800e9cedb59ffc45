-- What is promised of the audit.
use Rattle.std.specs.Prelude.{◌≡◌, ℕ, true, List, Ok}
use Rattle.mv_terms.specs.declared.frame_header.FrameHeader.{FrameHeader}
use Rattle.enc_guided.specs.FileSteps.{recoding_by_records}
use Rattle.cert_chains.specs.Chains.{has_chain}
use Rattle.y4m_frames.specs.Frames.{File, file_of}
use Rattle.job_coding.specs.Codings.{output_of}
use Rattle.job_coding.specs.Outcome.{outcome_of}
use Rattle.job_audit.specs.Audit.{SaysChain, audit_text}
use Rattle.job_audit.specs.StepLines.{audit_coding}
use Rattle.job_audit.specs.AuditedFile.{IsAudited}

-- LAW: what the steps give is the audit of the frames, with whatever scale code they would be coded.
abbrev pub AuditIsInOrder : Type 0
AuditIsInOrder =
    (scale : ℕ) (header : FrameHeader) (frames : List (List ℕ))
    → output_of (audit_coding header) frames
    ≡ audit_text (recoding_by_records scale header) frames

-- LAW: a frame with a chain has that line.
abbrev pub ChainIsSaid : Type 0
ChainIsSaid =
    (scale : ℕ) (header : FrameHeader) (frames : List (List ℕ)) (i : ℕ)
    → has_chain (recoding_by_records scale header) frames i ≡ true
    → SaysChain (recoding_by_records scale header) frames i

-- LAW: what is written for a file are the lines of the frames that are read of it.
abbrev pub FilesAreAudited : Type 0
FilesAreAudited =
    (bytes : List ℕ) (file : File) → file_of bytes ≡ Ok file
    → IsAudited file (outcome_of audit_coding bytes).output
