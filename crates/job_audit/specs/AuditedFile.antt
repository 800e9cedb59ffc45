-- What the lines are that an audit gives of a file.
use Rattle.std.specs.Prelude.{◌≡◌, ℕ, true, List}
use Rattle.y4m_frames.specs.Frames.{File}
use Rattle.enc_guided.specs.FileSteps.{recoding_by_records}
use Rattle.cert_chains.specs.Chains.{has_chain}
use Rattle.cert_chains.specs.Intact.{StreamPicture, IsAccepted, Intact}
use Rattle.job_audit.specs.Audit.{SaysChain, audit_text}

-- What is written for a file, of which the frames are read in front of its end or of its first fault, whatever scale its
-- fresh pictures would have.
pub record IsAudited (file : File) (output : List ℕ) : Type 0 where
  -- the lines of its frames, as they are defined,
  pub defined : (scale : ℕ) → output ≡ audit_text (recoding_by_records scale file.header) file.frames.frames
  -- in which each frame that is intact has a chain,
  pub chain : (scale i : ℕ) (p : StreamPicture) → IsAccepted p
      → Intact (recoding_by_records scale file.header) file.frames.frames i p
      → has_chain (recoding_by_records scale file.header) file.frames.frames i ≡ true
  -- and a line that says so
  pub says : (scale i : ℕ) (p : StreamPicture) → IsAccepted p
      → Intact (recoding_by_records scale file.header) file.frames.frames i p
      → SaysChain (recoding_by_records scale file.header) file.frames.frames i
