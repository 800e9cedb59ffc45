-- What is written for a file are its lines.
use Rattle.std.proofs.Common.{◌∙◌, ap}
use Rattle.y4m_frames.specs.Reading.{FramesAreInFront, HeadersAreLegal}
use Rattle.cert_chains.specs.Laws.{IntactHasChain}
use Rattle.job_coding.specs.Outcome.{output_by}
use Rattle.job_audit.specs.StepLines.{audit_coding}
use Rattle.job_audit.specs.Laws.{AuditIsInOrder, ChainIsSaid, FilesAreAudited}

pub files_are_audited : FramesAreInFront → HeadersAreLegal → AuditIsInOrder → IntactHasChain → ChainIsSaid → FilesAreAudited
files_are_audited front legal in_order chain says bytes file is =
    let header = file.header in
    let frames = file.frames.frames in
    let is_legal = legal file.line header (front bytes file is).header in
    record {
      defined = λ scale. ap (output_by audit_coding) is ∙ in_order scale header frames;
      chain = λ scale i p accepted intact. chain scale header frames i p is_legal accepted intact;
      says = λ scale i p accepted intact. says scale header frames i (chain scale header frames i p is_legal accepted intact);
    }
