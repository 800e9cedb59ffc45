use Rattle.enc_guided.specs.FileSteps.{recoding_by_records}
use Rattle.job_audit.proofs.TextLemmas.{in_order}
use Rattle.job_audit.proofs.laws.audit_law.Goals as goal

pub returns : goal.returns
returns c = λ scale header frames. in_order (recoding_by_records 1 header) frames
