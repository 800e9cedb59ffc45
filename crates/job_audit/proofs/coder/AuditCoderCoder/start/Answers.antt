use Rattle.enc_guided.specs.FileSteps.{recoding_by_records}
use Rattle.job_audit.proofs.coder.AuditCoderCoder.start.Goals as goal

pub returns-clause-stands : goal.returns-clause-stands
returns-clause-stands c = (c.in_ok-start.ensures, c.start-2.ensures (recoding_by_records 1 c.args.header.now))
