use Rattle.job_audit.proofs.FileLemmas.{files_are_audited}
use Rattle.job_audit.proofs.laws.audited_file_law.Goals as goal

pub returns : goal.returns
returns c = files_are_audited c.holds_law.ensures.front c.header_law.ensures.legal c.audit_law.ensures c.intact_law.ensures.chain c.chain_law.ensures
