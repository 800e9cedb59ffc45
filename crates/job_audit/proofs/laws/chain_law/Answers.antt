use Rattle.enc_guided.specs.FileSteps.{recoding_by_records}
use Rattle.job_audit.proofs.LineLemmas.{says_chain}
use Rattle.job_audit.proofs.laws.chain_law.Goals as goal

pub returns : goal.returns
returns c = λ scale header frames i chain. says_chain (recoding_by_records scale header) frames i chain
