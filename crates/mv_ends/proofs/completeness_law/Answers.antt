use Rattle.mv_ends.proofs.CompleteLaws.{no_fault_is_complete}
use Rattle.mv_ends.proofs.completeness_law.Goals as goal

pub returns : goal.returns
returns c = no_fault_is_complete
