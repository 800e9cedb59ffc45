use Rattle.mv_slices.proofs.SliceLaws.{coded_or_refused}
use Rattle.job_decode.proofs.OutcomeLaws.{each_has_one}
use Rattle.job_decode.proofs.outcome_law.Goals as goal

pub returns : goal.returns
returns c = each_has_one coded_or_refused
