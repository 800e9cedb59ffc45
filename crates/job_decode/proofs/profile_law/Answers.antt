use Rattle.mv_slices.proofs.SliceLaws.{coded_or_refused}
use Rattle.job_decode.proofs.ProfileLaws.{done_is_in_profile, unit_is_refused}
use Rattle.job_decode.proofs.profile_law.Goals as goal

pub returns-clause-done : goal.returns-clause-done
returns-clause-done c = done_is_in_profile coded_or_refused

pub returns-clause-refused : goal.returns-clause-refused
returns-clause-refused c = unit_is_refused coded_or_refused
