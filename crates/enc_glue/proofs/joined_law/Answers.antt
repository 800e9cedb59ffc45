use Rattle.enc_glue.proofs.JoinedLaws.{glue_is_in_front, unit_with_zeros, written_is_cut}
use Rattle.enc_glue.proofs.joined_law.Goals as goal

pub returns : goal.returns
returns c = record { glue = glue_is_in_front; zeros = unit_with_zeros; written = written_is_cut }
