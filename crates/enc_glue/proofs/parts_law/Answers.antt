use Rattle.enc_glue.proofs.PartLaws.{glued_is_prefix, zeros_are_in_front, head_is_head}
use Rattle.enc_glue.proofs.parts_law.Goals as goal

pub returns : goal.returns
returns c = record { prefix = glued_is_prefix; zeros = zeros_are_in_front; head = head_is_head }
