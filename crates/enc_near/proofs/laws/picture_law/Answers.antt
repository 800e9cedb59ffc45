use Rattle.enc_near.proofs.PictureLemmas.{intra_part_is_near, part_is_near, uniform_is_near}
use Rattle.enc_near.proofs.laws.picture_law.Goals as goal

pub returns-clause-intra : goal.returns-clause-intra
returns-clause-intra c = intra_part_is_near

pub returns-clause-part : goal.returns-clause-part
returns-clause-part c = part_is_near

pub returns-clause-uniform : goal.returns-clause-uniform
returns-clause-uniform c = uniform_is_near
