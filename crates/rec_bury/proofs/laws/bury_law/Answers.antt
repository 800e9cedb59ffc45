use Rattle.rec_bury.proofs.BackLemmas.{buried_comes_back}
use Rattle.rec_bury.proofs.ZeroLemmas.{seal_is_of_zeros}
use Rattle.rec_bury.proofs.PlainLemmas.{zeros_are_unrecorded}
use Rattle.rec_bury.proofs.laws.bury_law.Goals as goal

pub returns : goal.returns
returns c = record { back = buried_comes_back; seal = seal_is_of_zeros; plain = zeros_are_unrecorded }
