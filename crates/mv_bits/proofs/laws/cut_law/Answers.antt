use Rattle.mv_bits.proofs.CutLaws.{cut_whole}
use Rattle.mv_bits.proofs.JoinLaws.{cut_join}
use Rattle.mv_bits.proofs.PieceLaws.{cut_again}
use Rattle.mv_bits.proofs.laws.cut_law.Goals as goal

pub returns : goal.returns
returns c = record { whole = cut_whole; joined = cut_join; again = cut_again }
