use Rattle.mv_blocks.proofs.LevelLaws.{pairs_give, intra_pairs_give}
use Rattle.mv_blocks.proofs.BlockBack.{block_back}
use Rattle.mv_blocks.proofs.BoundedLaws.{block_bounded}
use Rattle.mv_blocks.proofs.LegalLaws.{read_legal}
use Rattle.mv_blocks.proofs.write_laws.written_law.Goals as goal

pub returns : goal.returns
returns c = record {
  pairs = λ alternate levels h. (pairs_give alternate levels h, intra_pairs_give alternate levels h);
  blocks = block_back;
  bounded = block_bounded;
  legal = λ code predictor bits rest levels small h. read_legal code.intra code predictor bits rest levels small h;
}
