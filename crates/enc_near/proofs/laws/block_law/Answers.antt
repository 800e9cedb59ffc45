use Rattle.enc_near.proofs.BlockLemmas.{nearest_block_is_near}
use Rattle.enc_near.proofs.SimpleLemmas.{error_is_within_simple}
use Rattle.enc_near.proofs.laws.block_law.Goals as goal

pub returns-clause-block : goal.returns-clause-block
returns-clause-block c = nearest_block_is_near

pub returns-clause-simple : goal.returns-clause-simple
returns-clause-simple c = error_is_within_simple
