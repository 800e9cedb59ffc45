use Rattle.mv_spellings.proofs.BlockLaws.{block_read}
use Rattle.mv_spellings.proofs.laws.block_law.Goals as goal

pub returns : goal.returns
returns c = block_read
