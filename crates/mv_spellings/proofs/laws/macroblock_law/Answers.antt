use Rattle.mv_spellings.proofs.MacroblockLaws.{macroblock_read}
use Rattle.mv_spellings.proofs.laws.macroblock_law.Goals as goal

pub returns : goal.returns
returns c = macroblock_read
