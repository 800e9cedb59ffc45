use Rattle.std.proofs.Common.{arith, rules}
use Rattle.std.proofs.lemmas.Int.{to_z-of_z}
use Rattle.mv_quant.proofs.BlockLemmas.{intra_block, inter_block}
use Rattle.mv_quant.proofs.block.values.Goals as goal

pub returns-then-kind : goal.returns-then-kind
returns-then-kind c = intra_block c.args.kind.now c.args.levels.now c.scaled_levels-block.result _ c.if-kind.true (search rules) c.scaled_levels-block.ensures (grind (arith, to_z-of_z))

pub returns-else-kind : goal.returns-else-kind
returns-else-kind c = inter_block c.args.kind.now c.args.levels.now c.scaled_levels-block.result c.if-kind.false c.scaled_levels-block.ensures
