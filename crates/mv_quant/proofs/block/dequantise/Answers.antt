use Rattle.std.proofs.Common.{arith, ◌≡◌, true, false, rules}
use Rattle.std.proofs.lemmas.Int.{to_z-of_z}
use Rattle.mv_terms.specs.Block.{entry}
use Rattle.mv_quant.specs.Dequantised.{is_even, value_sum}
use Rattle.mv_quant.proofs.BlockLemmas.{block_sum, toggled_block, plain_block}
use Rattle.mv_quant.proofs.block.dequantise.Goals as goal

pub returns-then-has_even : goal.returns-then-has_even
returns-then-has_even c =
    let sum = block_sum c.args.quantiser.now (entry c.args.levels.now) c.values-block.result c.values-block.ensures in
    let even : is_even (value_sum c.args.quantiser.now (entry c.args.levels.now)) ≡ true = grind (arith, to_z-of_z, sum) in
    toggled_block c.args.quantiser.now (entry c.args.levels.now) c.values-block.result _ (search rules) c.values-block.ensures even (grind (arith, to_z-of_z))

pub returns-else-has_even : goal.returns-else-has_even
returns-else-has_even c =
    let sum = block_sum c.args.quantiser.now (entry c.args.levels.now) c.values-block.result c.values-block.ensures in
    let odd : is_even (value_sum c.args.quantiser.now (entry c.args.levels.now)) ≡ false = grind (arith, to_z-of_z, sum) in
    plain_block c.args.quantiser.now (entry c.args.levels.now) c.values-block.result c.values-block.ensures odd
