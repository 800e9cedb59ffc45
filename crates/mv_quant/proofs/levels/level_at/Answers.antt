use Rattle.std.proofs.Common.{arith}
use Rattle.mv_terms.specs.Block.{item}
use Rattle.mv_quant.specs.Dequantised.{step_at}
use Rattle.mv_quant.proofs.NearestLemmas.{small_is_zero}
use Rattle.mv_quant.proofs.levels.level_at.Goals as goal

pub returns-then-excess-eq0 : goal.returns-then-excess-eq0
returns-then-excess-eq0 c = small_is_zero c.args.kind.now.intra (step_at c.args.kind.now c.args.k) (item c.args.coefs.now c.args.k) (c.requires.small (omega arith))
