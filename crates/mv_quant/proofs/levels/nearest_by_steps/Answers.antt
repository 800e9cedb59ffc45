use Rattle.mv_quant.proofs.RowLemmas.{found_none}
use Rattle.mv_quant.proofs.levels.nearest_by_steps.Goals as goal

pub loop-row-init : goal.loop-row-init
loop-row-init c = found_none c.args.kind.now c.args.coefs.now
