use Rattle.std.proofs.Common.{◌≡◌, arith}
use Rattle.mv_quant.proofs.NearestLemmas.{dc_size_0, dc_size_1, dc_size_2, dc_size_3}
use Rattle.mv_quant.proofs.levels.dc_size.Goals as goal

pub returns-in-0-clause-value : goal.returns-in-0-clause-value
returns-in-0-clause-value c = let e : c.args.precision ≡ 0 = omega arith in rw e (omega (arith, dc_size_0 c.args.size))

pub returns-in-1-clause-value : goal.returns-in-1-clause-value
returns-in-1-clause-value c = let e : c.args.precision ≡ 1 = omega arith in rw e (omega (arith, dc_size_1 c.args.size))

pub returns-in-2-clause-value : goal.returns-in-2-clause-value
returns-in-2-clause-value c = let e : c.args.precision ≡ 2 = omega arith in rw e (omega (arith, dc_size_2 c.args.size))

pub returns-in_default-clause-value : goal.returns-in_default-clause-value
returns-in_default-clause-value c = let e : c.args.precision ≡ 3 = omega arith in rw e (omega (arith, dc_size_3 c.args.size))
