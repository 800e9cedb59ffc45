use Rattle.std.proofs.Common.{arith, rules}
use Rattle.mv_ends.proofs.PlaceLemmas.{moved_front}
use Rattle.mv_ends.proofs.inputs.copy_front.Goals as goal

pub returns-clause-front : goal.returns-clause-front
returns-clause-front c = moved_front c.args.bytes.now c.args.buf.now _ c.args.at _ (omega arith) (search rules)
