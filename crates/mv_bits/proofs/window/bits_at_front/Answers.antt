use Rattle.std.proofs.Common.{arith, ◌/◌, ◌-◌, ◌^◌}
use Rattle.mv_bits.proofs.KeptLaws.{first_fits}
use Rattle.mv_bits.proofs.window.bits_at_front.Goals as goal

pub overflow_cast-result-3 : goal.overflow_cast-result-3
overflow_cast-result-3 c = omega (arith, first_fits (c.args.kept / 2 ^ (c.args.count - c.args.n)) c.args.n c.requires.few)
