use Rattle.std.proofs.Common.{arith}
use Rattle.mv_bits.specs.Bits.{bits_of}
use Rattle.mv_bits.proofs.KeptLaws.{front_kept}
use Rattle.mv_bits.proofs.window.BitWindow.peek.Goals as goal

pub returns-clause-value : goal.returns-clause-value
returns-clause-value c = front_kept c.self.inside.kept c.self.inside.count c.args.n c.bits_at_front.result (bits_of c.self.inside.rest.now) c.args.self.now (omega arith) c.self.view_is c.bits_at_front.ensures.value
