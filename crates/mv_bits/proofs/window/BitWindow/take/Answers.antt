use Rattle.std.proofs.Common.{arith}
use Rattle.mv_bits.specs.Bits.{bits_of}
use Rattle.mv_bits.proofs.KeptLaws.{front_kept, drop_kept}
use Rattle.mv_bits.proofs.window.BitWindow.take.Goals as goal

pub returns-clause-value : goal.returns-clause-value
returns-clause-value c = front_kept c.self.inside.kept c.self.inside.count c.args.n c.bits_at_front-value.result (bits_of c.self.inside.rest.now) c.args.self.now (omega arith) c.self.view_is c.bits_at_front-value.ensures.value

pub returns-clause-rest : goal.returns-clause-rest
returns-clause-rest c = drop_kept c.self.inside.kept c.self.inside.count c.args.n (bits_of c.self.inside.rest.now) c.args.self.now _ (omega arith) c.self.view_is c.filled-kept.ensures.same
