use Rattle.mv_bits.proofs.WritingLemmas.{flag_put}
use Rattle.mv_bits.proofs.writer.BitWriter.put_flag.Goals as goal

pub returns : goal.returns
returns g c = flag_put g.P.Put.stands c.args.to.now c.put.new.to c.args.self.now c.put.new.self c.args.flag c.bit.result c.bit.ensures.value c.put.ensures.written
