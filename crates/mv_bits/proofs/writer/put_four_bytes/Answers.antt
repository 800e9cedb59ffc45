use Rattle.mv_bits.proofs.WritingLemmas.{all_put}
use Rattle.mv_bits.proofs.writer.put_four_bytes.Goals as goal

pub returns : goal.returns
returns g c = all_put g.P.Put.stands c.args.to.now c.put_whole.new.to c.put_whole.result.0 c.put_whole.result.1 _ c.put_whole.ensures.left c.put_whole.ensures.written
