use Rattle.mv_bits.proofs.WritingLemmas.{Writes-start, word_put, word_fits}
use Rattle.mv_bits.proofs.writer.put_word.Goals as goal

pub returns-then-count-lt32-clause-written : goal.returns-then-count-lt32-clause-written
returns-then-count-lt32-clause-written g c = Writes-start g.P.Put.stands c.args.to.now _

pub put_four_bytes-requires : goal.put_four_bytes-requires
put_four_bytes-requires g c = word_fits c.args.bits c.args.count c.requires.fits c.if-count-lt32.false

pub returns-clause-written : goal.returns-clause-written
returns-clause-written g c =
    word_put g.P.Put.stands c.args.to.now c.put_four_bytes.new.to c.args.count c.args.bits c.if-count-lt32.false c.requires.few c.put_four_bytes.ensures
