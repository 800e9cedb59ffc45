use Rattle.mv_bits.proofs.BitLaws.{length-digits}
use Rattle.mv_bits.proofs.WritingLemmas.{shifted_fits, shifted_bits, Writes-behind}
use Rattle.mv_bits.proofs.writer.BitWriter.put.Goals as goal

pub put_word-pending-requires-clause-fits : goal.put_word-pending-requires-clause-fits
put_word-pending-requires-clause-fits g c =
    shifted_fits c.self.inside.count c.args.n c.self.inside.pending c.args.value c.self.invariant.1 c.self.invariant.0 c.requires.few c.requires.fits

pub returns : goal.returns
returns g c =
    let bits = shifted_bits c.self.inside.count c.args.n c.self.inside.pending c.args.value c.self.invariant.1 c.self.invariant.0 c.requires.few c.requires.fits in
    record {
      written = rw (← c.self.view_is) (Writes-behind g.P.Put.stands c.args.to.now c.put_word-pending.new.to _ _ _ (rw bits at c.put_word-pending.ensures.written));
      part = rw (length-digits c.put_word-pending.result.1 c.put_word-pending.result.0) c.put_word-pending.ensures.part;
    }
