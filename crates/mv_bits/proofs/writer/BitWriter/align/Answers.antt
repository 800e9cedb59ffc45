use Rattle.std.proofs.Common.{refl, ◌∙◌, ◌-◌, ◌%◌}
use Rattle.mv_bits.specs.Writing.{padding}
use Rattle.mv_bits.proofs.WritingLemmas.{Writes-behind, no_bits_left, padded, padded_fits, no_digits}
use Rattle.mv_bits.proofs.writer.BitWriter.align.Goals as goal

pub put_whole-pending-requires-clause-fits : goal.put_whole-pending-requires-clause-fits
put_whole-pending-requires-clause-fits g c = padded_fits c.self.inside.count c.self.inside.pending ((8 - c.self.inside.count % 8) % 8) c.args.self.now c.self.view_is c.self.invariant.0 c.self.invariant.1 refl

pub returns-clause-written : goal.returns-clause-written
returns-clause-written g c =
    let bits = padded c.self.inside.count c.self.inside.pending ((8 - c.self.inside.count % 8) % 8) c.args.self.now c.self.view_is c.self.invariant.0 c.self.invariant.1 refl in
    Writes-behind g.P.Put.stands c.args.to.now c.put_whole-pending.new.to c.args.self.now _ (padding c.args.self.now) (rw bits at c.put_whole-pending.ensures.written)

pub returns-clause-whole : goal.returns-clause-whole
returns-clause-whole g c =
    no_digits c.put_whole-pending.result.1 c.put_whole-pending.result.0
    (c.put_whole-pending.ensures.left ∙ no_bits_left c.self.inside.count c.self.inside.pending ((8 - c.self.inside.count % 8) % 8) c.args.self.now c.self.view_is c.self.invariant.0 c.self.invariant.1 refl)
