use Rattle.std.proofs.Common.{arith, refl}
use Rattle.std.proofs.Math.Facts.{Fits-of_lt}
use Rattle.mv_bits.proofs.WritingLemmas.{Writes-start, Writes-byte, byte_fits, low_fits}
use Rattle.mv_bits.proofs.writer.put_whole.Goals as goal

pub bytes-init : goal.bytes-init
bytes-init g c = record { few = c.requires.few; left = refl; fits = c.requires.fits; written = Writes-start g.P.Put.stands c.args.to.now _ }

pub overflow_cast-bits : goal.overflow_cast-bits
overflow_cast-bits g c = Fits-of_lt (byte_fits c.bytes.bits c.bytes.count c.bytes.invariant.fits c.bytes-test.true)

pub bytes-preserved : goal.bytes-preserved
bytes-preserved g c = record {
  few = omega arith;
  left = let e = c.bytes.invariant.left in omega (arith, e);
  fits = low_fits c.bytes.bits c.bytes.count c.bytes.invariant.few;
  written = Writes-byte g.P.Put.stands c.args.to.now c.bytes.to c.put_byte.new.self _ c.bytes.count c.bytes.bits c.bytes-test.true c.bytes.invariant.few c.bytes.invariant.written c.put_byte.ensures (byte_fits c.bytes.bits c.bytes.count c.bytes.invariant.fits c.bytes-test.true);
}
