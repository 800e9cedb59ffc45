use Rattle.std.proofs.Common.{refl}
use Rattle.mv_bits.specs.Bits.{digits}
use Rattle.mv_bits.proofs.writer.BitWriter.new.Goals as goal

pub returns : goal.returns
unfolding digits
returns c = refl
