use Rattle.std.proofs.Common.{arith, sym}
use Rattle.std.proofs.lemmas.List.{take_rest, drop_all}
use Rattle.mv_bits.specs.Bits.{bits_of}
use Rattle.mv_bits.proofs.BitLaws.{length-bits_of}
use Rattle.mv_bits.proofs.KeptLaws.{front_word, drop_word}
use Rattle.mv_bits.proofs.window.split_word.Goals as goal

pub returns-then-bytes-ge4-clause-value : goal.returns-then-bytes-ge4-clause-value
returns-then-bytes-ge4-clause-value c = omega (arith, c.be_u32.ensures.value, front_word c.args.bytes.now (λ i. omega (arith, c.type_inv.bytes i)))

pub returns-then-bytes-ge4-clause-rest : goal.returns-then-bytes-ge4-clause-rest
returns-then-bytes-ge4-clause-rest c = rw (take_rest c.args.bytes.now 4) (drop_word c.args.bytes.now)

pub returns-else-bytes-ge4-clause-rest : goal.returns-else-bytes-ge4-clause-rest
unfolding bits_of
returns-else-bytes-ge4-clause-rest c = sym (drop_all 32 (bits_of c.args.bytes.now) (omega (arith, length-bits_of c.args.bytes.now)))
