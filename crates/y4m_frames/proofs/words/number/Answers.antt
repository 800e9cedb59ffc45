use Rattle.std.proofs.Common.{arith}
use Rattle.y4m_frames.proofs.NumberLemmas.{small_number, small_more, value_more, digits_more}
use Rattle.y4m_frames.proofs.words.number.Goals as goal

pub overflow_mul-value : goal.overflow_mul-value
overflow_mul-value c =
    let l = c.loop-digit in
    omega (arith, small_number l.value l.digit-index l.invariant.small (omega arith))

pub overflow_add-value : goal.overflow_add-value
overflow_add-value c =
    let l = c.loop-digit in
    omega (arith, small_number l.value l.digit-index l.invariant.small (omega arith))

pub loop-digit-preserved : goal.loop-digit-preserved
loop-digit-preserved c =
    let l = c.loop-digit in
    let digits = c.args.digits.now in
    record {
      value = value_more digits l.digit-index l.value c.from.result c.loop-digit-test.true l.invariant.value c.if-digit-lt48.false c.if-digit-gt57.false c.from.ensures;
      all = digits_more digits l.digit-index c.loop-digit-test.true l.invariant.all c.if-digit-lt48.false c.if-digit-gt57.false;
      small = small_more l.value l.digit-index c.from.result l.invariant.small (omega arith);
    }
