use Rattle.std.proofs.Common.{refl}
use Rattle.mv_bits.specs.Reader.{test}
use Rattle.mv_heads.proofs.fields.check.Goals as goal

pub returns-then-holds-clause-answer : goal.returns-then-holds-clause-answer
unfolding test
returns-then-holds-clause-answer c = rw c.if-holds.true refl

pub returns-else-holds-clause-answer : goal.returns-else-holds-clause-answer
unfolding test
returns-else-holds-clause-answer c = rw c.if-holds.false refl
