use Rattle.std.proofs.Common.{arith}
use Rattle.mv_bits.proofs.CompareLemmas.{puts_next, puts_zero, puts_end, puts_none}
use Rattle.mv_bits.proofs.compare.CompareWithPut.put_byte.Goals.{else-byte-eq0-via-then-byte-eq0+else-self-gt0, else-byte-eq0-via-else-byte-eq0}
use Rattle.mv_bits.proofs.compare.CompareWithPut.put_byte.Goals as goal

pub returns-then-self-gt0 : goal.returns-then-self-gt0
returns-then-self-gt0 c =
    puts_zero c.self.inside.agrees c.self.inside.rest.now c.self.inside.zeros c.args.self.now c.self.view_is c.args.byte c.if-self.true c.if-is_empty.ensures c.if-byte-eq0.true c.if-self-gt0.true

pub returns-else-byte-eq0 : goal.returns-else-byte-eq0
returns-else-byte-eq0 c =
    puts_end c.self.inside.agrees c.self.inside.rest.now c.self.inside.zeros c.args.self.now c.self.view_is c.args.byte c.if-self.true c.if-is_empty.ensures
    (elim c.else-byte-eq0.branch [
      | else-byte-eq0-via-then-byte-eq0+else-self-gt0 w ↦ (λ is some. let none = w.if-self-gt0.false in absurd (omega (arith, none, some)))
      | else-byte-eq0-via-else-byte-eq0 w ↦ (λ is some. w.if-byte-eq0.false is)
    ])

pub returns-else-is_empty : goal.returns-else-is_empty
returns-else-is_empty c = puts_next c.self.inside.agrees c.self.inside.rest.now c.self.inside.zeros c.args.self.now c.self.view_is c.args.byte c.if-self.true c.if-is_empty.ensures

pub returns-else-self : goal.returns-else-self
returns-else-self c = puts_none c.self.inside.agrees c.self.inside.rest.now c.self.inside.zeros c.args.self.now c.self.view_is c.args.byte c.if-self.false
