use Rattle.std.proofs.Common.{take}
use Rattle.mv_bits.specs.Receivers.{KeepsFirst}
use Rattle.plan_numbers.specs.Stands.{context_limit}
use Rattle.plan_numbers.proofs.bytes.keep.Given as goal

abbrev pub invariant-bytes : goal.invariant-bytes
invariant-bytes l = KeepsFirst l.room context_limit (take l.i l.bytes)
