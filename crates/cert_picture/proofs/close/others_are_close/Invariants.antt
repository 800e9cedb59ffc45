use Rattle.std.proofs.Common.{◌<◌, ℕ}
use Rattle.std.specs.Prelude.{IsTrue}
use Rattle.mv_terms.specs.Block.{item}
use Rattle.cert_picture.specs.Steps.{IsClose}
use Rattle.cert_picture.proofs.close.others_are_close.Given as goal

abbrev pub invariant-loop-k : goal.invariant-loop-k
invariant-loop-k l = IsTrue l.close → (j : ℕ) → 0 < j → j < l.k → IsClose l.kind j (item l.values j) (item l.coefs j)
