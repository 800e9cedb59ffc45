use Rattle.std.proofs.Common.{◌≤◌, ◌+◌, ◌*◌, ℕ, ℤ, unsigned_abs, arith}
use Rattle.std.proofs.lemmas.Int.{to_z-of_z}
use Rattle.mv_terms.proofs.FilledLemmas.{filled_more}
use Rattle.syntax_tests.proofs.transform.differences.Goals as goal

pub loop-k-preserved : goal.loop-k-preserved
loop-k-preserved c = filled_more 64 (λ (k : ℕ) (z : ℤ). unsigned_abs z ≤ 255) _ _ _ c.loop-k.invariant c.loop-k-test.true (grind (arith, to_z-of_z))

pub returns : goal.returns
returns c = λ y x p q. c.loop-k.invariant.value (8 * y + x) (omega arith)
