use Rattle.std.proofs.Common.{◌≤◌, unsigned_abs}
use Rattle.mv_terms.proofs.FilledLemmas.{AreFilled}
use Rattle.syntax_tests.proofs.transform.differences.Given as goal

abbrev pub invariant-loop-k : goal.invariant-loop-k
invariant-loop-k l = AreFilled 64 (λ k z. unsigned_abs z ≤ 255) l.block l.k
