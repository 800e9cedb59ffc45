use Rattle.std.proofs.Common.{◌≡◌, ◌/◌, ◌%◌}
use Rattle.mv_terms.specs.Block.{entry}
use Rattle.mv_transform.specs.Transform.{inverse_at}
use Rattle.mv_terms.proofs.FilledLemmas.{AreFilled}
use Rattle.mv_transform.proofs.dense.inverse_of_dense.Given as goal

abbrev pub invariant-loop-place : goal.invariant-loop-place
invariant-loop-place l = AreFilled 64 (λ k z. z ≡ inverse_at (entry l.c) (k / 8) (k % 8)) l.samples l.place
