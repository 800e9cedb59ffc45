use Rattle.std.proofs.Common.{◌≡◌, ◌/◌, ◌%◌, pos, ◌*ℤ◌, ◌+ℤ◌}
use Rattle.mv_terms.specs.Block.{item, entry}
use Rattle.mv_transform.specs.Transform.{inverse_sum, saturated, rounded}
use Rattle.mv_terms.proofs.FilledLemmas.{AreFilled}
use Rattle.mv_transform.proofs.sparse.inverse_of_sparse.Given as goal

abbrev pub invariant-places : goal.invariant-places
invariant-places l = AreFilled 64 (λ k z. z ≡ saturated (rounded (pos 8386816 *ℤ item l.c 0 +ℤ inverse_sum (entry l.others) (k / 8) (k % 8)))) l.samples l.place
