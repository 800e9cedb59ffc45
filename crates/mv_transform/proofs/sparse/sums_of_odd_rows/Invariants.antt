use Rattle.std.proofs.Common.{◌+◌, ◌*◌}
use Rattle.mv_terms.specs.Block.{entry}
use Rattle.mv_transform.specs.Steps.{line_size}
use Rattle.mv_transform.proofs.SparseLemmas.{AreSummed, row_term}
use Rattle.mv_transform.proofs.sparse.sums_of_odd_rows.Given as goal

abbrev pub invariant-rows : goal.invariant-rows
invariant-rows l = AreSummed (entry l.block) (λ j. 2 * j + 1) (λ k. row_term (entry l.block) k 7) (line_size (entry l.block 7)) l.sums l.k
