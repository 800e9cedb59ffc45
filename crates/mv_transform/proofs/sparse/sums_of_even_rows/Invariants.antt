use Rattle.std.proofs.Common.{◌*◌, pos}
use Rattle.mv_terms.specs.Block.{entry}
use Rattle.mv_transform.proofs.SparseLemmas.{AreSummed}
use Rattle.mv_transform.proofs.sparse.sums_of_even_rows.Given as goal

abbrev pub invariant-rows : goal.invariant-rows
invariant-rows l = AreSummed (entry l.block) (λ j. 2 * j) (λ k. pos 0) 0 l.sums l.k
