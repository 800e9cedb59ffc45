use Rattle.std.proofs.Common.{arith, refl, pos, ◌*◌}
use Rattle.std.proofs.lemmas.List.{get_or-replicate}
use Rattle.mv_terms.specs.Block.{entry}
use Rattle.mv_transform.proofs.SparseLemmas.{summed_zeros, summed_line, even_row_fits, even_sums, even_sizes}
use Rattle.mv_transform.proofs.sparse.sums_of_even_rows.Goals as goal

pub rows-init : goal.rows-init
rows-init c = summed_zeros (entry c.args.block.now) (λ j. 2 * j) _ refl (λ k h. get_or-replicate 32 k (pos 0) (pos 0) h)

pub add_line-requires-clause-fits : goal.add_line-requires-clause-fits
add_line-requires-clause-fits c = even_row_fits (entry c.args.block.now) c.rows.sums c.row_of.result c.rows.k c.requires c.rows-test.true c.rows.invariant c.row_of.ensures.same

pub rows-preserved : goal.rows-preserved
rows-preserved c = summed_line (entry c.args.block.now) (λ j. 2 * j) (λ k. pos 0) 0 c.rows.sums c.add_line.new.sums c.row_of.result c.rows.k c.rows.invariant (omega arith) c.add_line.array_long c.row_of.ensures.same c.add_line.ensures

pub returns-clause-value : goal.returns-clause-value
returns-clause-value c = even_sums (entry c.args.block.now) c.rows.sums c.rows.k c.rows.invariant (omega arith)

pub returns-clause-size : goal.returns-clause-size
returns-clause-size c = even_sizes (entry c.args.block.now) c.rows.sums c.rows.k c.rows.invariant (omega arith)
