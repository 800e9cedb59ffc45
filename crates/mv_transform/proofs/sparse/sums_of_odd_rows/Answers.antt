use Rattle.std.proofs.Common.{arith, rules, ◌+◌, ◌*◌}
use Rattle.mv_terms.specs.Block.{entry}
use Rattle.mv_transform.specs.Steps.{line_size}
use Rattle.mv_transform.proofs.SparseLemmas.{row_term, summed_last, summed_line, odd_row_fits, odd_sums, odd_sizes, last_size}
use Rattle.mv_transform.proofs.sparse.sums_of_odd_rows.Goals as goal

pub sums_of_last_row-sums-requires : goal.sums_of_last_row-sums-requires
sums_of_last_row-sums-requires c = last_size (entry c.args.block.now) c.row_of.result c.requires c.row_of.ensures.same

pub rows-init : goal.rows-init
rows-init c = summed_last (entry c.args.block.now) (λ j. 2 * j + 1) _ c.row_of.result (search rules) c.row_of.ensures.same c.sums_of_last_row-sums.ensures

pub add_line-requires-clause-fits : goal.add_line-requires-clause-fits
add_line-requires-clause-fits c = odd_row_fits (entry c.args.block.now) c.rows.sums c.row_of-in-rows.result c.rows.k c.requires c.rows-test.true c.rows.invariant c.row_of-in-rows.ensures.same

pub rows-preserved : goal.rows-preserved
rows-preserved c = summed_line (entry c.args.block.now) (λ j. 2 * j + 1) (λ k. row_term (entry c.args.block.now) k 7) (line_size (entry c.args.block.now 7)) c.rows.sums c.add_line.new.sums c.row_of-in-rows.result c.rows.k c.rows.invariant (omega arith) c.add_line.array_long c.row_of-in-rows.ensures.same c.add_line.ensures

pub returns-clause-value : goal.returns-clause-value
returns-clause-value c = odd_sums (entry c.args.block.now) c.rows.sums c.rows.k c.rows.invariant (omega arith)

pub returns-clause-size : goal.returns-clause-size
returns-clause-size c = odd_sizes (entry c.args.block.now) c.rows.sums c.rows.k c.rows.invariant (omega arith)
