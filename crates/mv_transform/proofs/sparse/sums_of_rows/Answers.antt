use Rattle.mv_terms.specs.Block.{entry}
use Rattle.mv_transform.proofs.SparseLemmas.{both_fit, all_sums, all_sizes}
use Rattle.mv_transform.proofs.sparse.sums_of_rows.Goals as goal

pub unfolded-requires : goal.unfolded-requires
unfolded-requires c = both_fit (entry c.args.block.now) c.sums_of_even_rows.result c.sums_of_odd_rows.result c.requires c.sums_of_even_rows.ensures.size c.sums_of_odd_rows.ensures.size

pub returns-clause-value : goal.returns-clause-value
returns-clause-value c =
    all_sums (entry c.args.block.now) c.sums_of_even_rows.result c.sums_of_odd_rows.result c.unfolded.result
    (record { evens = c.sums_of_even_rows.ensures.value; odds = c.sums_of_odd_rows.ensures.value; above = c.unfolded.ensures.above; below = c.unfolded.ensures.below })

pub returns-clause-size : goal.returns-clause-size
returns-clause-size c =
    all_sizes (entry c.args.block.now) c.sums_of_even_rows.result c.sums_of_odd_rows.result c.unfolded.result
    (record { evens = c.sums_of_even_rows.ensures.value; odds = c.sums_of_odd_rows.ensures.value; above = c.unfolded.ensures.above; below = c.unfolded.ensures.below })
    (both_fit (entry c.args.block.now) c.sums_of_even_rows.result c.sums_of_odd_rows.result c.requires c.sums_of_even_rows.ensures.size c.sums_of_odd_rows.ensures.size)
