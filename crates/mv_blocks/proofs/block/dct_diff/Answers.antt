use Rattle.std.proofs.Common.{arith, ◌^◌}
use Rattle.std.proofs.lemmas.Int.{ints}
use Rattle.mv_blocks.proofs.DcLemmas.{size_small, dct_diff-lower, dct_diff-upper, unwrapped, positive}
use Rattle.mv_blocks.proofs.block.dct_diff.Goals as goal

pub returns-then-differential-half_range-clause-value : goal.returns-then-differential-half_range-clause-value
returns-then-differential-half_range-clause-value c =
    let s = size_small c.args.size c.requires.few in
    let below = rw s.1 at c.if-differential-half_range.true in
    rw (s.1, dct_diff-lower c.args.size c.args.differential below) (unwrapped c.args.differential (2 ^ c.args.size) (omega arith) s.0)

pub returns-then-differential-half_range-clause-low : goal.returns-then-differential-half_range-clause-low
returns-then-differential-half_range-clause-low c = let s = size_small c.args.size c.requires.few in omega (arith, ints)

pub returns-else-differential-half_range-clause-value : goal.returns-else-differential-half_range-clause-value
returns-else-differential-half_range-clause-value c =
    let s = size_small c.args.size c.requires.few in
    let above = rw s.1 at c.if-differential-half_range.false in
    rw (dct_diff-upper c.args.size c.args.differential c.requires.fits above) (positive c.args.differential (omega arith))

pub returns-else-differential-half_range-clause-high : goal.returns-else-differential-half_range-clause-high
returns-else-differential-half_range-clause-high c = let s = size_small c.args.size c.requires.few in omega (arith, ints)
