use Rattle.std.proofs.Common.{◌≡◌, ◌*◌, ◌^◌, ◌≤◌, unsigned_abs}
use Rattle.mv_terms.specs.Block.{item}
use Rattle.mv_terms.specs.Sums.{sum_below}
use Rattle.mv_quant.proofs.block.sum_of.Given as goal

abbrev pub invariant-loop-k : goal.invariant-loop-k
invariant-loop-k l = record {
  value : l.sum ≡ sum_below l.k (item l.block);
  size : unsigned_abs l.sum ≤ l.k * 2 ^ 15;
}
