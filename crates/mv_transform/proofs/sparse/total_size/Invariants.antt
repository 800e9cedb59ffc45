use Rattle.std.proofs.Common.{◌≡◌, ◌*◌, ◌≤◌, unsigned_abs}
use Rattle.mv_terms.specs.Sums.{total_below}
use Rattle.mv_terms.specs.Block.{item}
use Rattle.mv_transform.proofs.sparse.total_size.Given as goal

abbrev pub invariant-places : goal.invariant-places
invariant-places l = (l.total ≡ total_below l.k (λ k. unsigned_abs (item l.block k))) × (l.total ≤ 32768 * l.k)
