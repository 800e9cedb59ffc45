use Rattle.std.proofs.Common.{◌≡◌, ◌*◌, ◌≤◌, unsigned_abs}
use Rattle.mv_terms.specs.Sums.{total_below}
use Rattle.mv_terms.specs.Block.{item}
use Rattle.mv_transform.proofs.sparse.size_of_line.Given as goal

abbrev pub invariant-places : goal.invariant-places
invariant-places l = (l.total ≡ total_below l.u (λ u. unsigned_abs (item l.line u))) × (l.total ≤ 32768 * l.u)
