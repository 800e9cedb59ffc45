use Rattle.std.proofs.Common.{◌+◌, ◌*◌, ◌/◌, ◌%◌, ◌*ℤ◌}
use Rattle.mv_transform.specs.Basis.{basis}
use Rattle.mv_terms.specs.Block.{item}
use Rattle.mv_transform.proofs.SparseLemmas.{AreAdded}
use Rattle.mv_transform.proofs.sparse.add_row.Given as goal

abbrev pub invariant-rows : goal.invariant-rows
invariant-rows l = AreAdded (λ k. basis l.v (k / 8) *ℤ item l.line (k % 8)) l.fn.sums l.sums (8 * l.y)

abbrev pub invariant-places : goal.invariant-places
invariant-places l = AreAdded (λ k. basis l.v (k / 8) *ℤ item l.line (k % 8)) l.fn.sums l.sums (8 * l.y + l.x)
