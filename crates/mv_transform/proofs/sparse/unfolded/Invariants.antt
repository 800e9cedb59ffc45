use Rattle.std.proofs.Common.{◌+◌, ◌*◌}
use Rattle.mv_transform.proofs.SparseLemmas.{AreUnfolded}
use Rattle.mv_transform.proofs.sparse.unfolded.Given as goal

abbrev pub invariant-rows : goal.invariant-rows
invariant-rows l = AreUnfolded l.even l.odd l.sums (8 * l.y)

abbrev pub invariant-places : goal.invariant-places
invariant-places l = AreUnfolded l.even l.odd l.sums (8 * l.y + l.x)
