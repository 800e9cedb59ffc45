use Rattle.std.proofs.Common.{◌-◌}
use Rattle.mv_blocks.proofs.PlaceLemmas.{AreListed}
use Rattle.mv_blocks.proofs.write.list_places.Given as goal

abbrev pub invariant-places : goal.invariant-places
invariant-places l = AreListed l.alternate l.start l.levels l.places l.listed l.k l.all

abbrev pub decreases-places : goal.decreases-places
decreases-places l = 64 - l.k
