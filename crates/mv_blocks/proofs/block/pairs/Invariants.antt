use Rattle.mv_blocks.proofs.ListedLemmas.{IsListed}
use Rattle.mv_blocks.proofs.block.pairs.Given as goal

abbrev pub invariant-places : goal.invariant-places
invariant-places l = IsListed l.levels l.intra l.alternate l.k l.run l.pairs.items
