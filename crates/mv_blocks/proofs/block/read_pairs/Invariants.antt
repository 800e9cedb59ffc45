use Rattle.std.proofs.Common.{◌-◌}
use Rattle.mv_blocks.proofs.PairLemmas.{IsReadSoFar}
use Rattle.mv_blocks.proofs.block.read_pairs.Given as goal

abbrev pub invariant-pairs : goal.invariant-pairs
invariant-pairs l = IsReadSoFar l.code l.start l.initial.w l.place l.levels l.w

abbrev pub decreases-pairs : goal.decreases-pairs
decreases-pairs l = 64 - l.place
