use Rattle.std.proofs.Common.{drop}
use Rattle.mv_blocks.proofs.WriteLemmas.{IsPut}
use Rattle.mv_blocks.proofs.write.write_listed.Given as goal

abbrev pub invariant-places : goal.invariant-places
invariant-places g l = IsPut g.P.Put.stands l.code l.start l.levels l.fn.to l.to l.fn.out l.out l.next (drop l.place-index l.places)
