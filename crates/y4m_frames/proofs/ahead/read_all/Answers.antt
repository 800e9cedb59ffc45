use Rattle.std.proofs.Common.{◌∙◌, sym, subst, arith}
use Rattle.std.proofs.KnownBytes.{Consumes-trans}
use Rattle.std.specs.Io.KnownBytes.{Consumes}
use Rattle.mv_ends.proofs.Known.{keeps_shelf_trans}
use Rattle.y4m_frames.proofs.AheadLemmas.{range_grown, take_less}
use Rattle.y4m_frames.proofs.ahead.read_all.Goals as goal

pub reads-preserved : goal.reads-preserved
reads-preserved g c =
    let i = c.reads.invariant in
    let e = c.in_ok-count.ensures in
    let new = c.read_behind.new.store in
    record {
      low = omega (arith, i.low);
      within = omega (arith, e.within, c.read_behind.auto.store);
      same_len = c.read_behind.auto.store ∙ i.same_len;
      front = take_less new c.reads.to c.args.from c.reads.filled i.low e.front ∙ i.front;
      read = subst (Consumes (g.S.Shelf.told c.args.shelf.now).rest (g.S.Shelf.told c.read_behind.new.shelf).rest)
          (sym (range_grown c.reads.to new c.args.from c.reads.filled c.in_ok-count.count i.low e.front))
          (Consumes-trans (g.S.Shelf.told c.args.shelf.now).rest (g.S.Shelf.told c.reads.shelf).rest (g.S.Shelf.told c.read_behind.new.shelf).rest _ _ i.read e.read);
      chosen = e.chosen ∙ i.chosen;
      keeps = keeps_shelf_trans (g.S.Shelf.told c.args.shelf.now) (g.S.Shelf.told c.reads.shelf) (g.S.Shelf.told c.read_behind.new.shelf) i.keeps e.keeps;
    }
