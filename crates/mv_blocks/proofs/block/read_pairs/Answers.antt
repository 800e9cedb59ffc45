use Rattle.std.proofs.Common.{rules, w16}
use Rattle.std.proofs.lemmas.Int.{to_z-of_z}
use Rattle.std.proofs.lemmas.Result.{err_from_is_err_and}
use Rattle.mv_blocks.proofs.PairLemmas.{so_far_none, so_far_push, so_far_refused}
use Rattle.mv_blocks.proofs.block.read_pairs.Goals as goal

pub pairs-init : goal.pairs-init
pairs-init c = so_far_none c.args.code c.args.start c.args.w.now c.requires

pub returns-in_err-read_next : goal.returns-in_err-read_next
returns-in_err-read_next c =
    let p = err_from_is_err_and c.from_residual.result c.from_residual.ensures.1 in
    rw (p.1, p.2) (so_far_refused c.pairs.invariant c.in_err-read_next.field-0.0 c.read_next.new.w c.pairs.levels c.in_err-read_next.ensures.reads)

pub pairs-preserved : goal.pairs-preserved
pairs-preserved c =
    rw (to_z-of_z w16 c.in-Some.pair.level (search rules), c.raster_place.ensures.place)
    (so_far_push c.pairs.invariant c.in-Some.pair c.read_next.new.w (rw c.in-Some.is at c.in_ok-read_next.ensures.reads) (rw c.in-Some.is at c.in_ok-read_next.ensures.inside))
