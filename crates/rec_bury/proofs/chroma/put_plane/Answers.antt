use Rattle.std.proofs.Common.{◌≡◌, ◌<◌, ◌*◌, arith}
use Rattle.rec_bury.proofs.WriteLemmas.{written_along}
use Rattle.rec_bury.proofs.ChromaLemmas.{plane_row, row_inside, row_next, row_here, rows_whole}
use Rattle.rec_bury.proofs.chroma.put_plane.Goals as goal

pub put_row-requires-clause-from : goal.put_row-requires-clause-from
put_row-requires-clause-from c =
    let same : c.from-wide.result ≡ c.args.wide = c.from-wide.ensures in
    let below : c.rows.y < 8 * c.args.high = omega arith in
    rw same (omega (arith, row_inside c.args.wide c.args.high c.rows.y below))

pub rows-preserved : goal.rows-preserved
rows-preserved c = λ v plane before.
    let same : c.from-wide.result ≡ c.args.wide = c.from-wide.ensures in
    let below : c.rows.y < 8 * c.args.high = omega arith in
    written_along v _ _ _ (row_next c.args.start c.from-wide.result c.args.wide c.rows.y same)
    (c.put_row.ensures v
    (plane_row v _ _ _ c.args.start c.args.wide c.from-wide.result c.args.high c.args.first c.rows.y same below plane)
    (written_along v _ _ _ (row_here c.args.start c.from-wide.result c.args.wide c.rows.y same) (c.rows.invariant v plane before)))

pub returns : goal.returns
returns c = λ v plane before.
    let all : c.rows.y ≡ 8 * c.args.high = omega arith in
    written_along v _ _ _ (rows_whole c.args.start c.args.wide c.args.high c.rows.y all) (c.rows.invariant v plane before)
