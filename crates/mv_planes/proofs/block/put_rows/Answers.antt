use Rattle.std.proofs.Common.{refl}
use Rattle.mv_planes.proofs.PartLemmas.{rows_none, rows_more}
use Rattle.mv_planes.proofs.block.put_rows.Goals as goal

pub rows-init : goal.rows-init
rows-init c = rows_none c.args.samples.now c.args.at c.args.stride c.copied-values.result

pub columns-preserved : goal.columns-preserved
columns-preserved c =
    rows_more c.args.samples.now c.columns.samples c.args.at c.args.stride c.copied-values.result c.rows.row c.columns.col _
    c.requires.apart c.rows-test.true c.columns-test.true c.requires.inside refl c.columns.invariant
