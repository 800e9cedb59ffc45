use Rattle.std.proofs.Common.{◌+◌, ◌*◌, arith}
use Rattle.rec_bury.proofs.WriteLemmas.{written_along}
use Rattle.rec_bury.proofs.ChromaLemmas.{row_word}
use Rattle.rec_bury.proofs.chroma.put_row.Goals as goal

pub macroblocks-preserved : goal.macroblocks-preserved
macroblocks-preserved c = λ v row before.
    let w = c.slot_word.ensures in
    written_along v _ (c.args.at + 8 * c.macroblocks.x + 8) _ (omega arith)
    (c.put_eight.ensures v
    (row_word v _ _ _ c.args.at c.args.m c.args.wide c.args.b c.macroblocks.x c.slot_word.result c.macroblocks-test.true w.high w.low w.value row)
    (c.macroblocks.invariant v row before))
