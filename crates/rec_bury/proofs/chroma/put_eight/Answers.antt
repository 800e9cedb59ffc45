use Rattle.std.proofs.Common.{◌≡◌, ◌+◌, ◌*◌, arith}
use Rattle.rec_bury.proofs.WriteLemmas.{written_more}
use Rattle.rec_bury.proofs.chroma.put_eight.Goals as goal

pub columns-preserved : goal.columns-preserved
columns-preserved c = λ v e before.
    let is : v (c.args.at + c.columns.x) ≡ 4 * c.from-sample.result + c.pair_of.result = omega (arith, e c.columns.x (omega arith), c.from-sample.ensures, c.pair_of.ensures.value) in
    written_more v _ _ (c.args.at + c.columns.x) _ _ (omega arith) (omega arith) is c.put_sample.ensures (c.columns.invariant v e before)
