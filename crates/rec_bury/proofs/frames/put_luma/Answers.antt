use Rattle.std.proofs.Common.{◌≡◌, ◌*◌, arith, refl}
use Rattle.rec_bury.proofs.WriteLemmas.{written_none, written_more, written_along}
use Rattle.rec_bury.proofs.frames.put_luma.Goals as goal

pub samples-init : goal.samples-init
samples-init c = λ v _. written_none v _

pub samples-preserved : goal.samples-preserved
samples-preserved c = λ v e.
    let is : v c.samples.k ≡ 4 * c.from.result = omega (arith, e c.samples.k (omega arith), c.from.ensures) in
    written_more v _ _ c.samples.k _ _ refl (omega arith) is c.put_sample.ensures (c.samples.invariant v e)

pub returns : goal.returns
returns c = λ v e. written_along v _ c.samples.k _ (omega arith) (c.samples.invariant v e)
