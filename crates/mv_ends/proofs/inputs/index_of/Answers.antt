use Rattle.std.proofs.Common.{rules}
use Rattle.mv_ends.proofs.PlaceLemmas.{place_goes_on, place_is_here}
use Rattle.mv_ends.proofs.inputs.index_of.Goals as goal

pub loop-i-preserved : goal.loop-i-preserved
loop-i-preserved c = place_goes_on _ _ _ _ c.loop-i-test.true c.index-inputs-i.is (search rules) c.loop-i.invariant

pub returns-then-eq-clause-place : goal.returns-then-eq-clause-place
returns-then-eq-clause-place c = place_is_here _ _ _ _ c.loop-i-test.true c.index-inputs-i.is (search rules) c.loop-i.invariant
