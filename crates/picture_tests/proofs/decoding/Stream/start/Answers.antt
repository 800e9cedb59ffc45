use Rattle.std.proofs.Common.{[]}
use Rattle.picture_tests.proofs.decoding.Stream.start.Goals as goal

pub invariant_of-result : goal.invariant_of-result
invariant_of-result g c =
    let context = c.in-Ok.context in
    let decoded = c.in-Ok-unit.ensures.decodes context.mb_wide context.mb_high [] c.in_ok-decoder.ensures c.in-Ok.ensures.fits in
    (context.mb_wide, context.mb_high, decoded.unit, [], decoded.accepted.stands)
