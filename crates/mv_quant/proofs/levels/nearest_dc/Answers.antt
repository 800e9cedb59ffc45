use Rattle.std.proofs.Common.{◌≡◌, ◌+◌, ◌-◌, ◌^◌, ap, arith, pos, to_z, w16}
use Rattle.std.proofs.lemmas.Int.{ints}
use Rattle.mv_quant.specs.Steps.{dc_size}
use Rattle.mv_quant.proofs.NearestLemmas.{dc_of_positive, dc_of_negative}
use Rattle.mv_quant.proofs.levels.nearest_dc.Goals as goal

pub returns-then-coefficient-le0 : goal.returns-then-coefficient-le0
returns-then-coefficient-le0 c = dc_of_negative c.args.precision (2 ^ (8 + c.args.precision) - 1) c.args.coefficient (omega (arith, ints))

pub returns-else-coefficient-le0 : goal.returns-else-coefficient-le0
returns-else-coefficient-le0 c =
    let z : c.args.coefficient ≡ pos c.unsigned_abs.result = omega (arith, ints) in
    let q : to_z w16 c.dc_size.result ≡ pos (dc_size c.args.precision c.unsigned_abs.result) = omega (arith, ints, c.dc_size.ensures.value, ap (λ n. dc_size c.args.precision n) c.from.ensures) in
    rw (z, q) (dc_of_positive c.args.precision c.unsigned_abs.result c.requires)
