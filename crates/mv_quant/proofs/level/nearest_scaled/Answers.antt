use Rattle.std.proofs.Common.{◌≡◌, ◌≢◌, ◌*◌, arith, pos, cond, min, ◌∙◌, ap, unsigned_abs, Bool, neg_ℤ, to_z, of_z, w16}
use Rattle.std.proofs.lemmas.Int.{ints, to_z-of_z}
use Rattle.mv_quant.specs.Steps.{oddness, negative}
use Rattle.mv_quant.proofs.SignLemmas.{nearest_zero, nearest_signed}
use Rattle.mv_quant.proofs.level.nearest_scaled.Goals as goal

pub returns-then-coefficient-eq0 : goal.returns-then-coefficient-eq0
returns-then-coefficient-eq0 c =
    let z : c.args.coefficient ≡ pos 0 = omega (arith, ints) in
    rw z (nearest_zero c.args.intra (c.args.entry * c.args.scale))

pub returns : goal.returns
returns c =
    let same : to_z w16 (of_z w16 c.with_sign.result) ≡ c.with_sign.result = grind (arith, to_z-of_z) in
    let negative_is : c.is_negative-negative.result ≡ negative c.args.coefficient = grind (arith, to_z-of_z) in
    let odd_is : c.oddness_of.result ≡ oddness c.args.intra = c.oddness_of.ensures in
    let limit_is : c.limit_of-limit.result ≡ cond (negative c.args.coefficient) 2048 2047 = c.limit_of-limit.ensures ∙ ap (λ (b : Bool). cond b 2048 2047) negative_is in
    let size_is : c.from.result ≡ unsigned_abs c.args.coefficient = omega (arith, ints) in
    let target_is : c.min-target.result ≡ min (unsigned_abs c.args.coefficient) (cond (negative c.args.coefficient) 2048 2047) = rw (size_is, limit_is) at c.min-target.ensures in
    let first = rw (odd_is, target_is, limit_is) at c.nearest_size-size.ensures.first in
    let some : c.args.coefficient ≢ pos 0 = λ e. absurd (omega (arith, ints, e, c.if-coefficient-eq0.false)) in
    let level_is : c.with_sign.result ≡ cond (negative c.args.coefficient) (neg_ℤ (pos c.nearest_size-size.result)) (pos c.nearest_size-size.result) =
    c.with_sign.ensures ∙ ap (λ (b : Bool). cond b (neg_ℤ (pos c.nearest_size-size.result)) (pos c.nearest_size-size.result)) negative_is in
    rw (same, level_is) (nearest_signed c.args.intra (c.args.entry * c.args.scale) c.args.coefficient c.nearest_size-size.result some c.nearest_size-size.ensures.within first)
