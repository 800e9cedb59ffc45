use Rattle.std.proofs.Common.{◌≡◌, ◌+◌, ◌^◌, ◌<◌, ℤ, pos, ◌≤ℤ◌, unsigned_abs, subst, to_z, of_z, w16, arith}
use Rattle.std.proofs.lemmas.Int.{to_z-of_z}
use Rattle.mv_terms.specs.Block.{item}
use Rattle.mv_quant.specs.Nearest.{nearest_level}
use Rattle.mv_quant.specs.Steps.{dc_size}
use Rattle.cert_picture.proofs.CloseLemmas.{intra_first, inter_close, intra_close}
use Rattle.cert_picture.proofs.close.are_close.Goals as goal

pub returns-then-not-kind : goal.returns-then-not-kind
returns-then-not-kind c close =
    inter_close c.args.kind.now c.args.levels.now c.dequantise-values.result c.args.coefs.now c.dequantise-values.ensures c.requires.legal
    (c.others_are_close.ensures c.if-not-others_are_close.false) c.if-not-kind.true (c.is_close.ensures close)

pub returns : goal.returns
returns c close =
    let kind = c.args.kind.now in
    let size = c.first_size.result in
    let same : to_z w16 (of_z w16 c.first_of.result) ≡ c.first_of.result = grind (arith, to_z-of_z) in
    let near = subst (λ (z : ℤ). size < 2 ^ (8 + kind.dc_precision) → (pos 0 ≤ℤ z) × (dc_size kind.dc_precision (unsigned_abs z) ≡ size)) same (c.is_close_first.ensures close) in
    let first = intra_first kind (item c.args.levels.now 0) c.first_of.result size c.if-not-kind.false c.requires.precision c.first_size.ensures near (c.requires.dc c.if-not-kind.false) in
    intra_close kind c.args.levels.now c.dequantise-values.result c.args.coefs.now c.dequantise-values.ensures c.requires.legal
    (c.others_are_close.ensures c.if-not-others_are_close.false) c.if-not-kind.false
    (subst (λ (z : ℤ). nearest_level kind 0 0 z ≡ item c.args.levels.now 0) c.first_of.ensures first)
