use Rattle.std.proofs.Common.{◌≡◌, ◌*◌, ℕ, ℤ, slice_index, arith}
use Rattle.std.proofs.lemmas.Int.{to_z-of_z}
use Rattle.mv_terms.specs.Block.{item}
use Rattle.mv_terms.proofs.FilledLemmas.{filled_more}
use Rattle.mv_quant.specs.Dequantised.{saturated, scaled_level}
use Rattle.mv_quant.proofs.block.scaled_levels.Goals as goal

pub loop-k-preserved : goal.loop-k-preserved
loop-k-preserved c = filled_more 64 (λ (k : ℕ) (z : ℤ). z ≡ saturated (scaled_level c.args.kind.now.intra (slice_index c.args.kind.now.matrix k * c.args.kind.now.scale) (item c.args.levels.now k))) _ _ _ c.loop-k.invariant c.loop-k-test.true (grind (arith, to_z-of_z))
