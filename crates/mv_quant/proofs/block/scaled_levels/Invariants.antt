use Rattle.std.proofs.Common.{◌≡◌, ◌*◌, slice_index}
use Rattle.mv_terms.specs.Block.{item}
use Rattle.mv_terms.proofs.FilledLemmas.{AreFilled}
use Rattle.mv_quant.specs.Dequantised.{saturated, scaled_level}
use Rattle.mv_quant.proofs.block.scaled_levels.Given as goal

abbrev pub invariant-loop-k : goal.invariant-loop-k
invariant-loop-k l = AreFilled 64 (λ k z. z ≡ saturated (scaled_level l.kind.intra (slice_index l.kind.matrix k * l.kind.scale) (item l.levels k))) l.block l.k
