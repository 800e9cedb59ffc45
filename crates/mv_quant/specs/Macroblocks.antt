-- How the levels of a macroblock were quantised, and the coefficients of its blocks, those that aren't coded included.
use Rattle.std.specs.Prelude.{◌≡◌, ℕ, Bool, true, false, ◌==◌, if◌then◌else◌, List, ℤ, pos, negsuc, ◌≤ℤ◌, unsigned_abs}
use Rattle.std.specs.List.{list_all}
use Rattle.mv_terms.specs.declared.head.Head.{Head}
use Rattle.mv_terms.specs.declared.macroblock.Decision.{Decision}
use Rattle.mv_terms.specs.Block.{entry}
use Rattle.mv_quant.specs.declared.Kind.{Kind}
use Rattle.mv_quant.specs.Scale.{scale_of}
use Rattle.mv_quant.specs.Dequantised.{dequantised}

-- how the levels of a macroblock were quantised (H.262, 7.4; in the 4:2:0 format all six blocks have one matrix,
-- 7.4.2.1)
abbrev pub kind_of : Head → Decision → Kind
kind_of head d = record {
  intra = d.intra;
  scale = scale_of head.non_linear d.scale;
  dc_precision = head.dc_precision;
  matrix = if d.intra then head.matrices.intra else head.matrices.non_intra;
}

-- a block without coefficients (H.262, 6.3.17.4): of a macroblock that isn't intra, with levels of zero alone
abbrev pub is_absent : Kind → List ℤ → Bool
is_absent kind levels =
    (if kind.intra then false else list_all (λ level. unsigned_abs level == 0) levels)

-- the coefficient at (v, u) of a block (H.262, 7.4); those of an absent block are zero, without mismatch control
unfoldable pub coefficient_at : Kind → List ℤ → ℕ → ℕ → ℤ
coefficient_at kind levels v u =
    if is_absent kind levels then pos 0 else dequantised kind (entry levels) v u

-- an absent block has no coefficient but zero
abbrev pub AbsentIsZero : Type 0
AbsentIsZero = (kind : Kind) (levels : List ℤ) → is_absent kind levels ≡ true
    → (v u : ℕ) → coefficient_at kind levels v u ≡ pos 0

-- a coefficient of any block lies in −2048 to 2047
abbrev pub CoefficientIsSaturated : Type 0
CoefficientIsSaturated = (kind : Kind) (levels : List ℤ) (v u : ℕ)
    → (negsuc 2047 ≤ℤ coefficient_at kind levels v u) × (coefficient_at kind levels v u ≤ℤ pos 2047)
