-- The canonical bits of a block (H.262, 6.2.6 and 7.2): a run and a level have their code where the table has one, and
-- else an escape.
use Rattle.std.specs.Prelude.{◌≡◌, ℕ, zero, suc, ◌+◌, ◌-◌, ◌^◌, ◌<◌, ◌≤◌, ◌==◌, ◌||◌, not, nat_lt, Bool, true, false, List, [], ◌∷◌, ◌++◌, length, if◌then◌else◌, slice_index_or, ℤ, pos, negsuc, ◌-ℤ◌, int_lt, unsigned_abs, All, Ok}
use Rattle.mv_terms.specs.declared.status.Why.{Why}
use Rattle.mv_terms.specs.Ranges.{IsLevel, IsDcLevel}
use Rattle.mv_bits.specs.Bits.{digits}
use Rattle.mv_bits.specs.ReadBack.{ReadsBack}
use Rattle.mv_bits.specs.ZeroRuns.{IsBounded}
use Rattle.mv_codes.specs.declared.code.Code.{Code}
use Rattle.mv_codes.specs.declared.coefficient.Coef.{Coef}
use Rattle.mv_codes.specs.declared.coefficient.Coef.TheVariants as coef
use Rattle.mv_codes.specs.Sizes.{dc_size_codes}
use Rattle.mv_codes.specs.Spelled.{code_of, coefficient_bits, same_coef, same_number}
use Rattle.mv_blocks.specs.declared.block.BlockCode.{BlockCode}
use Rattle.mv_blocks.specs.declared.block.Pair.{Pair}
use Rattle.mv_blocks.specs.Raster.{in_raster}
use Rattle.mv_blocks.specs.Blocks.{Block, codes_at, level_at, intra_level_at, pairs_of}

-- the least size of at most n that has differences of this magnitude (H.262, Table B.12)
abbrev pub size_within : ℕ → ℕ → ℕ
size_within zero magnitude = 0
size_within (suc n) magnitude = if nat_lt magnitude (2 ^ n) then size_within n magnitude else suc n

abbrev pub dc_size : ℤ → ℕ
dc_size difference = size_within 11 (unsigned_abs difference)

-- dct_dc_differential of a difference of this size (H.262, 7.2.1)
abbrev pub differential : ℕ → ℤ → ℕ
differential size difference =
    if int_lt difference (pos 0)
    then 2 ^ size - 1 - unsigned_abs difference else unsigned_abs difference

abbrev pub dc_bits : Bool → ℤ → List Bool
dc_bits luma difference =
    code_of (same_number (dc_size difference)) (dc_size_codes luma)
    ++ digits (dc_size difference) (differential (dc_size difference) difference)

-- a run and a level
abbrev pub pair_bits : List (Code Coef) → Pair → List Bool
pair_bits table p = coefficient_bits table p.run p.level

-- runs and levels from a place of the scan on, and the end of the block
abbrev pub pairs_bits : BlockCode → ℕ → List Pair → List Bool
pairs_bits code place [] = code_of (same_coef coef.End) (codes_at code place)
pairs_bits code place (p ∷ ps) =
    pair_bits (codes_at code place) p ++ pairs_bits code (place + p.run + 1) ps

-- a block of an intra macroblock, or of another
abbrev pub block_bits_by : Bool → BlockCode → ℤ → List ℤ → List Bool
block_bits_by true code predictor levels =
    dc_bits code.luma (slice_index_or levels 0 (pos 0) -ℤ predictor)
    ++ pairs_bits code 1 (pairs_of levels true code.alternate)
block_bits_by false code predictor levels = pairs_bits code 0 (pairs_of levels false code.alternate)

abbrev pub block_bits : BlockCode → ℤ → List ℤ → List Bool
block_bits code predictor levels = block_bits_by code.intra code predictor levels

-- a level of the list isn't zero
abbrev pub has_level : List ℤ → Bool
has_level [] = false
has_level (level ∷ levels) = not (unsigned_abs level == 0) || has_level levels

-- Levels that a block can be written with: an intra one has a DC level in its range, another one a level that isn't zero.
pub record IsWritable (code : BlockCode) (predictor : ℤ) (levels : List ℤ) : Type 0 where
  pub whole : length levels ≡ 64
  pub legal : All IsLevel levels
  pub precision : code.dc_precision ≤ 3
  pub dc : code.intra ≡ true → IsDcLevel code.dc_precision (slice_index_or levels 0 (pos 0))
      × IsDcLevel code.dc_precision predictor
  pub some : code.intra ≡ false → has_level levels ≡ true

-- the levels that an escape may have
abbrev pub IsCoded : ℤ → Type 0
IsCoded (pos n) = (0 < n) × (n ≤ 2047)
IsCoded (negsuc n) = n ≤ 2046

-- runs and levels that lie in the block from a place of the scan on; its end stands behind the first place
abbrev pub Fit : ℕ → List Pair → Type 0
Fit place [] = 0 < place
Fit place (p ∷ ps) = (place + p.run < 64) × IsCoded p.level × Fit (place + p.run + 1) ps

-- LAWS: the runs and levels of a block give its levels back, with the DC level of an intra block;
abbrev pub PairsGiveLevels : Type 0
PairsGiveLevels = (alternate : Bool) (levels : List ℤ) → length levels ≡ 64
    → (in_raster alternate (level_at 0 (pairs_of levels false alternate)) ≡ levels)
    × (in_raster alternate (intra_level_at (slice_index_or levels 0 (pos 0))
    (pairs_of levels true alternate)) ≡ levels)

-- the canonical bits of a block read as its levels;
abbrev pub BlockReadsBack : Type 0
BlockReadsBack =
    (code : BlockCode) (predictor : ℤ) (levels : List ℤ) → IsWritable code predictor levels
    → ReadsBack Why (Block code predictor) levels (block_bits code predictor levels)

-- behind at most 4 zero bits, no 1 of the canonical bits of a block stands behind 23 zeros in a row; they end with at
-- most one zero, and are at most 1,540;
abbrev pub BlockIsBounded : Type 0
BlockIsBounded =
    (code : BlockCode) (predictor : ℤ) (levels : List ℤ) → IsWritable code predictor levels
    → IsBounded 4 (block_bits code predictor levels) 1 1540

-- levels that are read lie in -2047 to 2047.
abbrev pub ReadLevelsAreLegal : Type 0
ReadLevelsAreLegal =
    (code : BlockCode) (predictor : ℤ) (bits rest : List Bool) (levels : List ℤ)
    → code.dc_precision ≤ 3
    → Block code predictor bits (Ok (levels, rest)) → All IsLevel levels
