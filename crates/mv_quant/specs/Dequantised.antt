-- The coefficients of a block of levels (H.262, 7.4).
use Rattle.std.specs.Prelude.{ℕ, ◌*◌, ◌/◌, ◌%◌, ◌+◌, ◌^◌, Bool, ◌&&◌, ◌==◌, if◌then◌else◌, ℤ, pos, negsuc, ◌+ℤ◌, ◌-ℤ◌, ◌*ℤ◌, ◌≤ℤ◌, unsigned_abs, int_div, slice_index}
use Rattle.std.specs.Int.{int_min, int_max, int_signum}
use Rattle.mv_terms.specs.Sums.{sum_below}
use Rattle.mv_terms.specs.Block.{IsSameBlock}
use Rattle.mv_quant.specs.declared.Kind.{Kind}

-- H.262, 7.4.3: saturation
abbrev pub saturated : ℤ → ℤ
saturated value = int_max (negsuc 2047) (int_min (pos 2047) value)

-- H.262, 7.4.1: the factor of an intra block's first level
abbrev pub intra_dc_mult : ℕ → ℤ
intra_dc_mult precision = pos (8 / 2 ^ precision)

-- H.262, 7.4.2.3: all other levels; step is the matrix entry times the scale, and the quotient is cut toward zero
unfoldable pub scaled_level : Bool → ℕ → ℤ → ℤ
scaled_level intra step level =
    int_div ((pos 2 *ℤ level +ℤ (if intra then pos 0 else int_signum level)) *ℤ pos step) (pos 32)

-- what a level at place k, in raster order, is a multiple of: the entry of the matrix times the scale
abbrev pub step_at : Kind → ℕ → ℕ
step_at kind k = slice_index kind.matrix k * kind.scale

-- (v, u) is the place of an intra block's first level
abbrev pub is_first_of_intra : Kind → ℕ → ℕ → Bool
is_first_of_intra kind v u = kind.intra && ((v == 0) && (u == 0))

-- the dequantised value of one level at (v, u), before mismatch control
unfoldable pub value_of : Kind → ℕ → ℕ → ℤ → ℤ
value_of kind v u level =
    if is_first_of_intra kind v u
    then saturated (intra_dc_mult kind.dc_precision *ℤ level)
    else saturated (scaled_level kind.intra (step_at kind (8 * v + u)) level)

abbrev pub is_even : ℤ → Bool
is_even z = unsigned_abs z % 2 == 0

-- the lowest bit changed
abbrev pub toggled : ℤ → ℤ
toggled z = if is_even z then z +ℤ pos 1 else (z -ℤ pos 1)

-- the sum of the values of all levels QF
unfoldable pub value_sum : Kind → (ℕ → ℕ → ℤ) → ℤ
value_sum kind QF = sum_below 8 (λ v. sum_below 8 (λ u. value_of kind v u (QF v u)))

-- H.262, 7.4.4: the coefficient at (v, u) of a block of levels QF; where the sum of all values is even, mismatch
-- control changes the lowest bit of the last one
unfoldable pub dequantised : Kind → (ℕ → ℕ → ℤ) → ℕ → ℕ → ℤ
dequantised kind QF v u =
    if ((v == 7) && (u == 7)) && is_even (value_sum kind QF)
    then toggled (value_of kind v u (QF v u))
    else value_of kind v u (QF v u)

-- a coefficient, mismatch control included, lies in −2048 to 2047, whatever the levels
abbrev pub DequantisedIsSaturated : Type 0
DequantisedIsSaturated = (kind : Kind) (QF : ℕ → ℕ → ℤ) (v u : ℕ)
    → (negsuc 2047 ≤ℤ dequantised kind QF v u) × (dequantised kind QF v u ≤ℤ pos 2047)

-- the value of one level lies in −2048 to 2047
abbrev pub ValueIsSaturated : Type 0
ValueIsSaturated = (kind : Kind) (v u : ℕ) (level : ℤ)
    → (negsuc 2047 ≤ℤ value_of kind v u level) × (value_of kind v u level ≤ℤ pos 2047)

-- the coefficients of a block depend on its 64 levels alone
abbrev pub DequantisedOfSame : Type 0
DequantisedOfSame = (kind : Kind) (QF QF' : ℕ → ℕ → ℤ) → IsSameBlock QF QF'
    → IsSameBlock (dequantised kind QF) (dequantised kind QF')
