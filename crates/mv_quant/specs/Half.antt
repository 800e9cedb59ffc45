-- How close to a coefficient the value of its nearest level is.
use Rattle.std.specs.Prelude.{◌≡◌, ℕ, ◌+◌, ◌*◌, ◌/◌, ◌^◌, ◌≤◌, true, false, ℤ, pos, unsigned_abs}
use Rattle.mv_quant.specs.declared.Kind.{Kind}
use Rattle.mv_quant.specs.Dequantised.{value_of, is_first_of_intra, step_at}
use Rattle.mv_quant.specs.Nearest.{distance, nearest_level}

-- LAWS: values of neighbouring levels lie a sixteenth of the step apart, rounded up at most, and reach as far as
-- coefficients do where the step is at least 16;
abbrev pub NearestIsWithinHalf : Type 0
NearestIsWithinHalf =
    (kind : Kind) (v u : ℕ) (c : ℤ) → kind.intra ≡ true → is_first_of_intra kind v u ≡ false
    → 16 ≤ step_at kind (8 * v + u) → unsigned_abs c ≤ 2047
    → distance (value_of kind v u (nearest_level kind v u c)) c
    ≤ (step_at kind (8 * v + u) + 15) / 32

-- of other blocks the values of the levels 0 and 1 lie three times as far apart as half of that;
abbrev pub OtherIsWithinHalf : Type 0
OtherIsWithinHalf =
    (kind : Kind) (v u : ℕ) (c : ℤ) → kind.intra ≡ false → 16 ≤ step_at kind (8 * v + u)
    → unsigned_abs c ≤ 2047
    → distance (value_of kind v u (nearest_level kind v u c)) c
    ≤ (3 * step_at kind (8 * v + u) + 30) / 64

-- and those of first levels intra_dc_mult.
abbrev pub FirstIsWithinHalf : Type 0
FirstIsWithinHalf = (kind : Kind) (c : ℕ) → kind.intra ≡ true → kind.dc_precision ≤ 3 → c ≤ 2040
    → 2 * distance (value_of kind 0 0 (nearest_level kind 0 0 (pos c))) (pos c)
    ≤ 8 / 2 ^ kind.dc_precision
