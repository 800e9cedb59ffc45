-- The contracts of inner steps: sizes of levels and of their values. Nobody needs to believe these: they only carry proofs.
use Rattle.std.specs.Prelude.{◌≡◌, ℕ, zero, suc, ◌+◌, ◌-◌, ◌*◌, ◌/◌, ◌^◌, ◌<◌, ◌≤◌, Bool, true, false, if◌then◌else◌, ◌⊎◌, List, length, map, ℤ, pos, negsuc, ◌*ℤ◌, ◌≤ℤ◌, min, unsigned_abs}
use Rattle.std.specs.List.{range_with_len}
use Rattle.mv_terms.specs.Block.{item}
use Rattle.mv_terms.specs.Ranges.{IsLevel}
use Rattle.mv_quant.specs.declared.Kind.{Kind}
use Rattle.mv_quant.specs.Dequantised.{saturated, scaled_level, intra_dc_mult, step_at}
use Rattle.mv_quant.specs.Nearest.{IsPreferred}

-- 1 / d in units of 2^-25, rounded up, for d from 1 to 255
unfoldable pub reciprocals : List ℕ
reciprocals = map (λ d. 2 ^ 25 / d + 1) (range_with_len 1 255)

-- the value of a level that isn't the first of an intra block
abbrev pub scaled_value : Bool → ℕ → ℤ → ℤ
scaled_value intra step level = saturated (scaled_level intra step level)

-- and that of a first one
abbrev pub dc_value : ℕ → ℤ → ℤ
dc_value precision level = saturated (intra_dc_mult precision *ℤ level)

-- what is added to twice the size of a level
abbrev pub oddness : Bool → ℕ
oddness intra = if intra then 0 else 1

-- the size of the value of a level of size n, before saturation
unfoldable pub value_size : ℕ → ℕ → ℕ → ℕ
value_size odd step zero = 0
value_size odd step (suc n) = (2 * suc n + odd) * step / 32

abbrev pub negative : ℤ → Bool
negative (pos n) = false
negative (negsuc n) = true

abbrev pub gap : ℕ → ℕ → ℕ
gap a b = (a - b) + (b - a)

-- a level of size q is to be taken before one of size p: its size is nearer to c, or as near while q is no larger
abbrev pub ComesBefore : (ℕ → ℕ) → ℕ → ℕ → ℕ → Type 0
ComesBefore size c q p =
    (gap (size q) c < gap (size p) c) ⊎ ((gap (size q) c ≡ gap (size p) c) × (q ≤ p))

-- q is preferred to all levels that are allowed
pub record IsNearestOf (value : ℤ → ℤ) (IsAllowed : ℤ → Type 0) (c q : ℤ) : Type 0 where
  pub level : IsAllowed q
  pub first : (p : ℤ) → IsAllowed p → IsPreferred value c q p

abbrev pub IsUpTo : ℕ → ℤ → Type 0
IsUpTo n level = (pos 0 ≤ℤ level) × (level ≤ℤ pos n)

-- the nearest size of a first level to a coefficient of c, by the precision
unfoldable pub dc_size : ℕ → ℕ → ℕ
dc_size zero c = min ((2 * c + 7) / 16) 255
dc_size (suc zero) c = min ((2 * c + 3) / 8) 511
dc_size (suc (suc zero)) c = min ((2 * c + 1) / 4) 1023
dc_size other c = min c 2047

-- the coefficient at place k lies no farther from 0 than from the value of level 1
abbrev pub IsSmall : Kind → List ℤ → ℕ → Type 0
IsSmall kind coefs k =
    2 * unsigned_abs (item coefs k) ≤ min (value_size (oddness kind.intra) (step_at kind k) 1) 2047

-- the nearest level at place k, if it isn't the first of an intra block
abbrev pub IsNearestAt : Kind → List ℤ → ℕ → ℤ → Type 0
IsNearestAt kind coefs k level =
    IsNearestOf (scaled_value kind.intra (step_at kind k)) IsLevel (item coefs k) level

-- the first n levels are found, and the others are zero
pub record AreFound (kind : Kind) (coefs levels : List ℤ) (n : ℕ) : Type 0 where
  pub long : length levels ≡ 64
  pub found : (k : ℕ) → k < n → IsNearestAt kind coefs k (item levels k)
  pub rest : (k : ℕ) → n ≤ k → k < 64 → item levels k ≡ pos 0
