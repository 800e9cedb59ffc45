-- How far the samples of a block lie from those that its levels are nearest to.
use Rattle.std.specs.Prelude.{◌≡◌, ℕ, zero, suc, ◌+◌, ◌-◌, ◌*◌, ◌/◌, ◌^◌, ◌<◌, ◌≤◌, ◌==◌, ◌&&◌, max, if◌then◌else◌, true, List, ℤ, pos, ◌+ℤ◌, ◌-ℤ◌, ◌≤ℤ◌, unsigned_abs, slice_index}
use Rattle.mv_terms.specs.Sums.{total_below}
use Rattle.mv_transform.specs.Transform.{weight}
use Rattle.mv_quant.specs.declared.Kind.{Kind}
use Rattle.mv_quant.specs.Dequantised.{is_first_of_intra, step_at}
use Rattle.mv_recon.specs.Pictures.{residual_at, clipped}
use Rattle.cert_requant.specs.Requantised.{nearest_block}
use Rattle.mv_transform.specs.Near.{twice, carried, square_sum}

-- Values of levels reach as far as coefficients do, wherever a level isn't the first of an intra block.
abbrev pub IsFine : Kind → Type 0
IsFine kind = (k : ℕ) → k < 64 → (kind.intra ≡ true → 0 < k) → 16 ≤ step_at kind k

-- half of what the values of neighbouring levels lie apart at most
abbrev pub half_gap : Kind → ℕ → ℕ
half_gap kind k =
    if kind.intra then (step_at kind k + 15) / 32 else ((3 * step_at kind k + 30) / 64)

-- How far the coefficient at (v, u) lies from that of the source at most: that much, and 1 more where mismatch control
-- changes it.
abbrev pub change_of : Kind → ℕ → ℕ → ℕ
change_of kind v u =
    if is_first_of_intra kind v u then 4 / 2 ^ kind.dc_precision
    else (half_gap kind (8 * v + u) + (if (v == 7) && (u == 7) then 1 else 0))

-- THE BOUND at each place of a block
abbrev pub greatest_error : Kind → ℕ → ℕ → ℕ
greatest_error kind y x = (carried (change_of kind) y x + 21 * 2 ^ 22) / 2 ^ 27

-- the squares of a block, by the squares of the changes of its coefficients
abbrev pub HasSmallSquares : Kind → (ℕ → ℕ → ℕ) → Type 0
HasSmallSquares kind errors = (k : ℕ) → 8192 * k * square_sum errors
    ≤ (k + 1) * (2049 * square_sum (twice (change_of kind)) + 225792 * k)

-- two samples, how far apart
abbrev pub apart : ℕ → ℕ → ℕ
apart a b = (a - b) + (b - a)

abbrev pub AreBytes : (ℕ → ℕ → ℕ) → Type 0
AreBytes s = (y x : ℕ) → y < 8 → x < 8 → s y x ≤ 255

-- the levels nearest to samples beyond a prediction, and the samples that they decode to
abbrev pub nearest_to : Kind → (ℕ → ℕ → ℤ) → (ℕ → ℕ → ℕ) → List ℤ
nearest_to kind prediction s = nearest_block kind (λ y x. pos (s y x) -ℤ prediction y x)

abbrev pub rebuilt : Kind → (ℕ → ℕ → ℤ) → (ℕ → ℕ → ℕ) → ℕ → ℕ → ℕ
rebuilt kind prediction s y x =
    clipped (prediction y x +ℤ residual_at kind (nearest_to kind prediction s) y x)

-- predicted samples, which are 0 in an intra block
pub record IsPrediction (kind : Kind) (prediction : ℕ → ℕ → ℤ) : Type 0 where
  pub bytes : (y x : ℕ) → y < 8 → x < 8
      → (pos 0 ≤ℤ prediction y x) × (prediction y x ≤ℤ pos 255)
  pub none : kind.intra ≡ true → (y x : ℕ) → y < 8 → x < 8 → prediction y x ≡ pos 0

-- the samples r are near s, each and all together
pub record AreClose (kind : Kind) (s r : ℕ → ℕ → ℕ) : Type 0 where
  pub each : (y x : ℕ) → y < 8 → x < 8 → apart (r y x) (s y x) ≤ greatest_error kind y x
  pub all : HasSmallSquares kind (λ y x. apart (r y x) (s y x))

-- LAW: a block of the nearest levels decodes to samples near its own, whatever it is predicted from.
abbrev pub NearestBlockIsNear : Type 0
NearestBlockIsNear = (kind : Kind) (prediction : ℕ → ℕ → ℤ) (s : ℕ → ℕ → ℕ)
    → kind.dc_precision ≤ 3 → IsFine kind → IsPrediction kind prediction → AreBytes s
    → AreClose kind s (rebuilt kind prediction s)

-- ---- the same by a simpler sum, as it is often said

-- what a matrix and a scale bring to the sample at (y, x), in units of 2^-31
unfoldable pub simple_sum : List ℕ → ℕ → ℕ → ℕ → ℕ
simple_sum matrix scale y x = total_below 8 (λ v. total_below 8 (λ u.
    unsigned_abs (weight v u y x) * (slice_index matrix (8 * v + u) * scale + 64)))

-- the greatest of the first n values of a function
unfoldable pub greatest_of : ℕ → (ℕ → ℕ) → ℕ
greatest_of zero f = 0
greatest_of (suc n) f = max (greatest_of n f) (f n)

-- a bound for all places of an intra block by its matrix and scale alone
abbrev pub simple_error : List ℕ → ℕ → ℕ
simple_error matrix scale = greatest_of 8 (λ y. greatest_of 8 (λ x.
    (simple_sum matrix scale y x + 2 ^ 31 - 1) / 2 ^ 31 + 4))

-- LAW: that bound is no sharper.
abbrev pub ErrorIsWithinSimple : Type 0
ErrorIsWithinSimple = (kind : Kind) (y x : ℕ) → kind.intra ≡ true → y < 8 → x < 8
    → greatest_error kind y x ≤ simple_error kind.matrix kind.scale
