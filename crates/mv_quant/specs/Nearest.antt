-- The level of a coefficient: the one whose value is nearest to it.
use Rattle.std.specs.Prelude.{◌≡◌, ℕ, zero, suc, ◌+◌, ◌-◌, ◌*◌, ◌/◌, ◌^◌, ◌<◌, ◌≤◌, Bool, true, false, nat_lt, if◌then◌else◌, ◌⊎◌, ℤ, pos, negsuc, ◌-ℤ◌, ◌≤ℤ◌, ◌<ℤ◌, unsigned_abs}
use Rattle.mv_terms.specs.Ranges.{IsDcLevel, IsLevel}
use Rattle.mv_quant.specs.declared.Kind.{Kind}
use Rattle.mv_quant.specs.Dequantised.{value_of, is_first_of_intra, step_at}

abbrev pub distance : ℤ → ℤ → ℕ
distance a b = unsigned_abs (a -ℤ b)

-- level p in place of q where the value of p is nearer to c
abbrev pub nearer : (ℤ → ℤ) → ℤ → ℤ → ℤ → ℤ
nearer value c q p = if nat_lt (distance (value p) c) (distance (value q) c) then p else q

-- the first of the levels 0, 1, −1, 2, −2, .., n, −n with the nearest value to c; or of 0, 1, .., n, where none has a sign
unfoldable pub first_nearest : Bool → (ℤ → ℤ) → ℤ → ℕ → ℤ
first_nearest signed value c zero = pos 0
first_nearest signed value c (suc n) =
    let q = nearer value c (first_nearest signed value c n) (pos (suc n)) in
    if signed then nearer value c q (negsuc n) else q

-- The level of a coefficient c at (v, u): of all that can be coded there (H.262, 7.2.1 and 7.2.2) the one whose value
-- before mismatch control is nearest to c; among equals the least absolute level, then the positive one.
unfoldable pub nearest_level : Kind → ℕ → ℕ → ℤ → ℤ
nearest_level kind v u c =
    if is_first_of_intra kind v u
    then first_nearest false (value_of kind v u) c (2 ^ (8 + kind.dc_precision) - 1)
    else first_nearest true (value_of kind v u) c 2047

-- ---- the same as a relation

-- the levels that can be coded at (v, u), from the least one to the greatest one
abbrev pub least_level : Kind → ℕ → ℕ → ℤ
least_level kind v u = if is_first_of_intra kind v u then pos 0 else negsuc 2046

abbrev pub greatest_level : Kind → ℕ → ℕ → ℤ
greatest_level kind v u =
    if is_first_of_intra kind v u then pos (2 ^ (8 + kind.dc_precision) - 1) else pos 2047

abbrev pub CanStand : Kind → ℕ → ℕ → ℤ → Type 0
CanStand kind v u level = (least_level kind v u ≤ℤ level) × (level ≤ℤ greatest_level kind v u)

-- level q comes before level p: it is smaller, or it is p or its opposite and not less
abbrev pub IsSimpler : ℤ → ℤ → Type 0
IsSimpler q p = (unsigned_abs q < unsigned_abs p) ⊎ ((unsigned_abs q ≡ unsigned_abs p) × (p ≤ℤ q))

-- q is preferred to p as the level of c: its value is nearer, or as near while it is simpler
abbrev pub IsPreferred : (ℤ → ℤ) → ℤ → ℤ → ℤ → Type 0
IsPreferred value c q p = (distance (value q) c < distance (value p) c)
    ⊎ ((distance (value q) c ≡ distance (value p) c) × IsSimpler q p)

-- q can be coded at (v, u), and is preferred to all that can be
pub record IsNearest (kind : Kind) (v u : ℕ) (c q : ℤ) : Type 0 where
  pub level : CanStand kind v u q
  pub first : (p : ℤ) → CanStand kind v u p → IsPreferred (value_of kind v u) c q p

-- ---- LAWS, for each kind, place and coefficient, however large

-- the level of a coefficient is the nearest one,
abbrev pub NearestIsNearest : Type 0
NearestIsNearest = (kind : Kind) (v u : ℕ) (c : ℤ) → IsNearest kind v u c (nearest_level kind v u c)

-- and no other level is;
abbrev pub OneIsNearest : Type 0
OneIsNearest =
    (kind : Kind) (v u : ℕ) (c q : ℤ) → IsNearest kind v u c q → q ≡ nearest_level kind v u c

-- it lies in −2047 to 2047,
abbrev pub NearestIsLevel : Type 0
NearestIsLevel =
    (kind : Kind) (v u : ℕ) (c : ℤ) → kind.dc_precision ≤ 3 → IsLevel (nearest_level kind v u c)

-- and the first one of an intra block in the range of its precision;
abbrev pub NearestDcIsInRange : Type 0
NearestDcIsInRange = (kind : Kind) (c : ℤ) → kind.intra ≡ true
    → IsDcLevel kind.dc_precision (nearest_level kind 0 0 c)

-- what is found near the value of a level has this level again: values of different levels lie at least a sixteenth of the
-- step apart, unless they are saturated.
abbrev pub CloseIsNearest : Type 0
CloseIsNearest =
    (kind : Kind) (v u : ℕ) (level c : ℤ) → is_first_of_intra kind v u ≡ false → IsLevel level
    → let apart = step_at kind (8 * v + u) / 16 in
    2 * distance (value_of kind v u level) c < apart
    → unsigned_abs (value_of kind v u level) + apart ≤ 2047
    → nearest_level kind v u c ≡ level
