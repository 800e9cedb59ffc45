-- What the steps of both directions promise each other. Nobody needs to believe these: they only carry proofs.
use Rattle.std.specs.Prelude.{◌≡◌, ℕ, ◌<◌, ◌≤◌, ◌+◌, ◌-◌, ◌*◌, ◌^◌, ◌==◌, if◌then◌else◌, List, ℤ, pos, ◌-ℤ◌, ◌*ℤ◌, unsigned_abs}
use Rattle.std.specs.Int.{int_shr}
use Rattle.mv_terms.specs.Sums.{sum_below, total_below}
use Rattle.mv_terms.specs.Block.{item}

-- the eight weights are those of w
abbrev pub IsWeights : (ℕ → ℤ) → List ℤ → Type 0
IsWeights w weights = (k : ℕ) → k < 8 → item weights k ≡ w k

-- row i of the values f, each times a weight of its row and a weight of its column
unfoldable pub weighted_row : (ℕ → ℤ) → (ℕ → ℤ) → (ℕ → ℕ → ℤ) → ℕ → ℤ
weighted_row rows columns f i = sum_below 8 (λ j. rows i *ℤ columns j *ℤ f i j)

-- the sum of the 64 values f, each times a weight of its row and a weight of its column
unfoldable pub weighted : (ℕ → ℤ) → (ℕ → ℤ) → (ℕ → ℕ → ℤ) → ℤ
weighted rows columns f = sum_below 8 (weighted_row rows columns f)

-- each value of a line has an absolute value of at most 2^30
abbrev pub IsSmallLine : (ℕ → ℤ) → Type 0
IsSmallLine f = (k : ℕ) → k < 8 → unsigned_abs (f k) ≤ 2 ^ 30

-- how often 2^15 goes into a sum, rounded down, and what is left of the sum
abbrev pub high_part : ℤ → ℤ
high_part sum = int_shr sum 15

abbrev pub low_part : ℤ → ℤ
low_part sum = sum -ℤ pos (2 ^ 15) *ℤ high_part sum

-- sums whose parts have 16 bits
abbrev pub HasParts : List ℤ → Type 0
HasParts sums = (k : ℕ) → k < 64 → unsigned_abs (item sums k) ≤ 2 ^ 30 - 2 ^ 16

-- the coefficients with 0 for the first
abbrev pub without_first : (ℕ → ℤ) → ℕ → ℤ
without_first f k = if k == 0 then pos 0 else f k

-- the weight of the first coefficient at each place
abbrev pub first_weight : ℕ
first_weight = 8386816

-- the sum of the absolute values of a line and of a block
abbrev pub line_size : (ℕ → ℤ) → ℕ
line_size f = total_below 8 (λ u. unsigned_abs (f u))

unfoldable pub total_size : (ℕ → ℕ → ℤ) → ℕ
total_size F = total_below 8 (λ v. line_size (F v))

-- the same of its even rows and of its odd rows
abbrev pub even_size : (ℕ → ℕ → ℤ) → ℕ
even_size F = total_below 4 (λ k. line_size (F (2 * k)))

abbrev pub odd_size : (ℕ → ℕ → ℤ) → ℕ
odd_size F = total_below 4 (λ k. line_size (F (2 * k + 1)))

-- the largest total whose sums fit 32 bits beside what the first coefficient leaves, and the largest of these sums
abbrev pub largest_total : ℕ
largest_total = 124

abbrev pub largest_sum : ℕ
largest_sum = 2080374784

-- a line of zeros but for its last value, which is 1
abbrev pub IsLoneLast : (ℕ → ℤ) → Type 0
IsLoneLast f = (line_size f ≡ 1) × (f 7 ≡ pos 1)
