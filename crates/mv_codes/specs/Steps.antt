-- What the writers' inner steps say of their lists of codes. Nobody needs to believe it: it only carries proofs.
use Rattle.std.specs.Prelude.{ℕ, ◌+◌, ◌-◌, ◌*◌, ◌^◌, ◌<◌, ◌≤◌, ◌==◌, ◌&&◌, not, nat_lt, nat_le, Bool, List, [], ◌∷◌, ◌++◌, length, get_or, replicate, ℤ}
use Rattle.mv_bits.specs.Bits.{worth, digits}
use Rattle.mv_codes.specs.Spelled.{twos_12}
use Rattle.mv_codes.specs.declared.increment.Increment.{Increment}
use Rattle.mv_codes.specs.declared.increment.Increment.TheVariants as increment
use Rattle.mv_codes.specs.declared.macroblock_type.TypeBits.{TypeBits}

-- a code stands at this place of the lists
pub record HoldsCode (values sizes : List ℕ) (at : ℕ) : Type 0 where
  pub in_values : at < length values
  pub in_sizes : at < length sizes
  pub few : get_or sizes at 0 ≤ 31
  pub fits : get_or values at 0 < 2 ^ get_or sizes at 0

abbrev pub increment_place : Increment → ℕ
increment_place (increment.Step n) = n
increment_place increment.Escape = 0

abbrev pub flags_place : TypeBits → ℕ
flags_place t =
    worth t.quant + 2 * worth t.forward + 4 * worth t.backward + 8 * worth t.pattern
    + 16 * worth t.intra

-- how many levels have a code behind so many zeros, and how many codes stand before those
unfoldable pub coded_levels : List ℕ
coded_levels = 40 ∷ 18 ∷ 5 ∷ 4 ∷ (replicate 3 3 ++ (replicate 10 2 ++ replicate 15 1))

unfoldable pub sum_before : ℕ → List ℕ → List ℕ
sum_before n [] = []
sum_before n (m ∷ ms) = n ∷ sum_before (n + m) ms

unfoldable pub coded_before : List ℕ
coded_before = sum_before 0 coded_levels

-- this run and magnitude have a code, and its place among those by run and level
abbrev pub is_coded : ℕ → ℕ → Bool
is_coded run magnitude = nat_lt 0 magnitude && nat_le magnitude (get_or coded_levels run 0)

abbrev pub level_place : ℕ → ℕ → ℕ
level_place run magnitude = get_or coded_before run 0 + magnitude - 1

-- an escape by its digits, and a run and a level behind it
abbrev pub escape_digits : ℕ → ℤ → List Bool
escape_digits run level = digits 6 1 ++ (digits 6 run ++ digits 12 (twos_12 level))

abbrev pub has_one_bit : ℕ → ℕ → Bool → Bool → Bool
has_one_bit run magnitude table_15 first = not table_15 && (first && (run == 0 && magnitude == 1))
