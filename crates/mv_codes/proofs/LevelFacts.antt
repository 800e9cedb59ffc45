-- The writer's lists hold the code of each run and level at its place, and no other has one.
use Rattle.std.proofs.Common.{◌≡◌, ℕ, zero, suc, ◌+◌, ◌*◌, ◌^◌, ◌<◌, ◌≤◌, Bool, true, false, ◌||◌, ◌&&◌, not, cond, eqb, leb, ltb, inl, inr, List, [], ◌∷◌, ◌++◌, append_assoc, add-zero, length, get_or, drop, Option, Some, None, refl, ap, sym, ◌∙◌, subst, arith, ℤ, pos, negsuc, neg_ℤ}
use Rattle.std.specs.Prelude.{int_lt, unsigned_abs, nat_lt, nat_le}
use Rattle.std.specs.List.{flat_map, list_all}
use Rattle.std.proofs.lemmas.Bool.{cases_lt}
use Rattle.std.proofs.lemmas.Bool.Decides.{nat_tests}
use Rattle.std.proofs.lemmas.Int.{ints}
use Rattle.std.proofs.lemmas.Nat.{mod_low, shr_high}
use Rattle.mv_bits.specs.Bits.{digits, worth}
use Rattle.mv_bits.proofs.KeptLaws.{digits-mod, digits-add}
use Rattle.mv_bits.specs.Writing.{Writes}
use Rattle.mv_codes.specs.declared.code.Code.{Code}
use Rattle.mv_codes.specs.declared.coefficient.Coef.TheVariants.{End, Escape, Pair}
use Rattle.mv_codes.specs.Tables.{with_sign_bit}
use Rattle.mv_codes.specs.Coefficients.{pair_by, coef_codes, codes_14, codes_15, first_codes_14, levels_14, levels_15, level_row}
use Rattle.mv_codes.specs.Spelled.{has_code, code_or, code_of, same_integer, same_coef, twos_12, escape_bits, coefficient_bits}
use Rattle.mv_codes.specs.Steps.{HoldsCode, coded_levels, coded_before, sum_before, is_coded, level_place, has_one_bit, escape_digits}
use Rattle.mv_codes.specs.declared.put_coefficient.TheConstants.{LEVEL_VALUES_14, LEVEL_SIZES_14, LEVEL_VALUES_15, LEVEL_SIZES_15}
use Rattle.mv_codes.proofs.SpelledLaws.{and_true, code_otherwise, code_whatever, holds, holds_code, all_below, each_below}

-- the first row of this run and magnitude
abbrev find_row : List (Code (ℕ × ℕ)) → ℕ → ℕ → Option (Code (ℕ × ℕ))
find_row [] run magnitude = None
find_row (c ∷ cs) run magnitude = cond (eqb c.meaning.0 run && eqb c.meaning.1 magnitude) (Some c) (find_row cs run magnitude)

abbrev is_found : Option (Code (ℕ × ℕ)) → Bool
is_found None = false
is_found (Some c) = true

-- the bits of a row with the sign behind it
abbrev found_bits : List Bool → ℤ → Option (Code (ℕ × ℕ)) → List Bool
found_bits otherwise level None = otherwise
found_bits otherwise level (Some c) = digits (c.size + 1) (2 * c.value + worth (int_lt level (pos 0)))

abbrev is_negative : ℤ → Bool
is_negative (pos n) = false
is_negative (negsuc n) = true

negative_is : (level : ℤ) → int_lt level (pos 0) ≡ is_negative level
negative_is (pos n) = grind (arith, ints)
negative_is (negsuc n) = grind (arith, ints)

-- whether a magnitude and a sign are a level
plus_is : (m : ℕ) (level : ℤ) → same_integer level (pos m) ≡ (eqb m (unsigned_abs level) && not (is_negative level))
plus_is m (pos n) = last (eqb m n)
  where
    last : (b : Bool) → b ≡ (b && true)
    last true = refl
    last false = refl
plus_is m (negsuc n) = none (eqb m (suc n))
  where
    none : (b : Bool) → false ≡ (b && false)
    none true = refl
    none false = refl

minus_is : (m : ℕ) (level : ℤ) → ltb 0 m ≡ true → same_integer level (neg_ℤ (pos m)) ≡ (eqb m (unsigned_abs level) && is_negative level)
minus_is zero level some = absurd (let e : false ≡ true = some in cc)
minus_is (suc m) (pos n) some = none (eqb (suc m) n)
  where
    none : (b : Bool) → false ≡ (b && false)
    none true = refl
    none false = refl
minus_is (suc m) (negsuc n) some = both (eqb m n) (eqb (suc m) (suc n)) refl refl
  where
    both : (a b : Bool) → eqb m n ≡ a → eqb (suc m) (suc n) ≡ b → a ≡ (b && true)
    both true true e f = refl
    both true false e f = absurd (differ e f)
      where
        differ : eqb m n ≡ true → eqb (suc m) (suc n) ≡ false → ⊥
        differ e f = grind (arith, nat_tests)
    both false true e f = absurd (differ e f)
      where
        differ : eqb m n ≡ false → eqb (suc m) (suc n) ≡ true → ⊥
        differ e f = grind (arith, nat_tests)
    both false false e f = refl

abbrev has_magnitude : Code (ℕ × ℕ) → Bool
has_magnitude c = nat_lt 0 c.meaning.1

-- what a table with sign bits has is the first row of the run and magnitude
module _ (run : ℕ) (level : ℤ) where
  row_bits : (c : Code (ℕ × ℕ)) (later : List Bool) → has_magnitude c ≡ true
      → cond (eqb c.meaning.0 run && same_integer level (pos c.meaning.1)) (digits (c.size + 1) (2 * c.value)) (cond (eqb c.meaning.0 run && same_integer level (neg_ℤ (pos c.meaning.1))) (digits (c.size + 1) (2 * c.value + 1)) later)
      ≡ cond (eqb c.meaning.0 run && eqb c.meaning.1 (unsigned_abs level)) (digits (c.size + 1) (2 * c.value + worth (int_lt level (pos 0)))) later
  row_bits c later some =
      rw (plus_is c.meaning.1 level, minus_is c.meaning.1 level some, negative_is level) (go (eqb c.meaning.0 run) (eqb c.meaning.1 (unsigned_abs level)) (is_negative level))
    where
      no_sign : 2 * c.value ≡ 2 * c.value + 0
      no_sign = omega arith

      go : (a b n : Bool) → cond (a && (b && not n)) (digits (c.size + 1) (2 * c.value)) (cond (a && (b && n)) (digits (c.size + 1) (2 * c.value + 1)) later) ≡ cond (a && b) (digits (c.size + 1) (2 * c.value + worth n)) later
      go true true true = refl
      go true true false = ap (digits (c.size + 1)) no_sign
      go true false n = refl
      go false b n = refl

  row_has : (c : Code (ℕ × ℕ)) (later : Bool) → has_magnitude c ≡ true
      → ((eqb c.meaning.0 run && same_integer level (pos c.meaning.1)) || ((eqb c.meaning.0 run && same_integer level (neg_ℤ (pos c.meaning.1))) || later))
      ≡ cond (eqb c.meaning.0 run && eqb c.meaning.1 (unsigned_abs level)) true later
  row_has c later some =
      rw (plus_is c.meaning.1 level, minus_is c.meaning.1 level some) (go (eqb c.meaning.0 run) (eqb c.meaning.1 (unsigned_abs level)) (is_negative level))
    where
      go : (a b n : Bool) → ((a && (b && not n)) || ((a && (b && n)) || later)) ≡ cond (a && b) true later
      go true true true = refl
      go true true false = refl
      go true false n = refl
      go false b n = refl

  signed_bits : (otherwise : List Bool) (rows : List (Code (ℕ × ℕ))) → list_all has_magnitude rows ≡ true → code_or otherwise (same_coef (Pair run level)) (flat_map (with_sign_bit pair_by) rows) ≡ found_bits otherwise level (find_row rows run (unsigned_abs level))
  signed_bits otherwise [] some = refl
  signed_bits otherwise (c ∷ cs) some =
      row_bits c (code_or otherwise (same_coef (Pair run level)) (flat_map (with_sign_bit pair_by) cs)) (and_true _ _ some).0
      ∙ go (eqb c.meaning.0 run && eqb c.meaning.1 (unsigned_abs level)) (signed_bits otherwise cs (and_true _ _ some).1)
    where
      go : (t : Bool) → code_or otherwise (same_coef (Pair run level)) (flat_map (with_sign_bit pair_by) cs) ≡ found_bits otherwise level (find_row cs run (unsigned_abs level))
          → cond t (digits (c.size + 1) (2 * c.value + worth (int_lt level (pos 0)))) (code_or otherwise (same_coef (Pair run level)) (flat_map (with_sign_bit pair_by) cs)) ≡ found_bits otherwise level (cond t (Some c) (find_row cs run (unsigned_abs level)))
      go true later = refl
      go false later = later

  signed_has : (rows : List (Code (ℕ × ℕ))) → list_all has_magnitude rows ≡ true → has_code (same_coef (Pair run level)) (flat_map (with_sign_bit pair_by) rows) ≡ is_found (find_row rows run (unsigned_abs level))
  signed_has [] some = refl
  signed_has (c ∷ cs) some =
      row_has c (has_code (same_coef (Pair run level)) (flat_map (with_sign_bit pair_by) cs)) (and_true _ _ some).0
      ∙ go (eqb c.meaning.0 run && eqb c.meaning.1 (unsigned_abs level)) (signed_has cs (and_true _ _ some).1)
    where
      go : (t : Bool) → has_code (same_coef (Pair run level)) (flat_map (with_sign_bit pair_by) cs) ≡ is_found (find_row cs run (unsigned_abs level))
          → cond t true (has_code (same_coef (Pair run level)) (flat_map (with_sign_bit pair_by) cs)) ≡ is_found (cond t (Some c) (find_row cs run (unsigned_abs level)))
      go true later = refl
      go false later = later

-- ---- the three tables

abbrev rows_of : Bool → Bool → List (Code (ℕ × ℕ))
rows_of true first = levels_15
rows_of false true = level_row "1s" 0 1 ∷ drop 1 levels_14
rows_of false false = levels_14

rows_some : (table_15 first : Bool) → list_all has_magnitude (rows_of table_15 first) ≡ true
unfolding levels_14 levels_15
rows_some true first = refl
rows_some false true = refl
rows_some false false = refl

rows_bits : (table_15 first : Bool) (otherwise : List Bool) (run : ℕ) (level : ℤ) → code_or otherwise (same_coef (Pair run level)) (coef_codes table_15 first) ≡ code_or otherwise (same_coef (Pair run level)) (flat_map (with_sign_bit pair_by) (rows_of table_15 first))
unfolding codes_14 codes_15 first_codes_14 levels_14 levels_15
rows_bits true first otherwise run level = refl
rows_bits false true otherwise run level = refl
rows_bits false false otherwise run level = refl

rows_have : (table_15 first : Bool) (run : ℕ) (level : ℤ) → has_code (same_coef (Pair run level)) (coef_codes table_15 first) ≡ has_code (same_coef (Pair run level)) (flat_map (with_sign_bit pair_by) (rows_of table_15 first))
unfolding codes_14 codes_15 first_codes_14 levels_14 levels_15
rows_have true first run level = refl
rows_have false true run level = refl
rows_have false false run level = refl

abbrev values_of : Bool → List ℕ
values_of true = LEVEL_VALUES_15
values_of false = LEVEL_VALUES_14

abbrev sizes_of : Bool → List ℕ
sizes_of true = LEVEL_SIZES_15
sizes_of false = LEVEL_SIZES_14

-- no row has another run and magnitude
rows_coded : (table_15 first : Bool) → list_all (λ (c : Code (ℕ × ℕ)). is_coded c.meaning.0 c.meaning.1) (rows_of table_15 first) ≡ true
unfolding levels_14 levels_15 coded_levels
rows_coded true first = refl
rows_coded false true = refl
rows_coded false false = refl

-- the row is what stands at the place
abbrev stands_at : List ℕ → List ℕ → Option (Code (ℕ × ℕ)) → ℕ → Bool
stands_at values sizes None at = false
stands_at values sizes (Some c) at = eqb c.size (get_or sizes at 0) && (eqb c.value (get_or values at 0) && holds values sizes at)

abbrev level_at : Bool → Bool → ℕ → ℕ → Bool
level_at table_15 first run magnitude = is_found (find_row (rows_of table_15 first) run magnitude) && (has_one_bit run magnitude table_15 first || stands_at (values_of table_15) (sizes_of table_15) (find_row (rows_of table_15 first) run magnitude) (level_place run magnitude))

abbrev levels_at : Bool → Bool → Bool
levels_at table_15 first = all_below (λ run. all_below (λ less. level_at table_15 first run (suc less)) (get_or coded_levels run 0)) 32

all_levels_at : (table_15 first : Bool) → levels_at table_15 first ≡ true
unfolding levels_14 levels_15 coded_levels coded_before sum_before digits
all_levels_at true true = refl
all_levels_at true false = refl
all_levels_at false true = refl
all_levels_at false false = refl

below : (a b : ℕ) → ltb a b ≡ true → a < b
below a b e = grind (arith, nat_tests)

at_most : (a b : ℕ) → leb a b ≡ true → a ≤ b
at_most a b e = grind (arith, nat_tests)

equal : (a b : ℕ) → eqb a b ≡ true → a ≡ b
equal a b e = grind (arith, nat_tests)

get_past : (xs : List ℕ) (i : ℕ) → length xs ≤ i → get_or xs i 0 ≡ 0
get_past [] i h = refl
get_past (x ∷ xs) zero h = absurd (omega arith)
get_past (x ∷ xs) (suc i) h = get_past xs i (omega arith)

runs_32 : length coded_levels ≡ 32
unfolding coded_levels
runs_32 = refl

-- a run that no list has
pub levels_past : (run : ℕ) → 32 ≤ run → 0 ≡ get_or coded_levels run 0
levels_past run h = sym (get_past coded_levels run (omega (arith, runs_32, h)))

pub run_small : (run magnitude : ℕ) → is_coded run magnitude ≡ true → run < 32
run_small run magnitude e =
    let both = and_true _ _ e in
    let some : 0 < magnitude = below 0 magnitude both.0 in
    let few : magnitude ≤ get_or coded_levels run 0 = at_most magnitude (get_or coded_levels run 0) both.1 in
    elim (cases_lt run 32) [
      | inl l ↦ l
      | inr g ↦ absurd (no_levels some few (levels_past run g))
    ]
  where
    no_levels : {m n : ℕ} → 0 < m → m ≤ n → 0 ≡ n → ⊥
    no_levels some few none = omega (arith, some, few, none)

each_level_at : (table_15 first : Bool) (run magnitude : ℕ) → is_coded run magnitude ≡ true → level_at table_15 first run magnitude ≡ true
each_level_at table_15 first run zero e = absurd (let f : false ≡ true = (and_true (nat_lt 0 0) (nat_le 0 (get_or coded_levels run 0)) e).0 in cc)
each_level_at table_15 first run (suc less) e =
    let few : suc less ≤ get_or coded_levels run 0 = at_most (suc less) (get_or coded_levels run 0) (and_true _ _ e).1 in
    let of_run = each_below (λ run. all_below (λ less. level_at table_15 first run (suc less)) (get_or coded_levels run 0)) 32 run (all_levels_at table_15 first) (run_small run (suc less) e) in
    each_below (λ less. level_at table_15 first run (suc less)) (get_or coded_levels run 0) less of_run (omega (arith, few))

not_found : (rows : List (Code (ℕ × ℕ))) (run magnitude : ℕ) → list_all (λ (c : Code (ℕ × ℕ)). is_coded c.meaning.0 c.meaning.1) rows ≡ true → is_coded run magnitude ≡ false → find_row rows run magnitude ≡ None
not_found [] run magnitude all e = refl
not_found (c ∷ cs) run magnitude all e = go (eqb c.meaning.0 run) (eqb c.meaning.1 magnitude) refl refl (not_found cs run magnitude (and_true _ _ all).1 e)
  where
    coded : is_coded c.meaning.0 c.meaning.1 ≡ true
    coded = (and_true _ _ all).0

    go : (a b : Bool) → eqb c.meaning.0 run ≡ a → eqb c.meaning.1 magnitude ≡ b → find_row cs run magnitude ≡ None → cond (a && b) (Some c) (find_row cs run magnitude) ≡ None
    go true true p q later =
        let r = equal _ _ p in
        let m = equal _ _ q in
        let it : is_coded run magnitude ≡ true = subst (λ (n : ℕ). is_coded run n ≡ true) m (subst (λ (n : ℕ). is_coded n c.meaning.1 ≡ true) r coded) in
        absurd (let f : true ≡ false = sym it ∙ e in cc)
    go true false p q later = later
    go false b p q later = later

-- exactly these runs and levels have a code
pub level_has : (table_15 first : Bool) (run : ℕ) (level : ℤ) → has_code (same_coef (Pair run level)) (coef_codes table_15 first) ≡ is_coded run (unsigned_abs level)
level_has table_15 first run level = rows_have table_15 first run level ∙ signed_has run level (rows_of table_15 first) (rows_some table_15 first) ∙ go (is_coded run (unsigned_abs level)) refl
  where
    go : (t : Bool) → is_coded run (unsigned_abs level) ≡ t → is_found (find_row (rows_of table_15 first) run (unsigned_abs level)) ≡ t
    go true e = (and_true _ _ (each_level_at table_15 first run (unsigned_abs level) e)).0
    go false e = rw (not_found (rows_of table_15 first) run (unsigned_abs level) (rows_coded table_15 first) e) refl

or_false : (a b : Bool) → a ≡ false → (a || b) ≡ true → b ≡ true
or_false true b e h = absurd (let f : true ≡ false = e in cc)
or_false false b e h = h

-- what is put of a level that isn't the code of one bit
pub level_bits : (table_15 first : Bool) (run : ℕ) (level : ℤ) (at : ℕ) → has_one_bit run (unsigned_abs level) table_15 first ≡ false → is_coded run (unsigned_abs level) ≡ true → at ≡ level_place run (unsigned_abs level)
    → HoldsCode (values_of table_15) (sizes_of table_15) at × (digits (get_or (sizes_of table_15) at 0 + 1) (2 * get_or (values_of table_15) at 0 + worth (int_lt level (pos 0))) ≡ code_of (same_coef (Pair run level)) (coef_codes table_15 first))
level_bits table_15 first run level at other coded is =
    let m = unsigned_abs level in
    let all = and_true _ _ (each_level_at table_15 first run m coded) in
    let row = find_row (rows_of table_15 first) run m in
    let here : stands_at (values_of table_15) (sizes_of table_15) row at ≡ true = subst (λ (n : ℕ). stands_at (values_of table_15) (sizes_of table_15) row n ≡ true) (sym is) (or_false _ _ other all.1) in
    let bits = rows_bits table_15 first [] run level ∙ signed_bits run level [] (rows_of table_15 first) (rows_some table_15 first) in
    let both = go row here in
    (both.0, both.1 ∙ sym bits)
  where
    go : (row : Option (Code (ℕ × ℕ))) → stands_at (values_of table_15) (sizes_of table_15) row at ≡ true
        → HoldsCode (values_of table_15) (sizes_of table_15) at × (digits (get_or (sizes_of table_15) at 0 + 1) (2 * get_or (values_of table_15) at 0 + worth (int_lt level (pos 0))) ≡ found_bits [] level row)
    go None e = absurd (let f : false ≡ true = e in cc)
    go (Some c) e =
        let a = and_true _ _ e in
        let b = and_true _ _ a.1 in
        let size : c.size ≡ get_or (sizes_of table_15) at 0 = equal c.size (get_or (sizes_of table_15) at 0) a.0 in
        let value : c.value ≡ get_or (values_of table_15) at 0 = equal c.value (get_or (values_of table_15) at 0) b.0 in
        (holds_code (values_of table_15) (sizes_of table_15) at b.1, rw (size, value) refl)

one_found : find_row (rows_of false true) 0 1 ≡ Some (level_row "1s" 0 1)
unfolding levels_14
one_found = refl

-- the code of one bit
pub one_bit_bits : (table_15 first : Bool) (run : ℕ) (level : ℤ) → has_one_bit run (unsigned_abs level) table_15 first ≡ true → digits 2 (2 + worth (int_lt level (pos 0))) ≡ code_of (same_coef (Pair run level)) (coef_codes table_15 first)
one_bit_bits true first run level e = absurd (let f : false ≡ true = e in cc)
one_bit_bits false false run level e = absurd (let f : false ≡ true = e in cc)
one_bit_bits false true run level e =
    let both = and_true _ _ e in
    let r : run ≡ 0 = equal _ _ both.0 in
    let m : unsigned_abs level ≡ 1 = equal _ _ both.1 in
    let found : find_row (rows_of false true) run (unsigned_abs level) ≡ Some (level_row "1s" 0 1) =
    (λ z. find_row (rows_of false true) (r z) (m z)) ∙ one_found in
    sym (rows_bits false true [] run level ∙ signed_bits run level [] (rows_of false true) (rows_some false true) ∙ ap (found_bits [] level) found)

-- the end and the escape
end_is : (table_15 : Bool) → cond table_15 (digits 4 6) (digits 2 2) ≡ code_of (same_coef End) (coef_codes table_15 false)
unfolding codes_14 codes_15 digits
end_is true = refl
end_is false = refl

escape_is : (table_15 first : Bool) → digits 6 1 ≡ code_of (same_coef Escape) (coef_codes table_15 first)
unfolding codes_14 codes_15 first_codes_14 digits
escape_is true first = refl
escape_is false true = refl
escape_is false false = refl

-- the digits of a number and of another one behind it
digits_behind : (c n high low : ℕ) → low < 2 ^ n → digits (c + n) (high * 2 ^ n + low) ≡ digits c high ++ digits n low
digits_behind c n high low h =
    let same : digits n (high * 2 ^ n + low) ≡ digits n low = sym (rw (add-zero n) at (digits-mod n 0 (high * 2 ^ n + low))) ∙ ap (digits n) (mod_low high n low h) in
    digits-add c n (high * 2 ^ n + low) ∙ rw (shr_high high n low h, same) refl

escape_digits_are : (run : ℕ) (level : ℤ) → run < 64 → twos_12 level < 4096 → digits 24 ((64 + run) * 4096 + twos_12 level) ≡ escape_digits run level
escape_digits_are run level r l =
    digits_behind 12 12 (64 + run) (twos_12 level) l
    ∙ ap (λ (z : List Bool). z ++ digits 12 (twos_12 level)) (digits_behind 6 6 1 run r)
    ∙ append_assoc (digits 6 1) (digits 6 run) (digits 12 (twos_12 level))

-- ---- as the writer uses them

module _ {S Kind : Type 0} (stands : S → Kind → List ℕ → Type 0) (p q : S) (a b : List Bool) (table_15 : Bool) where
  end_put : (t : Bool) → table_15 ≡ t → Writes stands p q a b (cond t (digits 4 6) (digits 2 2)) → Writes stands p q a b (code_of (same_coef End) (coef_codes table_15 false))
  end_put t is w = subst (λ (z : List Bool). Writes stands p q a b z) (ap (λ (u : Bool). cond u (digits 4 6) (digits 2 2)) (sym is) ∙ end_is table_15) w

  pub end_15_put : table_15 ≡ true → Writes stands p q a b (digits 4 6) → Writes stands p q a b (code_of (same_coef End) (coef_codes table_15 false))
  end_15_put is w = end_put true is w

  pub end_14_put : table_15 ≡ false → Writes stands p q a b (digits 2 2) → Writes stands p q a b (code_of (same_coef End) (coef_codes table_15 false))
  end_14_put is w = end_put false is w

-- an escape, with the run and the level behind it in one number
pub escape_put : {S Kind : Type 0} (stands : S → Kind → List ℕ → Type 0) (p q : S) (a b : List Bool) (run number : ℕ) (level : ℤ) → run < 64 → number ≡ twos_12 level → number < 4096
    → Writes stands p q a b (digits 24 ((64 + run) * 4096 + number)) → Writes stands p q a b (escape_digits run level)
escape_put stands p q a b run number level r e few w =
    subst (λ (z : List Bool). Writes stands p q a b z)
    (ap (λ (n : ℕ). digits 24 ((64 + run) * 4096 + n)) e ∙ escape_digits_are run level r (subst (λ (n : ℕ). n < 4096) e few)) w

module _ {S Kind : Type 0} (stands : S → Kind → List ℕ → Type 0) (p q : S) (a b : List Bool) (table_15 first : Bool) where
  module _ (run : ℕ) (level : ℤ) (magnitude sign : ℕ) (m : magnitude ≡ unsigned_abs level) (s : sign ≡ worth (int_lt level (pos 0))) where
    pub one_bit_put : (t : Bool) → t ≡ has_one_bit run magnitude table_15 first → t ≡ true → Writes stands p q a b (digits 2 (2 + sign)) → Writes stands p q a b (code_of (same_coef (Pair run level)) (coef_codes table_15 first))
    one_bit_put t e is w =
        let one = subst (λ (n : ℕ). has_one_bit run n table_15 first ≡ true) m (sym e ∙ is) in
        subst (λ (z : List Bool). Writes stands p q a b z) (ap (λ (n : ℕ). digits 2 (2 + n)) s ∙ one_bit_bits table_15 first run level one) w

    module _ (t : Bool) (e : t ≡ has_one_bit run magnitude table_15 first) (not : t ≡ false) (h : has_code (same_coef (Pair run level)) (coef_codes table_15 first) ≡ true) where
      pub is_there : is_coded run magnitude ≡ true
      is_there = subst (λ (n : ℕ). is_coded run n ≡ true) (sym m) (sym (level_has table_15 first run level) ∙ h)

      here : (at : ℕ) → at ≡ level_place run magnitude → HoldsCode (values_of table_15) (sizes_of table_15) at × (digits (get_or (sizes_of table_15) at 0 + 1) (2 * get_or (values_of table_15) at 0 + worth (int_lt level (pos 0))) ≡ code_of (same_coef (Pair run level)) (coef_codes table_15 first))
      here at is =
          level_bits table_15 first run level at (subst (λ (n : ℕ). has_one_bit run n table_15 first ≡ false) m (sym e ∙ not)) (sym (level_has table_15 first run level) ∙ h) (is ∙ ap (level_place run) m)

      pub holds_15 : (at : ℕ) → at ≡ level_place run magnitude → table_15 ≡ true → HoldsCode LEVEL_VALUES_15 LEVEL_SIZES_15 at
      holds_15 at is u = subst (λ (x : Bool). HoldsCode (values_of x) (sizes_of x) at) u (here at is).0

      pub holds_14 : (at : ℕ) → at ≡ level_place run magnitude → table_15 ≡ false → HoldsCode LEVEL_VALUES_14 LEVEL_SIZES_14 at
      holds_14 at is u = subst (λ (x : Bool). HoldsCode (values_of x) (sizes_of x) at) u (here at is).0

      level_put : (at : ℕ) → at ≡ level_place run magnitude → Writes stands p q a b (digits (get_or (sizes_of table_15) at 0 + 1) (2 * get_or (values_of table_15) at 0 + sign)) → Writes stands p q a b (code_of (same_coef (Pair run level)) (coef_codes table_15 first))
      level_put at is w =
          subst (λ (z : List Bool). Writes stands p q a b z) (ap (λ (n : ℕ). digits (get_or (sizes_of table_15) at 0 + 1) (2 * get_or (values_of table_15) at 0 + n)) s ∙ (here at is).1) w

      pub put_15 : (at : ℕ) → at ≡ level_place run magnitude → table_15 ≡ true → Writes stands p q a b (digits (get_or LEVEL_SIZES_15 at 0 + 1) (2 * get_or LEVEL_VALUES_15 at 0 + sign)) → Writes stands p q a b (code_of (same_coef (Pair run level)) (coef_codes table_15 first))
      put_15 at is u w = level_put at is (subst (λ (x : Bool). Writes stands p q a b (digits (get_or (sizes_of x) at 0 + 1) (2 * get_or (values_of x) at 0 + sign))) (sym u) w)

      pub put_14 : (at : ℕ) → at ≡ level_place run magnitude → table_15 ≡ false → Writes stands p q a b (digits (get_or LEVEL_SIZES_14 at 0 + 1) (2 * get_or LEVEL_VALUES_14 at 0 + sign)) → Writes stands p q a b (code_of (same_coef (Pair run level)) (coef_codes table_15 first))
      put_14 at is u w = level_put at is (subst (λ (x : Bool). Writes stands p q a b (digits (get_or (sizes_of x) at 0 + 1) (2 * get_or (values_of x) at 0 + sign))) (sym u) w)

  -- a run and a level by their code, or else by an escape
  module _ (run : ℕ) (level : ℤ) (magnitude : ℕ) (m : magnitude ≡ unsigned_abs level) (t : Bool) (found : t ≡ is_coded run magnitude) where
    has_is : has_code (same_coef (Pair run level)) (coef_codes table_15 first) ≡ t
    has_is = level_has table_15 first run level ∙ sym (found ∙ ap (is_coded run) m)

    pub has_it : t ≡ true → has_code (same_coef (Pair run level)) (coef_codes table_15 first) ≡ true
    has_it e = has_is ∙ e

    pub code_put : t ≡ true → Writes stands p q a b (code_of (same_coef (Pair run level)) (coef_codes table_15 first)) → Writes stands p q a b (coefficient_bits (coef_codes table_15 first) run level)
    code_put e w =
        subst (λ (z : List Bool). Writes stands p q a b z)
        (code_whatever (same_coef (Pair run level)) [] (escape_bits (coef_codes table_15 first) run level) (coef_codes table_15 first) (has_is ∙ e)) w

    pub else_put : t ≡ false → Writes stands p q a b (escape_digits run level) → Writes stands p q a b (coefficient_bits (coef_codes table_15 first) run level)
    else_put e w =
        subst (λ (z : List Bool). Writes stands p q a b z)
        (ap (λ (z : List Bool). z ++ (digits 6 run ++ digits 12 (twos_12 level))) (escape_is table_15 first)
        ∙ sym (code_otherwise (same_coef (Pair run level)) (escape_bits (coef_codes table_15 first) run level) (coef_codes table_15 first) (has_is ∙ e))) w
