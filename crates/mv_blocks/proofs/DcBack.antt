-- A DC level reads back from the canonical bits of its difference from the predictor (H.262, 7.2.1).
use Rattle.std.proofs.Common.{◌≡◌, ℕ, zero, suc, ◌+◌, ◌-◌, ◌*◌, ◌^◌, ◌<◌, ◌≤◌, Bool, true, false, cond, ltb, [], refl, ap, sym, ◌∙◌, subst, arith, ℤ, pos, negsuc, ◌+ℤ◌, ◌-ℤ◌, ◌≤ℤ◌, ◌<ℤ◌}
use Rattle.std.specs.Prelude.{int_lt, unsigned_abs, ⊤}
use Rattle.std.proofs.lemmas.Bool.Decides.{nat_tests}
use Rattle.std.proofs.lemmas.Nat.{pow_pos}
use Rattle.std.proofs.Math.Nat.{pow-suc}
use Rattle.std.proofs.Math.Pow.{pow_mono}
use Rattle.std.proofs.lemmas.Int.{ints}
use Rattle.mv_terms.specs.declared.status.Why.TheVariants.{BadCode, BadBlock}
use Rattle.mv_bits.specs.Readings.{Field, Demands}
use Rattle.mv_codes.specs.Tables.{CodeOf}
use Rattle.mv_codes.specs.Sizes.{dc_size_codes, luma_size_codes, chroma_size_codes}
use Rattle.mv_blocks.specs.declared.block.BlockCode.{BlockCode}
use Rattle.mv_terms.specs.Ranges.{IsDcLevel}
use Rattle.mv_blocks.specs.Blocks.{DcLevel, dct_diff}
use Rattle.mv_terms.specs.declared.status.Why.{Why}
use Rattle.mv_bits.specs.ReadBack.{ReadsBack}
use Rattle.mv_codes.specs.Spelled.{has_code, same_number}
use Rattle.mv_bits.proofs.BackLaws.{back_gives, back_then, back_last, back_second, back_field, back_demand}
use Rattle.mv_codes.proofs.SpelledLaws.{all_below, each_below}
use Rattle.mv_blocks.specs.Written.{size_within, dc_size, differential, dc_bits}
use Rattle.mv_codes.proofs.WrittenLaws.{dc_sizes_written}
use Rattle.mv_blocks.proofs.DcLemmas.{choose_first, choose_second}

-- the size of a magnitude: it has room for it, and no smaller one has
pub size_bound : (n magnitude : ℕ) → size_within n magnitude ≤ n
size_bound zero magnitude = omega arith
size_bound (suc n) magnitude = go (ltb magnitude (2 ^ n)) (size_bound n magnitude)
  where
    go : (t : Bool) → size_within n magnitude ≤ n → cond t (size_within n magnitude) (suc n) ≤ suc n
    go true h = omega arith
    go false h = omega arith

low_test : (a b : ℕ) → ltb a b ≡ true → a < b
low_test a b e = grind (arith, nat_tests)

high_test : (a b : ℕ) → ltb a b ≡ false → b ≤ a
high_test a b e = grind (arith, nat_tests)

pub size_enough : (n magnitude : ℕ) → magnitude < 2 ^ n → magnitude < 2 ^ size_within n magnitude
size_enough zero magnitude h = h
size_enough (suc n) magnitude h = go (ltb magnitude (2 ^ n)) refl (size_enough n magnitude)
  where
    go : (t : Bool) → ltb magnitude (2 ^ n) ≡ t → (magnitude < 2 ^ n → magnitude < 2 ^ size_within n magnitude) → magnitude < 2 ^ cond t (size_within n magnitude) (suc n)
    go true e later = later (low_test magnitude (2 ^ n) e)
    go false e later = h

-- the magnitudes of a size are at least half of its range
IsHalf : ℕ → ℕ → Type 0
IsHalf zero magnitude = ⊤
IsHalf (suc k) magnitude = 2 ^ k ≤ magnitude

halves_larger : (n magnitude : ℕ) (t : Bool) → ltb magnitude (2 ^ n) ≡ t → IsHalf (size_within n magnitude) magnitude → IsHalf (cond t (size_within n magnitude) (suc n)) magnitude
unfolding IsHalf
halves_larger n magnitude true e later = later
halves_larger n magnitude false e later = high_test magnitude (2 ^ n) e

size_halves : (n magnitude : ℕ) → IsHalf (size_within n magnitude) magnitude
unfolding IsHalf
size_halves zero magnitude = tt
size_halves (suc n) magnitude = halves_larger n magnitude (ltb magnitude (2 ^ n)) refl (size_halves n magnitude)

pos_not_below : (n : ℕ) → int_lt (pos n) (pos 0) ≡ false
pos_not_below n = grind (arith, nat_tests)

-- the differential leads to the difference
difference_back : (size : ℕ) (difference : ℤ) → unsigned_abs difference < 2 ^ size → IsHalf size (unsigned_abs difference) → dct_diff size (differential size difference) ≡ difference
unfolding IsHalf
difference_back zero (pos n) h l = let e : n ≡ 0 = omega arith in ap pos (sym e)
difference_back zero (negsuc n) h l = absurd (omega arith)
difference_back (suc k) (pos n) h l =
    let e : differential (suc k) (pos n) ≡ n = rw (pos_not_below n) refl in
    ap (dct_diff (suc k)) e ∙ choose_second n (2 ^ k) (pos (n + 1) -ℤ pos (2 * 2 ^ k)) (pos n) l
difference_back (suc k) (negsuc n) h l =
    let e = pow-suc 2 k in
    let x = 2 ^ suc k - 1 - suc n in
    choose_first x (2 ^ k) (pos (x + 1) -ℤ pos (2 * 2 ^ k)) (pos x) (omega arith) ∙ omega (arith, ints)

differential_fits : (size : ℕ) (difference : ℤ) → unsigned_abs difference < 2 ^ size → differential size difference < 2 ^ size
differential_fits size (pos n) h = rw (pos_not_below n) h
differential_fits size (negsuc n) h = omega (arith, pow_pos size)

-- each size has a code in both tables
pub each_size_coded : (luma : Bool) → all_below (λ n. has_code (same_number n) (dc_size_codes luma)) 12 ≡ true
unfolding luma_size_codes chroma_size_codes
each_size_coded true = refl
each_size_coded false = refl

-- a DC level and its predictor differ by 11 bits at most
pub difference_fits : (predictor dc : ℤ) (precision : ℕ) → precision ≤ 3 → IsDcLevel precision dc → IsDcLevel precision predictor → unsigned_abs (dc -ℤ predictor) < 2 ^ 11
difference_fits predictor dc precision precise right before =
    let bound : 2 ^ (8 + precision) ≤ 2 ^ 11 = pow_mono {i = 8 + precision} {j = 11} (omega arith) in
    magnitude dc predictor (2 ^ (8 + precision)) (2 ^ 11) bound right.0 right.1 before.0 before.1
  where
    magnitude : (v p : ℤ) (n bound : ℕ) → n ≤ bound → pos 0 ≤ℤ v → v <ℤ pos n → pos 0 ≤ℤ p → p <ℤ pos n → unsigned_abs (v -ℤ p) < bound
    magnitude v p n bound few least most least' most' = within (v -ℤ p) bound (omega (arith, ints)) (omega (arith, ints))
      where
        within : (z : ℤ) (bound : ℕ) → z <ℤ pos bound → pos 0 <ℤ (z +ℤ pos bound) → unsigned_abs z < bound
        within (pos n) bound a b = omega (arith, ints)
        within (negsuc n) bound a b = omega (arith, ints)

module _ (code : BlockCode) where
  pub dc_back : (predictor dc : ℤ) → code.dc_precision ≤ 3 → IsDcLevel code.dc_precision dc → IsDcLevel code.dc_precision predictor → ReadsBack Why (DcLevel code predictor) dc (dc_bits code.luma (dc -ℤ predictor))
  dc_back predictor dc precise right before =
      let difference = dc -ℤ predictor in
      let size = dc_size difference in
      let fits = difference_fits predictor dc code.dc_precision precise right before in
      let enough = size_enough 11 (unsigned_abs difference) fits in
      let few = size_bound 11 (unsigned_abs difference) in
      let there_again = difference_back size difference enough (size_halves 11 (unsigned_abs difference)) in
      let same : predictor +ℤ dct_diff size (differential size difference) ≡ dc = ap (λ (x : ℤ). predictor +ℤ x) there_again ∙ there predictor dc in
      back_then (CodeOf (dc_size_codes code.luma) BadCode) _ size dc _ _
      (record { back = (dc_sizes_written code.luma).1 size (each_below (λ n. has_code (same_number n) (dc_size_codes code.luma)) 12 size (each_size_coded code.luma) (omega arith)) })
      (back_last (Field size) _ (differential size difference) dc _ (back_field size (differential size difference) (differential_fits size difference enough))
      (back_second (Demands (IsDcLevel code.dc_precision (predictor +ℤ dct_diff size (differential size difference))) BadBlock) _ tt dc []
      (back_demand (IsDcLevel code.dc_precision (predictor +ℤ dct_diff size (differential size difference))) BadBlock (subst (λ (x : ℤ). IsDcLevel code.dc_precision x) (sym same) right))
      (back_gives _ _ same)))
    where
      there : (p v : ℤ) → p +ℤ (v -ℤ p) ≡ v
      there p v = omega (arith, ints)
