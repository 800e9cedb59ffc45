-- Zero bits in the codes of each whole table, by computation: behind the most zeros that can stand in front of a code
-- of the table, no 23 zeros stand in a row, and how many zeros end a code at most.
use Rattle.std.proofs.Common.{◌≡◌, ℕ, ◌-◌, ◌≤◌, Bool, true, false, cond, leb, ◌&&◌, List, [], ◌∷◌, refl, subst, arith}
use Rattle.std.specs.Prelude.{nat_le}
use Rattle.std.specs.List.{list_all}
use Rattle.std.proofs.lemmas.Bool.Decides.{nat_tests}
use Rattle.mv_terms.specs.declared.head.PicType.{PicType}
use Rattle.mv_terms.specs.declared.head.PicType.TheVariants.{I, P, B}
use Rattle.mv_bits.specs.Bits.{digits}
use Rattle.mv_bits.specs.ZeroRuns.{RunsAreShort, runs_are_short, IsBounded}
use Rattle.mv_bits.proofs.BitLaws.{length-digits}
use Rattle.mv_bits.proofs.ZeroRunLaws.{both_true, runs_tested}
use Rattle.mv_codes.specs.declared.code.Code.{Code}
use Rattle.mv_codes.specs.declared.coefficient.Coef.{Coef}
use Rattle.mv_codes.specs.declared.coefficient.Coef.TheVariants.{End, Escape, Pair}
use Rattle.mv_codes.specs.Tables.{IsSpelling}
use Rattle.mv_codes.specs.Spelled.{code_or, code_of, same_coef}
use Rattle.mv_codes.specs.Increments.{increment_codes}
use Rattle.mv_codes.specs.Types.{type_codes, type_i_codes, type_p_codes, type_b_codes}
use Rattle.mv_codes.specs.Patterns.{pattern_codes}
use Rattle.mv_codes.specs.Motions.{motion_codes}
use Rattle.mv_codes.specs.Sizes.{dc_size_codes, luma_size_codes, chroma_size_codes}
use Rattle.mv_codes.specs.Coefficients.{coef_codes, codes_14, codes_15, first_codes_14, levels_14, levels_15}
use Rattle.mv_codes.proofs.TableLaws.{Among-from_contains, test_among}

-- The test of a code: its zeros, behind so many, and its size.
abbrev pub is_bounded : {M : Type 0} → ℕ → ℕ → ℕ → Code M → Bool
is_bounded before behind most c = runs_are_short before (digits c.size c.value) behind && nat_le c.size most

-- the test of all codes of a table; how many zeros end a code may depend on what it means
unfoldable pub are_bounded : {M : Type 0} → ℕ → (M → ℕ) → ℕ → List (Code M) → Bool
are_bounded before behind most table = list_all (λ c. is_bounded before (behind c.meaning) most c) table

at_most : (a b : ℕ) → leb a b ≡ true → a ≤ b
at_most a b e = grind (arith, nat_tests)

bounded_code : {M : Type 0} (before behind most : ℕ) (c : Code M) → is_bounded before behind most c ≡ true → IsBounded before (digits c.size c.value) behind most
bounded_code before behind most c t =
    let both = both_true _ _ t in
    let long = length-digits c.size c.value in
    let small = at_most c.size most both.1 in
    record { runs = runs_tested before behind (digits c.size c.value) both.0; short = omega arith }

-- a code of a tested table
pub bounded_spelling : {M : Type 0} (before : ℕ) (behind : M → ℕ) (most : ℕ) (table : List (Code M)) (m : M) (bits : List Bool) → are_bounded before behind most table ≡ true → IsSpelling table m bits → IsBounded before bits (behind m) most
unfolding are_bounded
bounded_spelling {M} before behind most table m bits t s =
    let here = test_among (λ (c : Code M). is_bounded before (behind c.meaning) most c) table s.code t (Among-from_contains table s.code s.among) in
    subst (λ (v : M). IsBounded before bits (behind v) most) s.means (rw s.bits_are (bounded_code before (behind s.code.meaning) most s.code here))

-- the code of a tested table, or the other bits
pub bounded_code_or : {M : Type 0} (before behind most : ℕ) (otherwise : List Bool) (is : M → Bool) (table : List (Code M)) → are_bounded before (λ m. behind) most table ≡ true → IsBounded before otherwise behind most → IsBounded before (code_or otherwise is table) behind most
unfolding are_bounded
bounded_code_or before behind most otherwise is [] t q = q
bounded_code_or {M} before behind most otherwise is (c ∷ cs) t q =
    let both = both_true _ _ t in
    go (is c.meaning) (bounded_code before behind most c both.0) (bounded_code_or before behind most otherwise is cs both.1 q)
  where
    go : (here : Bool) → IsBounded before (digits c.size c.value) behind most → IsBounded before (code_or otherwise is cs) behind most → IsBounded before (cond here (digits c.size c.value) (code_or otherwise is cs)) behind most
    go true a b = a
    go false a b = b

-- ---- the tables

-- an increment or its escape, behind a macroblock: at most 14 zeros in front
pub increments_bounded : are_bounded 14 (λ m. 5) 11 increment_codes ≡ true
unfolding are_bounded runs_are_short digits increment_codes
increments_bounded = refl

-- a type, behind an increment
pub types_bounded : (pic : PicType) → are_bounded 5 (λ t. 1) 6 (type_codes pic) ≡ true
unfolding are_bounded runs_are_short digits type_i_codes type_p_codes type_b_codes
types_bounded I = refl
types_bounded P = refl
types_bounded B = refl

-- a motion_code, behind a component and a select
pub motions_bounded : are_bounded 15 (λ m. 5) 11 motion_codes ≡ true
unfolding are_bounded runs_are_short digits motion_codes
motions_bounded = refl

-- a pattern, behind vectors
pub patterns_bounded : are_bounded 14 (λ n. 4) 9 pattern_codes ≡ true
unfolding are_bounded runs_are_short digits pattern_codes
patterns_bounded = refl

-- a size of a DC difference, which has as many bits behind it: at most 11 zeros end both
pub dc_sizes_bounded : (luma : Bool) → are_bounded 4 (λ size. 11 - size) 10 (dc_size_codes luma) ≡ true
unfolding are_bounded runs_are_short digits luma_size_codes chroma_size_codes
dc_sizes_bounded true = refl
dc_sizes_bounded false = refl

-- how many zeros end a coefficient's code
abbrev pub zero_end : Coef → ℕ
zero_end End = 1
zero_end Escape = 0
zero_end (Pair run level) = 6

-- a coefficient, behind a DC difference or an escape's level
pub coefs_bounded : (table_15 first : Bool) → are_bounded 11 zero_end 17 (coef_codes table_15 first) ≡ true
unfolding are_bounded runs_are_short digits codes_14 codes_15 first_codes_14 levels_14 levels_15
coefs_bounded true first = refl
coefs_bounded false true = refl
coefs_bounded false false = refl

-- the same where the bits of an escape may stand for a code
pub coefs_bounded_11 : (table_15 first : Bool) → are_bounded 11 (λ c. 11) 24 (coef_codes table_15 first) ≡ true
unfolding are_bounded runs_are_short digits codes_14 codes_15 first_codes_14 levels_14 levels_15
coefs_bounded_11 true first = refl
coefs_bounded_11 false true = refl
coefs_bounded_11 false false = refl

-- the escape and the end of a block
pub escape_is : (table_15 first : Bool) → code_of (same_coef Escape) (coef_codes table_15 first) ≡ digits 6 1
unfolding codes_14 codes_15 first_codes_14 levels_14 digits
escape_is true first = refl
escape_is false true = refl
escape_is false false = refl

pub end_bounded : (table_15 : Bool) → IsBounded 11 (code_of (same_coef End) (coef_codes table_15 false)) 1 4
unfolding RunsAreShort digits codes_14 codes_15
end_bounded true = record { runs = (omega arith, (omega arith, omega arith)); short = omega arith }
end_bounded false = record { runs = (omega arith, omega arith); short = omega arith }
