-- The codes that writers put have no 23 zeros in a row, and are short.
use Rattle.std.proofs.Common.{◌≡◌, ℕ, ◌-◌, Bool, true, List, [], ℤ}
use Rattle.mv_terms.specs.declared.head.PicType.{PicType}
use Rattle.mv_bits.specs.ZeroRuns.{IsBounded}
use Rattle.mv_codes.specs.declared.code.Code.{Code}
use Rattle.mv_codes.specs.declared.increment.Increment.{Increment}
use Rattle.mv_codes.specs.declared.macroblock_type.TypeBits.{TypeBits}
use Rattle.mv_codes.specs.declared.coefficient.Coef.{Coef}
use Rattle.mv_codes.specs.Spelled.{has_code, code_of, same_coef, same_increment, same_integer, same_number, same_type}
use Rattle.mv_codes.specs.Increments.{increment_codes}
use Rattle.mv_codes.specs.Types.{type_codes}
use Rattle.mv_codes.specs.Patterns.{pattern_codes}
use Rattle.mv_codes.specs.Motions.{motion_codes}
use Rattle.mv_codes.specs.Sizes.{dc_size_codes}
use Rattle.mv_codes.specs.Coefficients.{coef_codes}
use Rattle.mv_codes.proofs.SpelledLaws.{code_spells}
use Rattle.mv_codes.proofs.PlaceFacts.{increment_same, type_same, number_same, integer_same}
use Rattle.mv_codes.proofs.WrittenLaws.{coef_same}
use Rattle.mv_codes.proofs.RunFacts.{are_bounded, bounded_spelling, increments_bounded, types_bounded, patterns_bounded, motions_bounded, dc_sizes_bounded, coefs_bounded, zero_end}

-- the code of a meaning that a tested table has
bounded_code_of : {M : Type 0} (before : ℕ) (behind : M → ℕ) (most : ℕ) (same : M → M → Bool) (table : List (Code M)) → ((v m : M) → same v m ≡ true → m ≡ v) → are_bounded before behind most table ≡ true
    → (v : M) → has_code (same v) table ≡ true → IsBounded before (code_of (same v) table) (behind v) most
bounded_code_of before behind most same table one tested v there =
    bounded_spelling before behind most table v (code_of (same v) table) tested (code_spells (same v) [] table v (one v) there)

pub increment_bounded : (v : Increment) → has_code (same_increment v) increment_codes ≡ true → IsBounded 14 (code_of (same_increment v) increment_codes) 5 11
increment_bounded = bounded_code_of 14 (λ m. 5) 11 same_increment increment_codes increment_same increments_bounded

pub type_bounded : (pic : PicType) (v : TypeBits) → has_code (same_type v) (type_codes pic) ≡ true → IsBounded 5 (code_of (same_type v) (type_codes pic)) 1 6
type_bounded pic = bounded_code_of 5 (λ t. 1) 6 same_type (type_codes pic) type_same (types_bounded pic)

pub pattern_bounded : (v : ℕ) → has_code (same_number v) pattern_codes ≡ true → IsBounded 14 (code_of (same_number v) pattern_codes) 4 9
pattern_bounded = bounded_code_of 14 (λ n. 4) 9 same_number pattern_codes number_same patterns_bounded

pub motion_bounded : (v : ℤ) → has_code (same_integer v) motion_codes ≡ true → IsBounded 15 (code_of (same_integer v) motion_codes) 5 11
motion_bounded = bounded_code_of 15 (λ m. 5) 11 same_integer motion_codes integer_same motions_bounded

pub dc_size_bounded : (luma : Bool) (v : ℕ) → has_code (same_number v) (dc_size_codes luma) ≡ true → IsBounded 4 (code_of (same_number v) (dc_size_codes luma)) (11 - v) 10
dc_size_bounded luma = bounded_code_of 4 (λ size. 11 - size) 10 same_number (dc_size_codes luma) number_same (dc_sizes_bounded luma)

pub coef_bounded : (table_15 first : Bool) (v : Coef) → has_code (same_coef v) (coef_codes table_15 first) ≡ true → IsBounded 11 (code_of (same_coef v) (coef_codes table_15 first)) (zero_end v) 17
coef_bounded table_15 first = bounded_code_of 11 zero_end 17 same_coef (coef_codes table_15 first) coef_same (coefs_bounded table_15 first)
