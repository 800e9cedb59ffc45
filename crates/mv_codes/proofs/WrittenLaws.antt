-- The law of written codes, for each table.
use Rattle.std.proofs.Common.{◌≡◌, ℕ, Bool, true, eqb, refl, arith}
use Rattle.std.proofs.lemmas.Bool.Decides.{nat_tests}
use Rattle.mv_terms.specs.declared.head.PicType.{PicType}
use Rattle.mv_codes.specs.declared.coefficient.Coef.{Coef}
use Rattle.mv_codes.specs.declared.coefficient.Coef.TheVariants.{End, Escape, Pair}
use Rattle.mv_codes.specs.Spelled.{IsWritten, same_coef, same_increment, same_integer, same_number, same_type}
use Rattle.mv_codes.specs.Coefficients.{coef_codes}
use Rattle.mv_codes.specs.Increments.{increment_codes}
use Rattle.mv_codes.specs.Motions.{motion_codes}
use Rattle.mv_codes.specs.Patterns.{pattern_codes}
use Rattle.mv_codes.specs.Sizes.{dc_size_codes}
use Rattle.mv_codes.specs.Types.{type_codes}
use Rattle.mv_codes.proofs.TableFacts.{increments_sized, types_sized, patterns_sized, motions_sized, dc_sizes_sized, coefs_sized}
use Rattle.mv_codes.proofs.SpelledLaws.{and_true, is_written}
use Rattle.mv_codes.proofs.PlaceFacts.{increment_same, increment_itself, type_same, type_itself, number_same, integer_same, integer_itself}

number_itself : (n : ℕ) → same_number n n ≡ true
number_itself n = grind (arith, nat_tests)

equal : (a b : ℕ) → eqb a b ≡ true → a ≡ b
equal a b e = grind (arith, nat_tests)

pub coef_same : (v m : Coef) → same_coef v m ≡ true → m ≡ v
coef_same End End e = refl
coef_same End Escape e = absurd cc
coef_same End (Pair run level) e = absurd cc
coef_same Escape End e = absurd cc
coef_same Escape Escape e = refl
coef_same Escape (Pair run level) e = absurd cc
coef_same (Pair r l) End e = absurd cc
coef_same (Pair r l) Escape e = absurd cc
coef_same (Pair r l) (Pair run level) e =
    let both = and_true _ _ e in
    let p = equal run r both.0 in
    let q = integer_same l level both.1 in
    λ i. Pair (p i) (q i)

pub coef_itself : (v : Coef) → same_coef v v ≡ true
coef_itself End = refl
coef_itself Escape = refl
coef_itself (Pair r l) = rw (number_itself r, integer_itself l) refl

pub increments_written : IsWritten same_increment increment_codes
increments_written = is_written same_increment increment_codes increments_sized increment_same increment_itself

pub types_written : (pic : PicType) → IsWritten same_type (type_codes pic)
types_written pic = is_written same_type (type_codes pic) (types_sized pic) type_same type_itself

pub patterns_written : IsWritten same_number pattern_codes
patterns_written = is_written same_number pattern_codes patterns_sized number_same number_itself

pub motions_written : IsWritten same_integer motion_codes
motions_written = is_written same_integer motion_codes motions_sized integer_same integer_itself

pub dc_sizes_written : (luma : Bool) → IsWritten same_number (dc_size_codes luma)
dc_sizes_written luma = is_written same_number (dc_size_codes luma) (dc_sizes_sized luma) number_same number_itself

pub coefs_written : (table_15 first : Bool) → IsWritten same_coef (coef_codes table_15 first)
coefs_written table_15 first = is_written same_coef (coef_codes table_15 first) (coefs_sized table_15 first) coef_same coef_itself
