-- The writers' lists hold the code of each meaning at its place.
use Rattle.std.proofs.Common.{◌≡◌, ℕ, ◌<◌, Bool, true, false, ◌&&◌, eqb, leb, ltb, List, get_or, refl, ap, sym, subst, arith, ℤ, pos, negsuc, neg_ℤ, ◌+ℤ◌, ◌-ℤ◌, ◌≤ℤ◌}
use Rattle.std.specs.Prelude.{nat_lt, nat_le}
use Rattle.std.proofs.lemmas.Bool.Decides.{nat_tests}
use Rattle.std.proofs.lemmas.Int.{ints}
use Rattle.mv_bits.specs.Bits.{digits}
use Rattle.mv_terms.specs.declared.head.PicType.{PicType}
use Rattle.mv_terms.specs.declared.head.PicType.TheVariants.{I, P, B}
use Rattle.mv_bits.specs.Writing.{Writes}
use Rattle.mv_codes.specs.declared.increment.Increment.{Increment}
use Rattle.mv_codes.specs.declared.increment.Increment.TheVariants as increments
use Rattle.mv_codes.specs.declared.macroblock_type.TypeBits.{TypeBits}
use Rattle.mv_codes.specs.Spelled.{has_code, code_of, same_increment, same_flag, same_type, same_number, same_integer}
use Rattle.mv_codes.specs.Steps.{increment_place, flags_place}
use Rattle.mv_codes.specs.Increments.{increment_codes, is_increment}
use Rattle.mv_codes.specs.Types.{type_codes, type_i_codes, type_p_codes, type_b_codes}
use Rattle.mv_codes.specs.Patterns.{pattern_codes}
use Rattle.mv_codes.specs.Motions.{motion_codes}
use Rattle.mv_codes.specs.Sizes.{dc_size_codes, luma_size_codes, chroma_size_codes}
use Rattle.mv_codes.specs.declared.write.TheConstants.{INCREMENT_VALUES, INCREMENT_SIZES, PATTERN_VALUES, PATTERN_SIZES, MOTION_VALUES, MOTION_SIZES, LUMA_SIZE_VALUES, LUMA_SIZE_SIZES, CHROMA_SIZE_VALUES, CHROMA_SIZE_SIZES, TYPE_I_VALUES, TYPE_I_SIZES, TYPE_P_VALUES, TYPE_P_SIZES, TYPE_B_VALUES, TYPE_B_SIZES}
use Rattle.mv_codes.proofs.TableLaws.{is_within}
use Rattle.mv_codes.proofs.TableFacts.{increments_right, patterns_small, motions_small, dc_sizes_small}
use Rattle.mv_codes.proofs.SpelledLaws.{and_true, has_test, is_at, IsAt, code_at, all_below, each_below, both_ways, each_way, where_it, there}

-- ---- the tests of meanings say what is the same

equal : (a b : ℕ) → eqb a b ≡ true → a ≡ b
equal a b e = grind (arith, nat_tests)

itself : (a : ℕ) → eqb a a ≡ true
itself a = grind (arith, nat_tests)

below : (a b : ℕ) → ltb a b ≡ true → a < b
below a b e = grind (arith, nat_tests)

pub number_same : (v m : ℕ) → same_number v m ≡ true → m ≡ v
number_same v m e = equal m v e

pub increment_same : (v m : Increment) → same_increment v m ≡ true → m ≡ v
increment_same (increments.Step n) (increments.Step m) e = ap increments.Step (equal m n e)
increment_same (increments.Step n) increments.Escape e = absurd cc
increment_same increments.Escape (increments.Step m) e = absurd cc
increment_same increments.Escape increments.Escape e = refl

pub increment_itself : (v : Increment) → same_increment v v ≡ true
increment_itself (increments.Step n) = itself n
increment_itself increments.Escape = refl

pub integer_same : (v m : ℤ) → same_integer v m ≡ true → m ≡ v
integer_same (pos n) (pos m) e = ap pos (equal m n e)
integer_same (pos n) (negsuc m) e = absurd cc
integer_same (negsuc n) (pos m) e = absurd cc
integer_same (negsuc n) (negsuc m) e = ap negsuc (equal m n e)

pub integer_itself : (v : ℤ) → same_integer v v ≡ true
integer_itself (pos n) = itself n
integer_itself (negsuc n) = itself n

flag_same : (a b : Bool) → same_flag a b ≡ true → b ≡ a
flag_same true b e = e
flag_same false true e = absurd cc
flag_same false false e = refl

flag_itself : (a : Bool) → same_flag a a ≡ true
flag_itself true = refl
flag_itself false = refl

pub type_same : (t u : TypeBits) → same_type t u ≡ true → u ≡ t
type_same t u e =
    let a = and_true _ _ e in
    let b = and_true _ _ a.1 in
    let c = and_true _ _ b.1 in
    let d = and_true _ _ c.1 in
    let q = flag_same _ _ a.0 in
    let f = flag_same _ _ b.0 in
    let k = flag_same _ _ c.0 in
    let p = flag_same _ _ d.0 in
    let i = flag_same _ _ d.1 in
    λ z. record { quant = q z; forward = f z; backward = k z; pattern = p z; intra = i z }

pub type_itself : (t : TypeBits) → same_type t t ≡ true
type_itself t = rw (flag_itself t.quant, flag_itself t.forward, flag_itself t.backward, flag_itself t.pattern, flag_itself t.intra) refl

-- ---- increments

abbrev increment_at : Increment → ℕ → Bool
increment_at v at = is_at INCREMENT_VALUES INCREMENT_SIZES (code_of (same_increment v) increment_codes) at

increments_at : (increment_at increments.Escape 0 && all_below (λ n. where_it (has_code (same_increment (increments.Step n)) increment_codes) (increment_at (increments.Step n) n)) 34) ≡ true
unfolding increment_codes digits
increments_at = refl

pub increment_there : (v : Increment) → has_code (same_increment v) increment_codes ≡ true → IsAt INCREMENT_VALUES INCREMENT_SIZES (code_of (same_increment v) increment_codes) (increment_place v)
increment_there increments.Escape h = code_at INCREMENT_VALUES INCREMENT_SIZES _ 0 (and_true _ _ increments_at).0
increment_there (increments.Step n) h =
    let right = has_test (same_increment (increments.Step n)) is_increment increment_codes (increments.Step n) (increment_same (increments.Step n)) increments_right h in
    let few : leb n 33 ≡ true = (and_true _ _ right).1 in
    let small : n < 34 = grind (arith, nat_tests) in
    code_at INCREMENT_VALUES INCREMENT_SIZES _ n (there _ _ (each_below (λ n. where_it (has_code (same_increment (increments.Step n)) increment_codes) (increment_at (increments.Step n) n)) 34 n (and_true _ _ increments_at).1 small) h)

-- ---- patterns

abbrev pattern_at : ℕ → Bool
pattern_at n = is_at PATTERN_VALUES PATTERN_SIZES (code_of (same_number n) pattern_codes) n

patterns_at : all_below pattern_at 64 ≡ true
unfolding pattern_codes digits
patterns_at = refl

pub pattern_there : (n : ℕ) → has_code (same_number n) pattern_codes ≡ true → IsAt PATTERN_VALUES PATTERN_SIZES (code_of (same_number n) pattern_codes) n
pattern_there n h =
    let right = has_test (same_number n) (λ m. nat_lt m 64) pattern_codes n (number_same n) patterns_small h in
    code_at PATTERN_VALUES PATTERN_SIZES _ n (each_below pattern_at 64 n patterns_at (below n 64 right))

-- ---- motion codes

abbrev motion_at : ℕ → Bool
motion_at n = is_at MOTION_VALUES MOTION_SIZES (code_of (same_integer (pos n -ℤ pos 16)) motion_codes) n

motions_at : all_below motion_at 33 ≡ true
unfolding motion_codes digits
motions_at = refl

within : (v : ℤ) → is_within 16 v ≡ true → (neg_ℤ (pos 16) ≤ℤ v) × (v ≤ℤ pos 16)
within (pos n) e = let m : n < 17 = grind (arith, nat_tests) in (omega (arith, ints), omega (arith, ints))
within (negsuc n) e = let m : n < 16 = grind (arith, nat_tests) in (omega (arith, ints), omega (arith, ints))

pub motion_range : (v : ℤ) → has_code (same_integer v) motion_codes ≡ true → (neg_ℤ (pos 16) ≤ℤ v) × (v ≤ℤ pos 16)
motion_range v h = within v (has_test (same_integer v) (is_within 16) motion_codes v (integer_same v) motions_small h)

pub motion_there : (v : ℤ) (at : ℕ) → has_code (same_integer v) motion_codes ≡ true → pos at ≡ v +ℤ pos 16 → IsAt MOTION_VALUES MOTION_SIZES (code_of (same_integer v) motion_codes) at
motion_there v at h e =
    let r = motion_range v h in
    let low = r.0 in
    let high = r.1 in
    let small : at < 33 = omega (arith, ints) in
    let back : pos at -ℤ pos 16 ≡ v = omega (arith, ints) in
    subst (λ (z : ℤ). IsAt MOTION_VALUES MOTION_SIZES (code_of (same_integer z) motion_codes) at) back
    (code_at MOTION_VALUES MOTION_SIZES _ at (each_below motion_at 33 at motions_at small))

-- ---- sizes of DC differences

abbrev luma_at : ℕ → Bool
luma_at n = is_at LUMA_SIZE_VALUES LUMA_SIZE_SIZES (code_of (same_number n) (dc_size_codes true)) n

abbrev chroma_at : ℕ → Bool
chroma_at n = is_at CHROMA_SIZE_VALUES CHROMA_SIZE_SIZES (code_of (same_number n) (dc_size_codes false)) n

lumas_at : all_below luma_at 12 ≡ true
unfolding luma_size_codes digits
lumas_at = refl

chromas_at : all_below chroma_at 12 ≡ true
unfolding chroma_size_codes digits
chromas_at = refl

size_small : (luma : Bool) (n : ℕ) → has_code (same_number n) (dc_size_codes luma) ≡ true → n < 12
size_small luma n h =
    let right : leb n 11 ≡ true = has_test (same_number n) (λ m. nat_le m 11) (dc_size_codes luma) n (number_same n) (dc_sizes_small luma) h in
    grind (arith, nat_tests)

pub luma_there : (luma : Bool) (n : ℕ) → luma ≡ true → has_code (same_number n) (dc_size_codes luma) ≡ true → IsAt LUMA_SIZE_VALUES LUMA_SIZE_SIZES (code_of (same_number n) (dc_size_codes luma)) n
luma_there luma n e h =
    subst (λ (z : Bool). IsAt LUMA_SIZE_VALUES LUMA_SIZE_SIZES (code_of (same_number n) (dc_size_codes z)) n) (sym e)
    (code_at LUMA_SIZE_VALUES LUMA_SIZE_SIZES _ n (each_below luma_at 12 n lumas_at (size_small luma n h)))

pub chroma_there : (luma : Bool) (n : ℕ) → luma ≡ false → has_code (same_number n) (dc_size_codes luma) ≡ true → IsAt CHROMA_SIZE_VALUES CHROMA_SIZE_SIZES (code_of (same_number n) (dc_size_codes luma)) n
chroma_there luma n e h =
    subst (λ (z : Bool). IsAt CHROMA_SIZE_VALUES CHROMA_SIZE_SIZES (code_of (same_number n) (dc_size_codes z)) n) (sym e)
    (code_at CHROMA_SIZE_VALUES CHROMA_SIZE_SIZES _ n (each_below chroma_at 12 n chromas_at (size_small luma n h)))

-- ---- types

abbrev type_of : Bool → Bool → Bool → Bool → Bool → TypeBits
type_of q f b p i = record { quant = q; forward = f; backward = b; pattern = p; intra = i }

module _ (values sizes : List ℕ) (pic : PicType) where
  abbrev type_at : TypeBits → Bool
  type_at t = where_it (has_code (same_type t) (type_codes pic)) (is_at values sizes (code_of (same_type t) (type_codes pic)) (flags_place t))

  abbrev types_at : Bool
  types_at = both_ways (λ q. both_ways (λ f. both_ways (λ b. both_ways (λ p. both_ways (λ i. type_at (type_of q f b p i))))))

  type_there : types_at ≡ true → (t : TypeBits) → has_code (same_type t) (type_codes pic) ≡ true → IsAt values sizes (code_of (same_type t) (type_codes pic)) (flags_place t)
  type_there all t h =
      let q = each_way (λ q. both_ways (λ f. both_ways (λ b. both_ways (λ p. both_ways (λ i. type_at (type_of q f b p i)))))) t.quant all in
      let f = each_way (λ f. both_ways (λ b. both_ways (λ p. both_ways (λ i. type_at (type_of t.quant f b p i))))) t.forward q in
      let b = each_way (λ b. both_ways (λ p. both_ways (λ i. type_at (type_of t.quant t.forward b p i)))) t.backward f in
      let p = each_way (λ p. both_ways (λ i. type_at (type_of t.quant t.forward t.backward p i))) t.pattern b in
      let i = each_way (λ i. type_at (type_of t.quant t.forward t.backward t.pattern i)) t.intra p in
      code_at values sizes _ (flags_place t) (there _ _ i h)

types_i_at : types_at TYPE_I_VALUES TYPE_I_SIZES I ≡ true
unfolding type_i_codes digits
types_i_at = refl

types_p_at : types_at TYPE_P_VALUES TYPE_P_SIZES P ≡ true
unfolding type_p_codes digits
types_p_at = refl

types_b_at : types_at TYPE_B_VALUES TYPE_B_SIZES B ≡ true
unfolding type_b_codes digits
types_b_at = refl

pub type_i_there : (t : TypeBits) → has_code (same_type t) (type_codes I) ≡ true → IsAt TYPE_I_VALUES TYPE_I_SIZES (code_of (same_type t) (type_codes I)) (flags_place t)
type_i_there = type_there TYPE_I_VALUES TYPE_I_SIZES I types_i_at

pub type_p_there : (t : TypeBits) → has_code (same_type t) (type_codes P) ≡ true → IsAt TYPE_P_VALUES TYPE_P_SIZES (code_of (same_type t) (type_codes P)) (flags_place t)
type_p_there = type_there TYPE_P_VALUES TYPE_P_SIZES P types_p_at

pub type_b_there : (t : TypeBits) → has_code (same_type t) (type_codes B) ≡ true → IsAt TYPE_B_VALUES TYPE_B_SIZES (code_of (same_type t) (type_codes B)) (flags_place t)
type_b_there = type_there TYPE_B_VALUES TYPE_B_SIZES B types_b_at

-- ---- as the writers use them: the place is known by an equation

-- what was put at a place is the code's bits
pub put_is : {S Kind : Type 0} (stands : S → Kind → List ℕ → Type 0) (p q : S) (a b : List Bool) (values sizes : List ℕ) (bits : List Bool) (at : ℕ) → IsAt values sizes bits at
    → Writes stands p q a b (digits (get_or sizes at 0) (get_or values at 0)) → Writes stands p q a b bits
put_is stands p q a b values sizes bits at is w = subst (λ (z : List Bool). Writes stands p q a b z) is.0 w

pub increment_here : (v : Increment) (at : ℕ) → has_code (same_increment v) increment_codes ≡ true → at ≡ increment_place v → IsAt INCREMENT_VALUES INCREMENT_SIZES (code_of (same_increment v) increment_codes) at
increment_here v at h e = subst (λ (n : ℕ). IsAt INCREMENT_VALUES INCREMENT_SIZES (code_of (same_increment v) increment_codes) n) (sym e) (increment_there v h)

module _ (t : TypeBits) (pic : PicType) (at : ℕ) (h : has_code (same_type t) (type_codes pic) ≡ true) (e : at ≡ flags_place t) where
  pub type_i_here : pic ≡ I → IsAt TYPE_I_VALUES TYPE_I_SIZES (code_of (same_type t) (type_codes pic)) at
  type_i_here is =
      let here = type_i_there t (subst (λ (z : PicType). has_code (same_type t) (type_codes z) ≡ true) is h) in
      subst (λ (z : PicType). IsAt TYPE_I_VALUES TYPE_I_SIZES (code_of (same_type t) (type_codes z)) at) (sym is)
      (subst (λ (n : ℕ). IsAt TYPE_I_VALUES TYPE_I_SIZES (code_of (same_type t) (type_codes I)) n) (sym e) here)

  pub type_p_here : pic ≡ P → IsAt TYPE_P_VALUES TYPE_P_SIZES (code_of (same_type t) (type_codes pic)) at
  type_p_here is =
      let here = type_p_there t (subst (λ (z : PicType). has_code (same_type t) (type_codes z) ≡ true) is h) in
      subst (λ (z : PicType). IsAt TYPE_P_VALUES TYPE_P_SIZES (code_of (same_type t) (type_codes z)) at) (sym is)
      (subst (λ (n : ℕ). IsAt TYPE_P_VALUES TYPE_P_SIZES (code_of (same_type t) (type_codes P)) n) (sym e) here)

  pub type_b_here : pic ≡ B → IsAt TYPE_B_VALUES TYPE_B_SIZES (code_of (same_type t) (type_codes pic)) at
  type_b_here is =
      let here = type_b_there t (subst (λ (z : PicType). has_code (same_type t) (type_codes z) ≡ true) is h) in
      subst (λ (z : PicType). IsAt TYPE_B_VALUES TYPE_B_SIZES (code_of (same_type t) (type_codes z)) at) (sym is)
      (subst (λ (n : ℕ). IsAt TYPE_B_VALUES TYPE_B_SIZES (code_of (same_type t) (type_codes B)) n) (sym e) here)
