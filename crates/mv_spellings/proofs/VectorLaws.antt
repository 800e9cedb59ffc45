-- The bits that are read plainly as vectors are their canonical bits.
use Rattle.std.proofs.Common.{◌≡◌, ℕ, zero, suc, ◌+◌, ◌-◌, ◌*◌, ◌/◌, ◌%◌, ◌<◌, Bool, true, false, ◌&&◌, not, eqb, ltb, List, [], ◌∷◌, ◌++◌, refl, ap, sym, ◌∙◌, subst, arith, ℤ, pos, negsuc, neg_ℤ, ◌+ℤ◌, ◌-ℤ◌, ◌≤ℤ◌, ◌<ℤ◌, Ok}
use Rattle.std.specs.Prelude.{int_lt, unsigned_abs, slice_index_or}
use Rattle.std.specs.Int.{int_div_euclid}
use Rattle.std.proofs.lemmas.Bool.Decides.{nat_tests}
use Rattle.std.proofs.lemmas.Int.{ints, by_lt_z}
use Rattle.std.proofs.lemmas.Nat.{pow_pos}
use native.Mathlib.Nat.{div-add-mod'}
use Rattle.mv_terms.specs.declared.status.Why.{Why}
use Rattle.mv_terms.specs.declared.head.Head.{Head}
use Rattle.mv_terms.specs.declared.macroblock.Vector.{Vector}
use Rattle.mv_terms.specs.declared.macroblock.Decision.{Decision}
use Rattle.mv_terms.specs.Decisions.{still, vector_of, select_of}
use Rattle.mv_bits.specs.Bits.{digits}
use Rattle.mv_bits.specs.Readings.{Field, When}
use Rattle.mv_bits.specs.ReadBack.{sent}
use Rattle.mv_bits.proofs.BitLaws.{front_lt}
use Rattle.mv_codes.specs.Tables.{signed_by}
use Rattle.mv_codes.specs.Motions.{motion_codes}
use Rattle.mv_codes.specs.Spelled.{code_of, same_integer}
use Rattle.mv_codes.proofs.TableFacts.{motions_once, int_number}
use Rattle.mv_codes.proofs.PlaceFacts.{integer_same}
use Rattle.mv_codes.proofs.WrittenLaws.{motions_written}
use Rattle.mv_vectors.specs.Vectors.{Directed, directed, f_code, f_of, delta, wrapped, predictor_at}
use Rattle.mv_vectors.specs.Written.{motion_code, motion_residual, has_residual, delta_bits, delta_of, component_bits, frame_vector_bits, field_vector_bits, direction_bits_from, direction_bits}
use Rattle.mv_vectors.proofs.WrapLemmas.{wrapped_low, wrapped_high}
use Rattle.mv_vectors.proofs.DeltaLaws.{in_range}
use Rattle.mv_vectors.proofs.RangeLaws.{read_first, value_is}
use Rattle.mv_spellings.specs.Front.{IsInFront}
use Rattle.mv_spellings.specs.Vectors.{PlainComponent, PlainFrameVector, PlainFieldVector, PlainDirectionFrom, PlainDirection}
use Rattle.mv_spellings.proofs.FrontLaws.{in_front_then, in_front_same, in_front_field, in_front_flag, in_front_code, in_front_none, in_front_rest, rest_is}

-- ---- a delta

wrapped_same : (f : ℕ) (v : ℤ) → neg_ℤ (pos (16 * f)) ≤ℤ v → v <ℤ pos (16 * f) → wrapped f v ≡ v
wrapped_same f v l h =
    let e : int_lt v (neg_ℤ (pos (16 * f))) ≡ false = grind (arith, ints) in
    let g : int_lt v (pos (16 * f)) ≡ true = grind (arith, ints) in
    rw (e, g) refl

-- below its range, in it, or above
module _ (f : ℕ) (v : ℤ) {Goal : Type 0} (below : v <ℤ neg_ℤ (pos (16 * f)) → Goal) (inside : neg_ℤ (pos (16 * f)) ≤ℤ v → v <ℤ pos (16 * f) → Goal) (above : pos (16 * f) ≤ℤ v → Goal) where
  by_range : Goal
  by_range = by_lt_z v (neg_ℤ (pos (16 * f))) below (λ l. by_lt_z v (pos (16 * f)) (λ h. inside l h) above)

-- a delta of the range is that from the prediction to where it leads
delta_once : (f : ℕ) (p d : ℤ) → neg_ℤ (pos (16 * f)) ≤ℤ d → d <ℤ pos (16 * f) → delta_of f p (wrapped f (p +ℤ d)) ≡ d
delta_once f p d l h =
    by_range f (p +ℤ d)
    (λ low. let w = wrapped_low f (p +ℤ d) low in rw w (wrapped_high f (p +ℤ d +ℤ pos (32 * f) -ℤ p) (omega (arith, ints)) ∙ omega (arith, ints)))
    (λ above below. let w = wrapped_same f (p +ℤ d) above below in rw w (wrapped_same f (p +ℤ d -ℤ p) (omega (arith, ints)) (omega (arith, ints)) ∙ omega (arith, ints)))
    (λ high. let w = wrapped_high f (p +ℤ d) high in rw w (wrapped_low f (p +ℤ d -ℤ pos (32 * f) -ℤ p) (omega (arith, ints)) ∙ omega (arith, ints)))

signed_abs : (t : Bool) (n : ℕ) → unsigned_abs (signed_by t n) ≡ n
signed_abs true zero = refl
signed_abs true (suc n) = refl
signed_abs false n = refl

signed_negative : (t : Bool) (n : ℕ) → int_lt (signed_by t (suc n)) (pos 0) ≡ t
signed_negative true n = refl
signed_negative false n = grind (arith, nat_tests)

signed_back : (d : ℤ) → signed_by (int_lt d (pos 0)) (unsigned_abs d) ≡ d
signed_back (pos n) = let e : ltb n 0 ≡ false = grind (arith, nat_tests) in rw e refl
signed_back (negsuc n) = refl

nonzero : (m : ℕ) → eqb m 0 ≡ false → 0 < m
nonzero m e = grind (arith, nat_tests)

suc_not : (n : ℕ) → eqb (suc n) 0 ≡ false
suc_not n = grind (arith, nat_tests)

is_one : (f : ℕ) → eqb f 1 ≡ true → f ≡ 1
is_one f e = grind (arith, nat_tests)

quotient : (f q r : ℕ) → r < f → (q * f + r) / f ≡ q
quotient f q r h =
    let e = div-add-mod' (q * f + r) f in
    grind arith

remainder : (f q r : ℕ) → r < f → (q * f + r) % f ≡ r
remainder f q r h = grind arith

-- the code and the residual of the delta that they say
module _ (f : ℕ) (c : ℤ) (r : ℕ) (small : r < f) where
  abbrev whole : ℕ
  whole = (unsigned_abs c - 1) * f + r

  by_code : (a b : Bool) → eqb f 1 ≡ a → eqb (unsigned_abs c) 0 ≡ b → (motion_code f (delta f c r) ≡ c) × (b ≡ false → motion_residual f (delta f c r) ≡ r)
  by_code true b e g =
      let same : delta f c r ≡ c = rw e refl in
      let one = is_one f e in
      let none : r ≡ 0 = omega (arith, one, small) in
      let alone : (unsigned_abs c - 1) % f ≡ r = ap (λ (k : ℕ). (unsigned_abs c - 1) % k) one ∙ omega (arith, none) in
      (ap (motion_code f) same ∙ rw e refl, λ h. ap (motion_residual f) same ∙ alone)
  by_code false true e g =
      let same : delta f c r ≡ c = rw (e, g) refl in
      (ap (motion_code f) same ∙ rw (e, g) refl, λ h. absurd (let no : true ≡ false = h in cc))
  by_code false false e g =
      let t : Bool = int_lt c (pos 0) in
      let same : delta f c r ≡ signed_by t (suc whole) = rw (e, g) (ap (signed_by t) (omega arith)) in
      let abs : unsigned_abs (signed_by t (suc whole)) ≡ suc whole = signed_abs t (suc whole) in
      let some = nonzero (unsigned_abs c) g in
      let less : suc whole - 1 ≡ whole = omega arith in
      let back : whole / f + 1 ≡ unsigned_abs c = (let q = quotient f (unsigned_abs c - 1) r small in omega (arith, q, some)) in
      let code : motion_code f (signed_by t (suc whole)) ≡ signed_by t (whole / f + 1) =
      rw (e, abs, suc_not whole, signed_negative t whole, less) refl in (
        ap (motion_code f) same ∙ code ∙ ap (signed_by t) back ∙ signed_back c,
        λ h. ap (motion_residual f) same ∙ ap (λ (n : ℕ). (n - 1) % f) abs ∙ ap (λ (n : ℕ). n % f) less ∙ remainder f (unsigned_abs c - 1) r small,
      )

  pub code_again : motion_code f (delta f c r) ≡ c
  code_again = (by_code (eqb f 1) (eqb (unsigned_abs c) 0) refl refl).0

  pub residual_again : eqb (unsigned_abs c) 0 ≡ false → motion_residual f (delta f c r) ≡ r
  residual_again h = (by_code (eqb f 1) (eqb (unsigned_abs c) 0) refl refl).1 h

-- ---- a component

residual_small : (code : ℕ) (is : Bool) (bits : List Bool) (n : ℕ) (rest : List Bool) → When {W = Why} is 0 (Field (code - 1)) bits (Ok (n, rest)) → n < f_of code
residual_small code true bits n rest h = let s = front_lt (code - 1) bits in let e = h.0 in omega (arith, s, e)
residual_small code false bits n rest h = let e : n ≡ 0 = value_is n 0 rest bits h in let s = pow_pos (code - 1) in omega (arith, e, s)

not_false : (t : Bool) → not t ≡ true → t ≡ false
not_false true e = cc
not_false false e = refl

second_true : (a b : Bool) → (a && b) ≡ true → b ≡ true
second_true true b e = e
second_true false b e = cc

residual_read : (code : ℕ) (c : ℤ) (r : ℕ) (bits rest : List Bool) → r < f_of code → (is : Bool) → has_residual code c ≡ is → When {W = Why} is 0 (Field (code - 1)) bits (Ok (r, rest))
    → IsInFront (sent is (digits (code - 1) (motion_residual (f_of code) (delta (f_of code) c r)))) bits rest
residual_read code c r bits rest small true e h =
    let again = residual_again (f_of code) c r small (not_false _ (second_true _ _ e)) in
    in_front_same (digits (code - 1) r) (digits (code - 1) (motion_residual (f_of code) (delta (f_of code) c r))) bits rest (ap (digits (code - 1)) (sym again))
    (in_front_field (code - 1) r bits rest h.0 h.1)
residual_read code c r bits rest small false e h = in_front_rest [] bits bits rest (rest_is r 0 rest bits h) (in_front_none bits)

pub delta_read : (code : ℕ) (c : ℤ) (r : ℕ) (bits mid rest : List Bool) → r < f_of code → IsInFront (code_of (same_integer c) motion_codes) bits mid → When {W = Why} (has_residual code c) 0 (Field (code - 1)) mid (Ok (r, rest))
    → IsInFront (delta_bits code (delta (f_of code) c r)) bits rest
delta_read code c r bits mid rest small first h =
    let again = code_again (f_of code) c r small in
    let residual = residual_read code c r mid rest small (has_residual code c) refl h in
    let d : ℤ = delta (f_of code) c r in
    let whole = in_front_then (code_of (same_integer c) motion_codes) (sent (has_residual code c) (digits (code - 1) (motion_residual (f_of code) d))) bits mid rest first residual in
    subst (λ (z : ℤ). IsInFront (code_of (same_integer z) motion_codes ++ sent (has_residual code z) (digits (code - 1) (motion_residual (f_of code) d))) bits rest) (sym again) whole

pub component_read : (code : ℕ) (prediction v : ℤ) (bits rest : List Bool) → PlainComponent code prediction bits (Ok (v, rest)) → IsInFront (component_bits code prediction v) bits rest
component_read code prediction v bits rest h =
    let motion = read_first (v, rest) h in
    let residual = read_first (v, rest) motion.3 in
    let plain = read_first (v, rest) residual.3 in
    let f : ℕ = f_of code in
    let d : ℤ = delta f motion.0 residual.0 in
    let small = residual_small code (has_residual code motion.0) motion.1 residual.0 residual.1 residual.2 in
    let first = in_front_code same_integer int_number motion_codes motions_written integer_same motions_once [] motion.0 bits motion.1 motion.2 in
    let read = delta_read code motion.0 residual.0 bits motion.1 residual.1 small first residual.2 in
    let e = value_is _ _ _ _ plain.3 in
    let r = rest_is _ _ _ _ plain.3 ∙ plain.2.1 in
    let range = in_range f d plain.2.0 in
    let same : delta_of f prediction v ≡ d = ap (delta_of f prediction) e ∙ delta_once f prediction d range.0 range.1 in
    in_front_rest (component_bits code prediction v) bits residual.1 rest r
    (in_front_same (delta_bits code d) (component_bits code prediction v) bits residual.1 (ap (delta_bits code) (sym same)) read)

-- ---- the vectors of a direction

module _ (head : Head) (s : ℕ) where
  pub frame_vector_read : (predictor v : Vector) (bits rest : List Bool) → PlainFrameVector head s predictor bits (Ok (v, rest)) → IsInFront (frame_vector_bits head s predictor v) bits rest
  frame_vector_read predictor v bits rest h =
      let x = read_first (v, rest) h in
      let y = read_first (v, rest) x.3 in
      let e = value_is _ _ _ _ y.3 in
      let r = rest_is _ _ _ _ y.3 in
      let a = component_read (f_code head s 0) predictor.x x.0 bits x.1 x.2 in
      let b = component_read (f_code head s 1) predictor.y y.0 x.1 y.1 y.2 in
      in_front_rest (frame_vector_bits head s predictor v) bits y.1 rest r
      (subst (λ (z : Vector). IsInFront (frame_vector_bits head s predictor z) bits y.1) (sym e)
      (in_front_then (component_bits (f_code head s 0) predictor.x x.0) (component_bits (f_code head s 1) predictor.y y.0) bits x.1 y.1 a b))

  pub field_vector_read : (predictor : Vector) (v : Bool × Vector) (bits rest : List Bool) → PlainFieldVector head s predictor bits (Ok (v, rest)) → IsInFront (field_vector_bits head s predictor v.0 v.1) bits rest
  field_vector_read predictor v bits rest h =
      let select = read_first (v, rest) h in
      let x = read_first (v, rest) select.3 in
      let y = read_first (v, rest) x.3 in
      let e = value_is _ _ _ _ y.3 in
      let r = rest_is _ _ _ _ y.3 in
      let flag = in_front_flag select.0 bits select.1 select.2.0 select.2.1 in
      let a = component_read (f_code head s 0) predictor.x x.0 select.1 x.1 x.2 in
      let b = component_read (f_code head s 1) (int_div_euclid predictor.y (pos 2)) y.0 x.1 y.1 y.2 in
      let xs : List Bool = component_bits (f_code head s 0) predictor.x x.0 in
      let ys : List Bool = component_bits (f_code head s 1) (int_div_euclid predictor.y (pos 2)) y.0 in
      in_front_rest (field_vector_bits head s predictor v.0 v.1) bits y.1 rest r
      (subst (λ (z : Bool × Vector). IsInFront (field_vector_bits head s predictor z.0 z.1) bits y.1) (sym e)
      (in_front_then (select.0 ∷ []) (xs ++ ys) bits select.1 y.1 flag (in_front_then xs ys select.1 x.1 y.1 a b)))

  first_of : Directed → Vector
  first_of x = slice_index_or x.vectors 0 still

  direction_from : (p q : Vector) (d : Decision) (field : Bool) (bits rest : List Bool) → PlainDirectionFrom head s p q field bits (Ok (directed d s, rest)) → IsInFront (direction_bits_from head s p q d field) bits rest
  direction_from p q d false bits rest h =
      let v = read_first (directed d s, rest) h in
      let e = value_is _ _ _ _ v.3 in
      let r = rest_is _ _ _ _ v.3 in
      let same : vector_of d s 0 ≡ v.0 = ap (λ (x : Directed). slice_index_or x.vectors 0 still) e in
      in_front_rest (frame_vector_bits head s p (vector_of d s 0)) bits v.1 rest r
      (subst (λ (z : Vector). IsInFront (frame_vector_bits head s p z) bits v.1) (sym same) (frame_vector_read p v.0 bits v.1 v.2))
  direction_from p q d true bits rest h =
      let a = read_first (directed d s, rest) h in
      let b = read_first (directed d s, rest) a.3 in
      let e = value_is _ _ _ _ b.3 in
      let r = rest_is _ _ _ _ b.3 in
      let v0 : vector_of d s 0 ≡ a.0.1 = ap (λ (x : Directed). slice_index_or x.vectors 0 still) e in
      let v1 : vector_of d s 1 ≡ b.0.1 = ap (λ (x : Directed). slice_index_or x.vectors 1 still) e in
      let s0 : select_of d s 0 ≡ a.0.0 = ap (λ (x : Directed). slice_index_or x.selects 0 false) e in
      let s1 : select_of d s 1 ≡ b.0.0 = ap (λ (x : Directed). slice_index_or x.selects 1 false) e in
      let first = field_vector_read p a.0 bits a.1 a.2 in
      let second = field_vector_read q b.0 a.1 b.1 b.2 in
      let same : field_vector_bits head s p a.0.0 a.0.1 ++ field_vector_bits head s q b.0.0 b.0.1 ≡ direction_bits_from head s p q d true =
      λ i. field_vector_bits head s p (sym s0 i) (sym v0 i) ++ field_vector_bits head s q (sym s1 i) (sym v1 i) in
      in_front_rest (direction_bits_from head s p q d true) bits b.1 rest r
      (in_front_same (field_vector_bits head s p a.0.0 a.0.1 ++ field_vector_bits head s q b.0.0 b.0.1) (direction_bits_from head s p q d true) bits b.1 same
      (in_front_then (field_vector_bits head s p a.0.0 a.0.1) (field_vector_bits head s q b.0.0 b.0.1) bits a.1 b.1 first second))

pub direction_read : (head : Head) (predictors : List (List Vector)) (d : Decision) (s : ℕ) (field : Bool) (bits rest : List Bool) → PlainDirection head predictors s field bits (Ok (directed d s, rest)) → IsInFront (direction_bits head predictors d s field) bits rest
direction_read head predictors d s field bits rest h = direction_from head s (predictor_at predictors s 0) (predictor_at predictors s 1) d field bits rest h
