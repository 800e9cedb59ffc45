-- Vectors are read plainly from their canonical bits.
use Rattle.std.proofs.Common.{◌≡◌, ℕ, ◌-◌, ◌*◌, ◌^◌, ◌<◌, Bool, true, false, ◌||◌, ◌&&◌, not, cond, eqb, List, [], refl, ap, sym, ◌∙◌, subst, arith, mod-lt, ℤ, pos, ◌+ℤ◌}
use Rattle.std.specs.Prelude.{unsigned_abs, IsTrue}
use Rattle.std.specs.Int.{int_div_euclid}
use Rattle.std.proofs.lemmas.Bool.Decides.{nat_tests}
use Rattle.std.proofs.lemmas.Nat.{pow_pos}
use Rattle.mv_terms.specs.declared.status.Why.TheVariants.{BadCode, BadVector}
use Rattle.mv_terms.specs.declared.head.Head.{Head}
use Rattle.mv_terms.specs.declared.macroblock.Vector.{Vector}
use Rattle.mv_terms.specs.declared.macroblock.Decision.{Decision}
use Rattle.mv_terms.specs.Decisions.{vector_of, select_of}
use Rattle.mv_bits.specs.Bits.{digits}
use Rattle.mv_bits.specs.Readings.{Field, Flag, Demands, When}
use Rattle.mv_bits.specs.ReadBack.{sent}
use Rattle.mv_codes.specs.Tables.{CodeOf}
use Rattle.mv_codes.specs.Motions.{motion_codes}
use Rattle.mv_codes.specs.Spelled.{code_of, same_integer}
use Rattle.mv_codes.proofs.SpelledLaws.{and_true}
use Rattle.mv_codes.proofs.TableFacts.{motions_sized}
use Rattle.mv_codes.proofs.PlaceFacts.{integer_same}
use Rattle.mv_vectors.specs.Inside.{are_vectors_in_range}
use Rattle.mv_vectors.specs.Vectors.{f_code, f_of, wrapped, delta, is_in_range, predictor_at}
use Rattle.mv_vectors.specs.Written.{motion_code, motion_residual, has_residual, delta_of, component_bits, frame_vector_bits, field_vector_bits, direction_bits, used, IsNear, IsVectorNear, AreNear}
use Rattle.mv_vectors.proofs.DeltaLaws.{delta_range, delta_whole, delta_split, delta_canonical, is_whole, code_some, code_small, motion_has, magnitude}
use Rattle.mv_vectors.proofs.WrittenLaws.{half_near}
use Rattle.mv_spellings.specs.Vectors.{PlainComponent, PlainFrameVector, PlainFieldVector, PlainDirection}
use Rattle.mv_spellings.proofs.ReadLaws.{Reads, reads_gives, reads_then, reads_last, reads_second, reads_field, reads_flag, reads_demand, reads_when, reads_code}

-- the residual that is read of a delta: 0 where none is sent
abbrev residual_of : ℕ → ℤ → ℕ
residual_of code d = cond (has_residual code (motion_code (f_of code) d)) (motion_residual (f_of code) d) 0

sent_reads : (is : Bool) (n v : ℕ) → v < 2 ^ n → Reads (When is 0 (Field n)) (cond is v 0) (sent is (digits n v))
sent_reads true n v h = reads_when true 0 (Field n) v (digits n v) (λ e. reads_field n v h) (λ e. absurd cc)
sent_reads false n v h = reads_when false 0 (Field n) 0 (digits n v) (λ e. absurd cc) (λ e. refl)

one_of : (code : ℕ) → eqb code 1 ≡ true → eqb (f_of code) 1 ≡ true
one_of code e = let same : code ≡ 1 = grind (arith, nat_tests) in rw same refl

or_left : (a b : Bool) → a ≡ true → (a || b) ≡ true
or_left a b e = rw e refl

-- where no residual is sent, the delta is its code
whole_unsent : (code : ℕ) (d : ℤ) → (s : Bool) → eqb code 1 ≡ s → (t : Bool) → is_whole (f_of code) d ≡ t → (not s && not (eqb (unsigned_abs (motion_code (f_of code) d)) 0)) ≡ false → is_whole (f_of code) d ≡ true
whole_unsent code d true p t q e = or_left _ _ (one_of code p)
whole_unsent code d false p true q e = q
whole_unsent code d false p false q e = let some = code_some (f_of code) d q in absurd (let other = rw some at e in cc)

delta_said : (code : ℕ) (d : ℤ) → delta (f_of code) (motion_code (f_of code) d) (residual_of code d) ≡ d
delta_said code d = go (has_residual code (motion_code (f_of code) d)) refl (is_whole (f_of code) d) refl
  where
    go : (s : Bool) → has_residual code (motion_code (f_of code) d) ≡ s → (t : Bool) → is_whole (f_of code) d ≡ t → delta (f_of code) (motion_code (f_of code) d) (cond s (motion_residual (f_of code) d) 0) ≡ d
    go s p true q = delta_whole (f_of code) d (cond s (motion_residual (f_of code) d) 0) q
    go true p false q = delta_split (f_of code) d (pow_pos (code - 1)) q
    go false p false q = delta_whole (f_of code) d 0 (whole_unsent code d (eqb code 1) refl (is_whole (f_of code) d) refl p)

component_reads : (code : ℕ) (prediction v : ℤ) → is_in_range (f_of code) v ≡ true → IsNear (f_of code) prediction → Reads (PlainComponent code prediction) v (component_bits code prediction v)
component_reads code prediction v e near =
    let f : ℕ = f_of code in
    let d : ℤ = delta_of f prediction v in
    let c : ℤ = motion_code f d in
    let r : ℕ = residual_of code d in
    let bounds = delta_range f prediction v e near in
    let canonical = delta_canonical f prediction v e near in
    let said = delta_said code d in
    let plain : IsTrue (is_in_range f (delta f c r)) = subst (λ (x : ℤ). IsTrue (is_in_range f x)) (sym said) canonical.0 in
    reads_then (CodeOf motion_codes BadCode) _ c v (code_of (same_integer c) motion_codes) _
    (reads_code same_integer motion_codes BadCode integer_same motions_sized [] c (motion_has c (code_small f d (pow_pos (code - 1)) (magnitude d (16 * f) bounds.0 bounds.1))))
    (reads_last (When (has_residual code c) 0 (Field (code - 1))) _ r v _ (sent_reads (has_residual code c) (code - 1) (motion_residual f d) (mod-lt (unsigned_abs d - 1) (pow_pos (code - 1))))
    (reads_second (Demands (IsTrue (is_in_range f (delta f c r))) BadVector) _ tt v [] (reads_demand (IsTrue (is_in_range f (delta f c r))) BadVector plain)
    (reads_gives _ _ (ap (λ (x : ℤ). wrapped f (prediction +ℤ x)) said ∙ canonical.1))))

module _ (head : Head) (s : ℕ) (predictor v : Vector) (e : (is_in_range (f_of (f_code head s 0)) v.x && is_in_range (f_of (f_code head s 1)) v.y) ≡ true) (near : IsVectorNear head s predictor) where
  x_reads : Reads (PlainComponent (f_code head s 0) predictor.x) v.x (component_bits (f_code head s 0) predictor.x v.x)
  x_reads = component_reads (f_code head s 0) predictor.x v.x (and_true _ _ e).0 near.x

  frame_vector_reads : Reads (PlainFrameVector head s predictor) v (frame_vector_bits head s predictor v)
  frame_vector_reads =
      reads_then (PlainComponent (f_code head s 0) predictor.x) _ v.x v _ _ x_reads
      (reads_last (PlainComponent (f_code head s 1) predictor.y) _ v.y v _ (component_reads (f_code head s 1) predictor.y v.y (and_true _ _ e).1 near.y)
      (reads_gives _ _ refl))

  field_vector_reads : (select : Bool) → Reads (PlainFieldVector head s predictor) (select, v) (field_vector_bits head s predictor select v)
  field_vector_reads select =
      reads_then Flag _ select (select, v) _ _ (reads_flag select)
      (reads_then (PlainComponent (f_code head s 0) predictor.x) _ v.x (select, v) _ _ x_reads
      (reads_last (PlainComponent (f_code head s 1) (int_div_euclid predictor.y (pos 2))) _ v.y (select, v) _
      (component_reads (f_code head s 1) (int_div_euclid predictor.y (pos 2)) v.y (and_true _ _ e).1 (half_near (f_of (f_code head s 1)) predictor.y near.y))
      (reads_gives _ _ refl)))

pub direction_reads : (head : Head) (predictors : List (List Vector)) (d : Decision) (s : ℕ) (field : Bool) → are_vectors_in_range head d s field ≡ true → AreNear head predictors s
    → Reads (PlainDirection head predictors s field) (used d s field) (direction_bits head predictors d s field)
direction_reads head predictors d s false e near =
    reads_last (PlainFrameVector head s (predictor_at predictors s 0)) _ (vector_of d s 0) _ _ (frame_vector_reads head s (predictor_at predictors s 0) (vector_of d s 0) e near.0)
    (reads_gives _ _ refl)
direction_reads head predictors d s true e near =
    reads_then (PlainFieldVector head s (predictor_at predictors s 0)) _ (select_of d s 0, vector_of d s 0) _ _ _ (field_vector_reads head s (predictor_at predictors s 0) (vector_of d s 0) (and_true _ _ e).0 near.0 (select_of d s 0))
    (reads_last (PlainFieldVector head s (predictor_at predictors s 1)) _ (select_of d s 1, vector_of d s 1) _ _ (field_vector_reads head s (predictor_at predictors s 1) (vector_of d s 1) (and_true _ _ e).1 near.1 (select_of d s 1))
    (reads_gives _ _ refl))
