-- Worked values of the definitions.
use Rattle.std.proofs.Common.{◌≡◌, true, false, [], ◌∷◌, refl, pos, neg_ℤ, ◌+ℤ◌}
use Rattle.std.specs.Int.{int_div_euclid}
use Rattle.mv_terms.specs.declared.head.PicType.TheVariants as pic
use Rattle.mv_terms.specs.declared.head.Head.{Head}
use Rattle.mv_terms.specs.CodedPicture.{no_head}
use Rattle.mv_terms.specs.declared.macroblock.Decision.{Decision}
use Rattle.mv_terms.specs.Decisions.{vector, still, no_decision}
use Rattle.mv_vectors.specs.Vectors.{delta, wrapped, f_of}
use Rattle.mv_vectors.specs.Inside.{chroma, lies_in, are_vectors_in_range}
use Rattle.mv_vectors.specs.Predictable.{CanBePredicted}

-- the chroma vector is half the luma vector, toward zero
a_chroma_vector : chroma (vector (neg_ℤ (pos 3)) (pos 5)) ≡ vector (neg_ℤ (pos 1)) (pos 2)
a_chroma_vector = refl

-- a vertical predictor of field prediction is half that of the frame, toward minus infinity
a_field_predictor : int_div_euclid (neg_ℤ (pos 5)) (pos 2) ≡ neg_ℤ (pos 3)
a_field_predictor = refl

-- with f_code 2 a code 5 and a residual 1 are 10, and a code -16 with a residual 1 is -32
deltas : (delta (f_of 2) (pos 5) 1 ≡ pos 10) × (delta (f_of 2) (neg_ℤ (pos 16)) 1 ≡ neg_ℤ (pos 32))
deltas = (refl, refl)

-- with f_code 2 and a predictor -10, both -32 and 32 give 22
two_deltas_of_one_vector : (wrapped (f_of 2) (neg_ℤ (pos 10) +ℤ neg_ℤ (pos 32)) ≡ pos 22) × (wrapped (f_of 2) (neg_ℤ (pos 10) +ℤ pos 32) ≡ pos 22)
two_deltas_of_one_vector = (refl, refl)

-- the first macroblock of a row may move right by half a sample, and not left; the last one not right
at_the_edges : (lies_in 0 16 96 (pos 1) ≡ true) × (lies_in 0 16 96 (neg_ℤ (pos 1)) ≡ false) × (lies_in 80 16 96 (pos 1) ≡ false) × (lies_in 80 16 96 (neg_ℤ (pos 1)) ≡ true)
at_the_edges = (refl, refl, refl, refl)

-- a P picture of 6 by 4 macroblocks whose vectors lie between -16 and 15
abbrev p_head : Head
p_head = record no_head {
  pic = pic.P;
  f_code = (1 ∷ 1 ∷ []) ∷ (15 ∷ 15 ∷ []) ∷ [];
  frame_only = false;
  mb_wide = 6;
  mb_high = 4;
}

-- field-based prediction with the second vector 16 half samples down
abbrev by_fields : Decision
by_fields = record no_decision {
  forward = true;
  field_motion = true;
  vectors = (still ∷ vector (pos 0) (pos 16) ∷ []) ∷ (still ∷ still ∷ []) ∷ [];
}

-- that vector is out of its range, and counts where the prediction is field-based alone
the_second_vector : (are_vectors_in_range p_head by_fields 0 true ≡ false) × (are_vectors_in_range p_head by_fields 0 false ≡ true)
the_second_vector = (refl, refl)

-- it leads inside, so the macroblock at column 1 of row 1 can be predicted; that of the last row can't
can_be_predicted : CanBePredicted p_head 1 1 by_fields
can_be_predicted = record {
  directions = λ e. refl;
  motion = λ e. record { frame_only = λ h. cc; skipped = λ h. cc; no_direction = λ h. cc };
  inside = λ e. refl;
}

cannot_be_predicted : CanBePredicted p_head 1 3 by_fields → ⊥
cannot_be_predicted h = let no : false ≡ true = h.inside refl in cc
