-- A slot is of one decision alone.
use Rattle.std.proofs.Common.{◌≡◌, ℕ, ◌∙◌, Bool, false, List, [], ◌∷◌, get_or, ap, refl, sym}
use Rattle.mv_terms.specs.declared.macroblock.Vector.{Vector}
use Rattle.mv_terms.specs.declared.macroblock.Decision.{Decision}
use Rattle.mv_terms.specs.Decisions.{HasPlainOrFieldMotion, no_dmvector, vector, vector_of}
use Rattle.rec_slot.specs.Slot.{kind_bits, select_bits, slot_of, OneDecision}
use Rattle.rec_slot.proofs.BitLemmas.{same_bits, same_component}

same_vector : (v w : Vector) → v.x ≡ w.x → v.y ≡ w.y → v ≡ w
same_vector v w x y = ap (λ n. vector n v.y) x ∙ ap (λ n. vector w.x n) y

-- two by two
abbrev pairs : {X : Type 0} → X → X → X → X → List (List X)
pairs a b c d = (a ∷ b ∷ []) ∷ (c ∷ d ∷ []) ∷ []

same_pairs : {X : Type 0} (a a' b b' c c' d d' : X) → a ≡ a' → b ≡ b' → c ≡ c' → d ≡ d' → pairs a b c d ≡ pairs a' b' c' d'
same_pairs a a' b b' c c' d d' p q r s = cc

-- a decision of plain or field motion
abbrev decided : Bool → Bool → Bool → Bool → Bool → Bool → Bool → Bool → ℕ → List (List Bool) → List (List Vector) → ℕ → Decision
decided a b c d e f g h s t v z = record { slice_start = a; skipped = b; quant = c; intra = d; forward = e; backward = f; field_dct = g; field_motion = h; half = false; dual = false; scale = s; selects = t; vectors = v; dual_delta = no_dmvector; head_scale = z }

same_decision : (a a' b b' c c' d d' e e' f f' g g' h h' : Bool) (s s' : ℕ) (t t' : List (List Bool)) (v v' : List (List Vector)) (z z' : ℕ) → a ≡ a' → b ≡ b' → c ≡ c' → d ≡ d' → e ≡ e' → f ≡ f' → g ≡ g' → h ≡ h' → s ≡ s' → t ≡ t' → v ≡ v' → z ≡ z'
    → decided a b c d e f g h s t v z ≡ decided a' b' c' d' e' f' g' h' s' t' v' z'
same_decision a a' b b' c c' d d' e e' f f' g g' h h' s s' t t' v v' z z' p1 p2 p3 p4 p5 p6 p7 p8 p9 p10 p11 p12 = cc

is_decided : (d : Decision) → HasPlainOrFieldMotion d
    → d ≡ decided d.slice_start d.skipped d.quant d.intra d.forward d.backward d.field_dct d.field_motion d.scale d.selects d.vectors d.head_scale
is_decided d motion = λ i. record d { half = motion.half i; dual = motion.dual i; dual_delta = motion.dual_delta i }

-- byte i of both
byte : (i : ℕ) (d e : Decision) → slot_of d ≡ slot_of e → get_or (slot_of d) i 0 ≡ get_or (slot_of e) i 0
byte i d e same = ap (λ bytes. get_or bytes i 0) same

pub one_decision : OneDecision
one_decision d e hd he md me same =
    let kinds : kind_bits d ≡ kind_bits e = same_bits (kind_bits d) (kind_bits e) refl (byte 0 d e same) in
    let marks : select_bits d ≡ select_bits e = same_bits (select_bits d) (select_bits e) refl (byte 2 d e same) in
    let v00 = same_vector (vector_of d 0 0) (vector_of e 0 0) (same_component _ _ (hd.x_fits 0 0) (he.x_fits 0 0) (byte 3 d e same) (byte 4 d e same)) (same_component _ _ (hd.y_fits 0 0) (he.y_fits 0 0) (byte 5 d e same) (byte 6 d e same)) in
    let v01 = same_vector (vector_of d 0 1) (vector_of e 0 1) (same_component _ _ (hd.x_fits 0 1) (he.x_fits 0 1) (byte 7 d e same) (byte 8 d e same)) (same_component _ _ (hd.y_fits 0 1) (he.y_fits 0 1) (byte 9 d e same) (byte 10 d e same)) in
    let v10 = same_vector (vector_of d 1 0) (vector_of e 1 0) (same_component _ _ (hd.x_fits 1 0) (he.x_fits 1 0) (byte 11 d e same) (byte 12 d e same)) (same_component _ _ (hd.y_fits 1 0) (he.y_fits 1 0) (byte 13 d e same) (byte 14 d e same)) in
    let v11 = same_vector (vector_of d 1 1) (vector_of e 1 1) (same_component _ _ (hd.x_fits 1 1) (he.x_fits 1 1) (byte 15 d e same) (byte 16 d e same)) (same_component _ _ (hd.y_fits 1 1) (he.y_fits 1 1) (byte 17 d e same) (byte 18 d e same)) in
    let kind : (i : ℕ) → get_or (kind_bits d) i false ≡ get_or (kind_bits e) i false = λ (i : ℕ). ap (λ bits. get_or bits i false) kinds in
    let mark : (i : ℕ) → get_or (select_bits d) i false ≡ get_or (select_bits e) i false = λ (i : ℕ). ap (λ bits. get_or bits i false) marks in
    let selects : d.selects ≡ e.selects = hd.selects ∙ (same_pairs _ _ _ _ _ _ _ _ (mark 0) (mark 1) (mark 2) (mark 3) ∙ sym he.selects) in
    let vectors : d.vectors ≡ e.vectors = hd.vectors ∙ (same_pairs _ _ _ _ _ _ _ _ v00 v01 v10 v11 ∙ sym he.vectors) in
    is_decided d md ∙ (same_decision _ _ _ _ _ _ _ _ _ _ _ _ _ _ _ _ _ _ _ _ _ _ _ _ (kind 0) (kind 1) (kind 2) (kind 3) (kind 4) (kind 5) (kind 6) (kind 7) (byte 1 d e same) selects vectors (byte 19 d e same) ∙ sym (is_decided e me))
