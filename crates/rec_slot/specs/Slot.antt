-- The slot of a macroblock: its decision in 20 bytes (docs/FRAME-FILES.md).
use Rattle.std.specs.Prelude.{◌≡◌, ℕ, ◌+◌, ◌/◌, ◌%◌, ◌^◌, ◌≤◌, Bool, false, List, [], ◌∷◌, ◌++◌, length, slice_index, if◌then◌else◌, FitsSigned}
use Rattle.std.specs.Int.{cast_unsigned, w16}
use Rattle.mv_terms.specs.declared.macroblock.Vector.{Vector}
use Rattle.mv_terms.specs.declared.macroblock.Decision.{Decision}
use Rattle.mv_terms.specs.Decisions.{HasPlainOrFieldMotion, dmvector_of, select_of, vector_of}
use Rattle.mv_terms.specs.Ranges.{HasLegalScales, IsScaleCode}

-- the number that these bits are, the highest one first
abbrev pub number_of : List Bool → ℕ
number_of [] = 0
number_of (b ∷ bits) = (if b then 2 ^ length bits else 0) + number_of bits

-- bits 7 to 0 of byte 0: the kind of the macroblock
abbrev pub kind_bits : Decision → List Bool
kind_bits d =
    d.slice_start ∷ d.skipped ∷ d.quant ∷ d.intra
    ∷ d.forward ∷ d.backward ∷ d.field_dct ∷ d.field_motion ∷ []

-- bits 7 to 0 of byte 2: the selects, forward first, and nothing in the low nibble
abbrev pub select_bits : Decision → List Bool
select_bits d =
    select_of d 0 0 ∷ select_of d 0 1 ∷ select_of d 1 0 ∷ select_of d 1 1
    ∷ false ∷ false ∷ false ∷ false ∷ []

-- a vector: x and then y as signed 16 bits, the high byte first
abbrev pub vector_bytes : Vector → List ℕ
vector_bytes v =
    cast_unsigned w16 v.x / 256 ∷ cast_unsigned w16 v.x % 256
    ∷ cast_unsigned w16 v.y / 256 ∷ cast_unsigned w16 v.y % 256 ∷ []

-- The slot of a decision of plain or field motion: the kind, the scale code in force, the selects, the vectors in the order of the selects, and the scale
-- code of the slice header.
abbrev pub slot_of : Decision → List ℕ
slot_of d =
    number_of (kind_bits d) ∷ d.scale ∷ number_of (select_bits d)
    ∷ (vector_bytes (vector_of d 0 0) ++ (vector_bytes (vector_of d 0 1)
    ++ (vector_bytes (vector_of d 1 0) ++ (vector_bytes (vector_of d 1 1) ++ (d.head_scale ∷ [])))))

-- 20 bytes that are the slot of some decision: the low nibble of byte 2 is empty, and the scale codes are legal
pub record IsSlot (bytes : List ℕ) : Type 0 where
  pub low_nibble : slice_index bytes 2 % 16 ≡ 0
  pub scale : IsScaleCode (slice_index bytes 1)
  pub head_scale : slice_index bytes 19 ≤ 31

-- the bytes are the slot of this decision
pub record IsSlotOf (d : Decision) (bytes : List ℕ) : Type 0 where
  pub same_bytes : slot_of d ≡ bytes
  pub motion : HasPlainOrFieldMotion d
  pub scales : HasLegalScales d

-- a decision as a program holds it: two selects and two vectors in each direction, with components of 16 bits, and one
-- dmvector
pub record IsHeld (d : Decision) : Type 0 where
  pub selects : d.selects
      ≡ (select_of d 0 0 ∷ select_of d 0 1 ∷ []) ∷ (select_of d 1 0 ∷ select_of d 1 1 ∷ []) ∷ []
  pub vectors : d.vectors
      ≡ (vector_of d 0 0 ∷ vector_of d 0 1 ∷ []) ∷ (vector_of d 1 0 ∷ vector_of d 1 1 ∷ []) ∷ []
  pub dual_delta : d.dual_delta ≡ dmvector_of d 0 ∷ dmvector_of d 1 ∷ []
  pub x_fits : (s r : ℕ) → FitsSigned w16 (vector_of d s r).x
  pub y_fits : (s r : ℕ) → FitsSigned w16 (vector_of d s r).y

-- what is written of a decision with legal scale codes is a slot
abbrev pub WrittenIsASlot : Type 0
WrittenIsASlot = (d : Decision) → HasLegalScales d → IsSlot (slot_of d)

-- a slot is of one decision of plain or field motion alone
abbrev pub OneDecision : Type 0
OneDecision = (d e : Decision) → IsHeld d → IsHeld e → HasPlainOrFieldMotion d
    → HasPlainOrFieldMotion e → slot_of d ≡ slot_of e → d ≡ e
