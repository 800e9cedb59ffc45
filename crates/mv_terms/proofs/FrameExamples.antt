-- Frames of fields. In coded order: an I and a P field, a frame picture of type P, two B fields, and a first field whose
-- second one is still to come.
use Rattle.std.proofs.Common.{◌≡◌, ℕ, Bool, true, false, List, [], ◌∷◌, refl}
use Rattle.std.specs.Prelude.{None, Some}
use Rattle.mv_terms.specs.declared.head.PicType.{PicType}
use Rattle.mv_terms.specs.declared.head.PicType.TheVariants as pic
use Rattle.mv_terms.specs.declared.head.Structure.{Structure}
use Rattle.mv_terms.specs.declared.head.Structure.TheVariants.{Frame, Top, Bottom}
use Rattle.mv_terms.specs.Structures.{has_line, is_field, line_in, line_of_frame, parity, rows_in, rows_of_frame}
use Rattle.mv_terms.specs.Order.{shown_from, display_order}
use Rattle.mv_terms.specs.Frames.{FrameOf, in_frames, frame_type}

pub record Shot : Type 0 where
  pub number : ℕ
  pub structure : Structure
  pub pic : PicType

abbrev shot : ℕ → Structure → PicType → Shot
shot n s t = record { number = n; structure = s; pic = t }

abbrev is_field_of : Shot → Bool
is_field_of s = is_field s.structure

abbrev type_at : Shot → PicType
type_at s = s.pic

-- the latest first
abbrev coded : List Shot
coded = shot 5 Bottom pic.P ∷ shot 4 Bottom pic.B ∷ shot 3 Top pic.B ∷ shot 2 Frame pic.P ∷ shot 1 Bottom pic.P ∷ shot 0 Top pic.I ∷ []

abbrev first_frame : FrameOf Shot
first_frame = record { first = shot 0 Top pic.I; second = Some (shot 1 Bottom pic.P) }

abbrev second_frame : FrameOf Shot
second_frame = record { first = shot 2 Frame pic.P; second = None }

abbrev third_frame : FrameOf Shot
third_frame = record { first = shot 3 Top pic.B; second = Some (shot 4 Bottom pic.B) }

fields_make_frames : in_frames is_field_of coded
    ≡ record { frames = third_frame ∷ second_frame ∷ first_frame ∷ []; alone = Some (shot 5 Bottom pic.P) }
unfolding in_frames
fields_make_frames = refl

-- an I and a P field are a frame of type P
types_of_frames : (frame_type type_at first_frame ≡ pic.P) × (frame_type type_at second_frame ≡ pic.P) × (frame_type type_at third_frame ≡ pic.B)
types_of_frames = (refl, refl, refl)

frames_in_display_order : display_order (frame_type type_at) (first_frame ∷ second_frame ∷ third_frame ∷ [])
    ≡ first_frame ∷ third_frame ∷ second_frame ∷ []
unfolding shown_from
frames_in_display_order = refl

-- the bottom field of a frame of 36 rows of macroblocks: its line 3 is line 7 of the frame
rows_of_a_field : (rows_in Bottom 36 ≡ 18) × (rows_of_frame Bottom 18 ≡ 36) × (rows_in Frame 36 ≡ 36)
rows_of_a_field = (refl, refl, refl)

lines_of_a_field : (line_of_frame Bottom 3 ≡ 7) × (line_in Bottom 7 ≡ 3) × (has_line Bottom 7 ≡ true) × (has_line Top 7 ≡ false) × (parity Frame 7 ≡ true) × (parity Top 7 ≡ false)
lines_of_a_field = (refl, refl, refl, refl, refl, refl)
