-- Coded frames: a frame picture alone, or a first and a second field (H.262, 6.1.1.4). The pictures are of any type of
-- which some are fields; they stand in coded order, the latest first, and so do the frames that they make.
use Rattle.std.specs.Prelude.{◌≡◌, Bool, true, false, List, [], ◌∷◌, ◌++◌, Option, None, Some, is_some, option_map, ⊤}
use Rattle.mv_terms.specs.declared.head.PicType.{PicType}
use Rattle.mv_terms.specs.Structures.{type_with}
use Rattle.mv_terms.specs.Order.{listed}

-- a frame picture, or a first field and the second one
pub record FrameOf (A : Type 0) : Type 0 where
  pub first : A
  pub second : Option A

-- the frames that are whole, and the first field that stands alone behind them, if one does
pub record Frames (A : Type 0) : Type 0 where
  pub frames : List (FrameOf A)
  pub alone : Option A

-- one picture more: whatever comes behind a first field is the second one
abbrev pub joined : {A : Type 0} → Bool → A → List (FrameOf A) → Option A → Frames A
joined field p frames (Some f) = record {
  frames = record { first = f; second = Some p } ∷ frames;
  alone = None;
}
joined true p frames None = record { frames = frames; alone = Some p }
joined false p frames None = record {
  frames = record { first = p; second = None } ∷ frames;
  alone = None;
}

-- THE FRAMES of these pictures.
unfoldable pub in_frames : {A : Type 0} → (A → Bool) → List A → Frames A
in_frames is_field [] = record { frames = []; alone = None }
in_frames is_field (p ∷ before) =
    let others = in_frames is_field before in
    joined (is_field p) p others.frames others.alone

abbrev pub whole_frames : {A : Type 0} → (A → Bool) → List A → List (FrameOf A)
whole_frames is_field pictures = (in_frames is_field pictures).frames

abbrev pub standing_alone : {A : Type 0} → (A → Bool) → List A → Option A
standing_alone is_field pictures = (in_frames is_field pictures).alone

-- the pictures of a frame, the latest first, and those of frames
abbrev pub pictures_of_frame : {A : Type 0} → FrameOf A → List A
pictures_of_frame f = listed f.second ++ f.first ∷ []

unfoldable pub pictures_of_frames : {A : Type 0} → List (FrameOf A) → List A
pictures_of_frames [] = []
pictures_of_frames (f ∷ before) = pictures_of_frame f ++ pictures_of_frames before

-- the frame of what is made of the pictures of one
abbrev pub frame_map : {A B : Type 0} → (A → B) → FrameOf A → FrameOf B
frame_map f x = record { first = f x.first; second = option_map f x.second }

-- the type of a frame, by the types of its pictures
abbrev pub type_of_both : PicType → Option PicType → PicType
type_of_both t None = t
type_of_both t (Some u) = type_with t u

abbrev pub frame_type : {A : Type 0} → (A → PicType) → FrameOf A → PicType
frame_type type_of f = type_of_both (type_of f.first) (option_map type_of f.second)

-- a frame has a second picture exactly where its first one is a field
abbrev pub IsPaired : {A : Type 0} → (A → Bool) → FrameOf A → Type 0
IsPaired is_field f = is_some f.second ≡ is_field f.first

unfoldable pub ArePaired : {A : Type 0} → (A → Bool) → List (FrameOf A) → Type 0
ArePaired is_field [] = ⊤
ArePaired is_field (f ∷ before) = IsPaired is_field f × ArePaired is_field before

-- pictures as frames: each frame is paired, and a picture that stands alone is a field
pub record AreFrames {A : Type 0} (is_field : A → Bool) (x : Frames A) : Type 0 where
  pub pairs : ArePaired is_field x.frames
  pub field : (f : A) → x.alone ≡ Some f → is_field f ≡ true
