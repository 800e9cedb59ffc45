-- The frame file that the units of a stream decode to. Units, and what is made of them, are in coded order, the latest
-- first.
use Rattle.std.specs.Prelude.{◌≡◌, ℕ, List, [], ◌∷◌, ◌++◌, map, reverse, take, Option, option_map, unwrap_or}
use Rattle.std.specs.List.{flat_map}
use Rattle.mv_terms.specs.declared.frame_header.FrameHeader.{FrameHeader}
use Rattle.mv_terms.specs.declared.head.PicType.{PicType}
use Rattle.mv_terms.specs.CodedPicture.{pic_of}
use Rattle.mv_terms.specs.Order.{display_order, shows, held, listed, forward_reference, backward_reference}
use Rattle.mv_terms.specs.Rates.{frame_header_of}
use Rattle.mv_heads.specs.HeadsInTurn.{context_bytes}
use Rattle.mv_units.specs.Profile.{CodedUnit}
use Rattle.mv_planes.specs.References.{DecodedPicture}
use Rattle.mv_recon.specs.Decoded.{decoded_behind, pictures_of, references_behind}
use Rattle.cert_picture.specs.Records.{FrameParts, frame_by, frame_seal, no_seal}
use Rattle.y4m_frames.specs.FrameFile.{frame, frame_file, header_line}

-- The frame of a unit: the picture that it decodes to, the seal of its record, where it has one, and its sample bytes.
pub record UnitFrame : Type 0 where
  pub unit : CodedUnit
  pub decoded : DecodedPicture
  pub seal : Option (List ℕ)
  pub samples : List ℕ

abbrev pub pic_of_frame : UnitFrame → PicType
pic_of_frame f = f.decoded.pic

-- the pictures of frames
abbrev pub pictures_in : List UnitFrame → List DecodedPicture
pictures_in frames = map (λ f. f.decoded) frames

-- a link to a frame: its seal, or zeros where it has no record
abbrev pub link_to : UnitFrame → List ℕ
link_to f = unwrap_or f.seal no_seal

-- What the frame of a unit behind other frames is made from. It has links to the frames that a picture of its type
-- refers to, where there are such frames.
abbrev pub parts_behind : List UnitFrame → CodedUnit → FrameParts
parts_behind before u = record {
  lists = u.lists;
  picture = u.picture;
  context = context_bytes (u.lists ∷ map (λ f. f.unit.lists) before);
  extended = u.accepted.heads.in_force.extended;
  decoded = (decoded_behind (pictures_in before) u.picture).picture;
  references = references_behind (pictures_in before) u.picture;
  forward = option_map link_to (forward_reference pic_of_frame (pic_of u.picture) before);
  backward = option_map link_to (backward_reference pic_of_frame (pic_of u.picture) before);
}

-- the frame of a unit behind other frames
unfoldable pub frame_behind : List UnitFrame → CodedUnit → UnitFrame
frame_behind before u =
    let parts = parts_behind before u in
    let seal = frame_seal parts in
    record {
      unit = u;
      decoded = decoded_behind (pictures_in before) u.picture;
      seal = seal;
      samples = frame_by parts seal;
    }

-- the frames of units
unfoldable pub frames_of : List CodedUnit → List UnitFrame
frames_of [] = []
frames_of (u ∷ before) = frame_behind (frames_of before) u ∷ frames_of before

-- their sample bytes in the order in which they are shown (H.262, 6.1.1.11)
abbrev pub shown_samples : List UnitFrame → List (List ℕ)
shown_samples frames = map (λ f. f.samples) (display_order pic_of_frame (reverse frames))

-- the header of the first frame's sequence, which is the last one here
abbrev pub header_of : UnitFrame → List UnitFrame → FrameHeader
header_of f [] = frame_header_of f.unit.accepted.heads.context
header_of f (g ∷ before) = header_of g before

-- The header line of the first frame's sequence, and the frames in the order in which they are shown; nothing where
-- there is none.
abbrev pub file_of : List UnitFrame → List ℕ
file_of [] = []
file_of (f ∷ before) = frame_file (header_of f before) (shown_samples (f ∷ before))

abbrev pub frame_file_of : List CodedUnit → List ℕ
frame_file_of units = file_of (frames_of units)

-- the header line and the first n frames of it
abbrev pub file_front : ℕ → List UnitFrame → List ℕ
file_front n [] = []
file_front n (f ∷ before) = frame_file (header_of f before) (take n (shown_samples (f ∷ before)))

-- frames one after another, as they stand in a file
abbrev pub bytes_of : List UnitFrame → List ℕ
bytes_of frames = flat_map frame (map (λ f. f.samples) frames)

-- What may be written as soon as a unit comes behind others: the header line before the first one, and the frame that is
-- shown then.
abbrev pub opening : List UnitFrame → UnitFrame → List ℕ
opening [] f = header_line (frame_header_of f.unit.accepted.heads.context)
opening (g ∷ before) f = []

abbrev pub gives : List UnitFrame → UnitFrame → List ℕ
gives before f = opening before f ++ bytes_of (shows pic_of_frame (held pic_of_frame before) f)

-- what is due as soon as these units came
unfoldable pub due_to : List UnitFrame → List ℕ
due_to [] = []
due_to (f ∷ before) = due_to before ++ gives before f

abbrev pub due : List CodedUnit → List ℕ
due units = due_to (frames_of units)

-- the frame of the anchor that is held then
abbrev pub held_frame : List CodedUnit → List ℕ
held_frame units = bytes_of (listed (held pic_of_frame (frames_of units)))

-- LAWS: the frame file of units is what is due to them, and then the frame that is held;
abbrev pub FileIsDueAndHeld : Type 0
FileIsDueAndHeld = (units : List CodedUnit) → frame_file_of units ≡ due units ++ held_frame units

-- what is due to units stays at the front of what is due to more;
abbrev pub DueGrows : Type 0
DueGrows =
    (more before : List CodedUnit) → (tail : List ℕ) × (due (more ++ before) ≡ due before ++ tail)

-- the pictures of the frames are those that the coded pictures decode to.
abbrev pub FramesHavePictures : Type 0
FramesHavePictures =
    (units : List CodedUnit)
    → pictures_in (frames_of units) ≡ pictures_of (map (λ u. u.picture) units)
