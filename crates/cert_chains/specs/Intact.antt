-- Frames of a file that are still those of pictures of a stream, with all that these depend on in their places.
use Rattle.std.specs.Prelude.{◌≡◌, ◌≢◌, ℕ, Bool, true, false, List, [], ◌∷◌, Option, None, Some, slice_get}
use Rattle.mv_terms.specs.declared.head.PicType.{PicType}
use Rattle.mv_terms.specs.declared.head.PicType.TheVariants.{B}
use Rattle.mv_terms.specs.CodedPicture.{pic_of}
use Rattle.mv_terms.specs.Order.{forward_reference, backward_reference}
use Rattle.mv_units.specs.Profile.{CodedUnit}
use Rattle.mv_decode.specs.Accepted.{AreAcceptedUnits}
use Rattle.rec_slot.specs.Directions.{uses_forward}
use Rattle.rec_legal.specs.Conditions.{file_size}
use Rattle.cert_picture.specs.Records.{FrameParts, is_certified}
use Rattle.cert_picture.specs.FrameFileOf.{UnitFrame, frame_behind, frames_of, parts_behind}
use Rattle.enc_guided.specs.Recoded.{Recoding}
use Rattle.cert_chains.specs.Planned.{anchor_in, nearest_anchor, group_anchor}

-- A picture of a stream: its unit, and the units before it, the latest first.
pub record StreamPicture : Type 0 where
  pub unit : CodedUnit
  pub before : List CodedUnit

-- the pictures of these units
abbrev pub pictures_in_stream : List CodedUnit → List StreamPicture
pictures_in_stream [] = []
pictures_in_stream (u ∷ before) =
    record { unit = u; before = before } ∷ pictures_in_stream before

abbrev pub type_in_stream : StreamPicture → PicType
type_in_stream p = pic_of p.unit.picture

-- its units were accepted
abbrev pub IsAccepted : StreamPicture → Type 0
IsAccepted p = AreAcceptedUnits (p.unit ∷ p.before)

-- the pictures that it refers to (H.262, 7.6.2)
abbrev pub forward_in_stream : StreamPicture → Option StreamPicture
forward_in_stream p =
    forward_reference type_in_stream (type_in_stream p) (pictures_in_stream p.before)

abbrev pub backward_in_stream : StreamPicture → Option StreamPicture
backward_in_stream p =
    backward_reference type_in_stream (type_in_stream p) (pictures_in_stream p.before)

-- whether it uses the forward one
abbrev pub uses_forward_in_stream : StreamPicture → Bool
uses_forward_in_stream p = uses_forward (type_in_stream p) p.unit.picture.decisions

-- its frame, and what this is made from
abbrev pub frame_in_stream : StreamPicture → UnitFrame
frame_in_stream p = frame_behind (frames_of p.before) p.unit

abbrev pub parts_in_stream : StreamPicture → FrameParts
parts_in_stream p = parts_behind (frames_of p.before) p.unit

-- Frame i of a file has the sample bytes of this picture, in the size of its stream.
pub record Holds (r : Recoding) (frames : List (List ℕ)) (i : ℕ) (p : StreamPicture)
    : Type 0 where
  pub size : file_size r.header ≡ p.unit.accepted.heads.first
  pub frame : slice_get frames i ≡ Some (frame_in_stream p).samples

mutual
  -- Frame i is intact as a picture that is certified: it holds it, and all that the picture depends on is intact in its
  -- place.
  pub data Intact (r : Recoding) (frames : List (List ℕ)) : ℕ → StreamPicture → Type 0 where
    intact : {i : ℕ} {p : StreamPicture} → Holds r frames i p
        → is_certified (parts_in_stream p) ≡ true
        → HasForward r frames i p → HasBackward r frames i p → Intact r frames i p

  -- The forward reference, where it is used: the nearest anchor before the frame is intact as it; or there is none, and
  -- the picture had none.
  pub data HasForward (r : Recoding) (frames : List (List ℕ)) : ℕ → StreamPicture → Type 0 where
    unused : {i : ℕ} {p : StreamPicture} → uses_forward_in_stream p ≡ false
        → HasForward r frames i p
    forward_kept : {i a : ℕ} {p f : StreamPicture} → nearest_anchor r frames i ≡ Some a
        → forward_in_stream p ≡ Some f → Intact r frames a f → HasForward r frames i p
    forward_missing : {i : ℕ} {p : StreamPicture} → nearest_anchor r frames i ≡ None
        → forward_in_stream p ≡ None → HasForward r frames i p

  -- The backward reference of a B picture, whether it is used or not: the frame is a B of the plan, and the anchor of its
  -- group is intact as it.
  pub data HasBackward (r : Recoding) (frames : List (List ℕ)) : ℕ → StreamPicture → Type 0 where
    not_b : {i : ℕ} {p : StreamPicture} → type_in_stream p ≢ B → HasBackward r frames i p
    backward_kept : {i a : ℕ} {p b : StreamPicture} → anchor_in r frames i ≡ false
        → group_anchor r frames i ≡ Some a → backward_in_stream p ≡ Some b
        → Intact r frames a b → HasBackward r frames i p
