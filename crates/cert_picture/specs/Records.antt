-- What the frame of a picture carries: the record of how the picture was coded, from which it can be coded again
-- (docs/FRAME-FILES.md), and whether its slices are certified to come back.
use Rattle.std.specs.Prelude.{ℕ, ◌+◌, ◌*◌, Bool, not, ◌&&◌, nat_le, if◌then◌else◌, List, bytes_eq, length, replicate, Option, None, Some, is_some, unwrap_or}
use Rattle.std.specs.List.{flat_map}
use Rattle.sha2.specs.Sha256.{sha256}
use Rattle.mv_terms.specs.declared.macroblock.Decision.{Decision}
use Rattle.mv_terms.specs.declared.macroblock.MacroLevels.{MacroLevels}
use Rattle.mv_terms.specs.UnitLists.{UnitLists}
use Rattle.mv_terms.specs.CodedPicture.{CodedPicture, frame_macroblocks, pic_of}
use Rattle.mv_planes.specs.Planes.{Planes}
use Rattle.mv_planes.specs.References.{References}
use Rattle.mv_slices.specs.Canonical.{canonical_slices, canonical_tail}
use Rattle.cert_requant.specs.Requantised.{requantised}
use Rattle.rec_slot.specs.Slot.{slot_of}
use Rattle.rec_slot.specs.Directions.{uses_forward}
use Rattle.rec_sheet.specs.Sheets.{SheetLists, sheet_of}
use Rattle.rec_bury.specs.Buried.{frame_of}
use Rattle.rec_bury.specs.FrameBytes.{unrecorded}

-- What a frame is made from: the unit of its picture, the picture as it is coded, the bytes of the sequence part in
-- force, whether a quant matrix extension is in force, what the picture decodes to and from which references, and the
-- links to the frames that it refers to forward and backward, where there are such frames.
pub record FrameParts : Type 0 where
  pub lists : UnitLists
  pub picture : CodedPicture
  pub context : List ℕ
  pub extended : Bool
  pub decoded : Planes
  pub references : References
  pub forward : Option (List ℕ)
  pub backward : Option (List ℕ)

-- ---- which pictures have a record, and which are certified

-- the greatest length of a part in a sheet, and the greatest number of zero bytes
abbrev pub longest_part : ℕ
longest_part = 65535

abbrev pub most_zeros : ℕ
most_zeros = 16777215

-- the zero bytes behind the end code, none where there is no end code
abbrev pub zeros_behind_end : UnitLists → ℕ
zeros_behind_end lists = unwrap_or lists.end 0

-- A picture has a record where no quant matrix extension is in force, and what the record says fits the sheet.
abbrev pub is_recordable : FrameParts → Bool
is_recordable p =
    not p.extended
    && nat_le (length p.context) longest_part
    && nat_le (length p.lists.prefix) longest_part
    && nat_le (length p.lists.head) longest_part
    && nat_le p.lists.zeros most_zeros
    && nat_le (zeros_behind_end p.lists) most_zeros
    && nat_le
    (118 + length p.context + length p.lists.prefix + length p.lists.head)
    (12 * frame_macroblocks p.picture.head)

-- These levels, coded anew with the decisions of the picture, are its slices, and the zero bytes behind them hold their
-- tail.
abbrev pub are_slices_of : FrameParts → List MacroLevels → Bool
are_slices_of p levels =
    bytes_eq (canonical_slices p.picture.head p.picture.decisions levels) p.lists.slices
    && nat_le (canonical_tail p.picture.head p.picture.decisions levels) p.lists.zeros

-- The slices come back from the samples alone: the levels nearest to what was decoded are coded as they are.
abbrev pub returns_slices : FrameParts → Bool
returns_slices p =
    are_slices_of p (requantised p.picture.head p.picture.decisions p.decoded p.references)

abbrev pub is_certified : FrameParts → Bool
is_certified p = is_recordable p && returns_slices p

-- ---- the record

-- a bit of the flags
abbrev pub flag : Bool → ℕ → ℕ
flag set value = if set then value else 0

abbrev pub flags_of : FrameParts → ℕ
flags_of p =
    flag (is_certified p) 1
    + flag (uses_forward (pic_of p.picture) p.picture.decisions) 2
    + flag (is_some p.forward) 4
    + flag (is_some p.backward) 8
    + flag (is_some p.lists.end) 16

-- what stands in place of the seal of a frame that has none
abbrev pub no_seal : List ℕ
no_seal = replicate 32 0

-- what the sheet says
abbrev pub sheet_lists : FrameParts → SheetLists
sheet_lists p = record {
  pic = pic_of p.picture;
  flags = flags_of p;
  forward = unwrap_or p.forward no_seal;
  backward = unwrap_or p.backward no_seal;
  n1 = p.lists.zeros;
  n2 = zeros_behind_end p.lists;
  context = p.context;
  prefix = p.lists.prefix;
  head = p.lists.head;
}

-- the slots of all macroblocks
abbrev pub slots_of : List Decision → List ℕ
slots_of decisions = flat_map slot_of decisions

-- the sheet and the frame with this seal
abbrev pub sheet_with : FrameParts → List ℕ → List ℕ
sheet_with p seal = sheet_of (sheet_lists p) (12 * frame_macroblocks p.picture.head) seal

abbrev pub frame_with : FrameParts → List ℕ → List ℕ
frame_with p seal = frame_of p.decoded (slots_of p.picture.decisions) (sheet_with p seal)

-- The seal of the frame, where it has a record: the digest of the frame whose seal is all zeros.
unfoldable pub frame_seal : FrameParts → Option (List ℕ)
frame_seal p = if is_recordable p then Some (sha256 (frame_with p no_seal)) else None

-- the sample bytes of the frame: with its record, or with nothing in the low bits
abbrev pub frame_by : FrameParts → Option (List ℕ) → List ℕ
frame_by p None = unrecorded p.decoded
frame_by p (Some seal) = frame_with p seal

abbrev pub frame_samples : FrameParts → List ℕ
frame_samples p = frame_by p (frame_seal p)
