-- What the frame of a picture tells of it: the record that was buried in it, and whether the picture is certified.
use Rattle.std.specs.Prelude.{◌≡◌, ◌↔◌, ℕ, ◌%◌, true, List, length, IfSome}
use Rattle.mv_bits.specs.Writing.{AreBytes}
use Rattle.mv_terms.specs.Ranges.{IsHead}
use Rattle.mv_macro.specs.Legal.{AreLegalDecisions}
use Rattle.mv_planes.specs.Planes.{IsWhole}
use Rattle.mv_predict.specs.Blocks.{HasSizeOf}
use Rattle.mv_slices.specs.Slices.{Slices}
use Rattle.mv_slices.specs.Canonical.{settled}
use Rattle.cert_requant.specs.Requantised.{requantised}
use Rattle.rec_sheet.specs.Sheets.{SheetLists, IsSheet}
use Rattle.rec_bury.specs.Exhumed.{slots_in, sheet_in, source_of}
use Rattle.rec_bury.specs.Seals.{SealHolds}
use Rattle.cert_picture.specs.Records.{FrameParts, frame_samples, is_certified, is_recordable, returns_slices, sheet_lists, slots_of}

-- a seal, or what stands in place of one
pub record IsLink (link : List ℕ) : Type 0 where
  pub size : length link ≡ 32
  pub bytes : AreBytes link

-- what a frame is made from, as decoding gives it
pub record AreDecoded (p : FrameParts) : Type 0 where
  pub head : IsHead p.picture.head
  pub decisions : AreLegalDecisions p.picture.head p.picture.decisions
  pub whole : IsWhole p.decoded
  pub size : HasSizeOf p.picture.head p.decoded
  pub context_bytes : AreBytes p.context
  pub prefix_bytes : AreBytes p.lists.prefix
  pub head_bytes : AreBytes p.lists.head
  pub forward : IfSome p.forward IsLink
  pub backward : IfSome p.backward IsLink

-- the slots and the sheet that are found in the frame
abbrev pub slots_found : FrameParts → List ℕ
slots_found p = slots_in p.decoded.mb_wide p.decoded.mb_high (frame_samples p)

abbrev pub sheet_found : FrameParts → List ℕ
sheet_found p = sheet_in p.decoded.mb_wide p.decoded.mb_high (frame_samples p)

-- LAWS: a frame is a source of its picture;
abbrev pub PictureComesBack : Type 0
PictureComesBack = (p : FrameParts) → AreDecoded p
    → source_of p.decoded.mb_wide p.decoded.mb_high (frame_samples p) ≡ p.decoded

-- where the picture has a record, this is found in the frame, and the seal holds;
pub record HasRecord (p : FrameParts) : Type 0 where
  pub slots : slots_found p ≡ slots_of p.picture.decisions
  pub sheet : IsSheet (sheet_lists p) (sheet_found p)
  pub seal : SealHolds p.decoded.mb_wide p.decoded.mb_high (frame_samples p)

abbrev pub RecordComesBack : Type 0
RecordComesBack = (p : FrameParts) → AreDecoded p → is_recordable p ≡ true → HasRecord p

-- no other sheet is found in a frame, so none where the picture has no record;
abbrev pub OnlyRecordIsFound : Type 0
OnlyRecordIsFound = (p : FrameParts) (s : SheetLists) → AreDecoded p
    → IsSheet s (sheet_found p) → (is_recordable p ≡ true) × (s ≡ sheet_lists p)

-- and the first flag of a sheet that is found is set exactly where the picture is certified.
abbrev pub FlagTellsCertified : Type 0
FlagTellsCertified = (p : FrameParts) (s : SheetLists) → AreDecoded p
    → IsSheet s (sheet_found p) → (s.flags % 2 ≡ 1) ↔ (is_certified p ≡ true)

-- Where the slices come back, the levels nearest to what was decoded are those of the picture, and its decisions are
-- settled.
pub record ComesFromSamples (p : FrameParts) : Type 0 where
  pub levels : requantised p.picture.head p.picture.decisions p.decoded p.references
      ≡ p.picture.levels
  pub decisions : settled p.picture.head p.picture.decisions p.picture.levels ≡ p.picture.decisions

abbrev pub CertifiedComesFromSamples : Type 0
CertifiedComesFromSamples = (p : FrameParts)
    → IsHead p.picture.head → AreLegalDecisions p.picture.head p.picture.decisions
    → Slices p.picture.head p.lists.slices p.picture.decisions p.picture.levels
    → returns_slices p ≡ true → ComesFromSamples p
