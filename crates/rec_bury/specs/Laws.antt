-- Laws of buried frames.
use Rattle.std.specs.Prelude.{◌≡◌, ℕ, ◌+◌, ◌*◌, ◌<◌, List, ◌++◌, length, slice_index, replicate}
use Rattle.sha2.specs.Sha256.{sha256}
use Rattle.mv_planes.specs.Planes.{Planes, IsWhole}
use Rattle.rec_bury.specs.FrameBytes.{unrecorded}
use Rattle.rec_bury.specs.Buried.{frame_of}
use Rattle.rec_bury.specs.Exhumed.{slots_in, sheet_in, source_of}
use Rattle.rec_bury.specs.Seals.{seal_of}

-- slots and a sheet for all macroblocks of a picture
pub record FitsPicture (slots sheet : List ℕ) (f : Planes) : Type 0 where
  pub slots_size : length slots ≡ 20 * (f.mb_wide * f.mb_high)
  pub sheet_size : length sheet ≡ 12 * (f.mb_wide * f.mb_high)
  pub slot_bytes : (i : ℕ) → slice_index slots i < 256
  pub sheet_bytes : (i : ℕ) → slice_index sheet i < 256

-- a frame has what was buried in it, and is a source of its picture
pub record ComesBack (f : Planes) (slots sheet : List ℕ) : Type 0 where
  pub same_slots : slots_in f.mb_wide f.mb_high (frame_of f slots sheet) ≡ slots
  pub same_sheet : sheet_in f.mb_wide f.mb_high (frame_of f slots sheet) ≡ sheet
  pub same_picture : source_of f.mb_wide f.mb_high (frame_of f slots sheet) ≡ f

abbrev pub BuriedComesBack : Type 0
BuriedComesBack = (f : Planes) (slots sheet : List ℕ)
    → IsWhole f → FitsPicture slots sheet f → ComesBack f slots sheet

-- the seal of a frame is the digest of the frame that has zeros in place of the seal, whatever stands there
abbrev pub SealIsOfZeros : Type 0
SealIsOfZeros = (f : Planes) (slots body seal : List ℕ)
    → length body + 32 ≡ 12 * (f.mb_wide * f.mb_high) → length seal ≡ 32
    → seal_of f.mb_wide f.mb_high (frame_of f slots (body ++ seal))
    ≡ sha256 (frame_of f slots (body ++ replicate 32 0))

-- with zeros in all slots and in the sheet, a frame is one without recoding data
abbrev pub ZerosAreUnrecorded : Type 0
ZerosAreUnrecorded = (f : Planes) (m n : ℕ)
    → IsWhole f → frame_of f (replicate m 0) (replicate n 0) ≡ unrecorded f
