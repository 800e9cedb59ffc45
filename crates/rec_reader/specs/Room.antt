-- The room of a reader of records.
use Rattle.std.specs.Prelude.{◌≡◌, ℕ, ◌*◌, ◌/◌, length}
use Rattle.mv_terms.specs.declared.frame_header.FrameHeader.{FrameHeader}
use Rattle.rec_reader.specs.declared.room.Room.{Room}

-- the macroblocks of a frame of a file
abbrev pub file_macroblocks : FrameHeader → ℕ
file_macroblocks file = file.wide / 16 * (file.high / 16)

-- room for the slots, the sheet and the decisions of a frame of this file
pub record HasRoom (file : FrameHeader) (r : Room) : Type 0 where
  pub slots : length r.slots.items ≡ 20 * file_macroblocks file
  pub sheet : length r.sheet.items ≡ 12 * file_macroblocks file
  pub decisions : length r.decisions.items ≡ file_macroblocks file
