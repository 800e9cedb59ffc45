-- What is lent for a frame: what it is made from, and room for its record.
use Rattle.std.specs.Prelude.{◌≡◌, ℕ, ◌*◌, length}
use Rattle.mv_terms.specs.UnitLists.{lent_unit}
use Rattle.mv_planes.specs.declared.coded.Coded.{Coded}
use Rattle.mv_planes.specs.References.{references_lent}
use Rattle.cert_picture.specs.declared.frame.FrameRoom.{FrameRoom}
use Rattle.cert_picture.specs.declared.frame.StreamParts.{StreamParts}
use Rattle.cert_picture.specs.Certifying.{coded_lent}
use Rattle.cert_picture.specs.Records.{FrameParts}

-- what a frame is made from
abbrev pub lent_parts : Coded → StreamParts → FrameParts
lent_parts coded stream = record {
  lists = lent_unit stream.unit;
  picture = coded_lent coded;
  context = stream.context.now;
  extended = coded.extended;
  decoded = coded.picture.now;
  references = references_lent coded.refs;
  forward = stream.forward;
  backward = stream.backward;
}

-- room for the record of a picture of so many macroblocks
pub record HasRoomFor (count : ℕ) (room : FrameRoom) : Type 0 where
  pub slots : length room.slots.items ≡ 20 * count
  pub sheet : length room.sheet.items ≡ 12 * count
