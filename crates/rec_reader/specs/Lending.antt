-- How a reader comes back that lent a record.
use Rattle.std.specs.Prelude.{◌≡◌}
use Rattle.std.specs.Borrow.{MutBor, Fml}
use Rattle.std.specs.Io.BufRead.{Rests}
use Rattle.mv_terms.specs.declared.frame_header.FrameHeader.{FrameHeader}
use Rattle.rec_reader.specs.declared.room.Room.{Room}
use Rattle.rec_reader.specs.contracts.room.Room.{the_row as room_row}
use Rattle.rec_reader.specs.contracts.reader.RecordReader.{the_row}
use Rattle.rec_reader.specs.Room.{HasRoom}

-- it reads the frames of the same file
abbrev pub StaysSame : MutBor FrameHeader → Fml
StaysSame reader = Rests the_row reader (λ left. left ≡ reader.now)

-- and its room is still for these
abbrev pub KeepsRoom : FrameHeader → MutBor Room → Fml
KeepsRoom file room = Rests room_row room (λ left. HasRoom file left)
