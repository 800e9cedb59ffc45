use Rattle.mv_units.proofs.RoomLaws.{more_room_is_free}
use Rattle.mv_units.proofs.laws.more_room_law.Goals as goal

pub returns : goal.returns
returns c = more_room_is_free
