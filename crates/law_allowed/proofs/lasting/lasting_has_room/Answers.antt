use Rattle.law_allowed.proofs.RoomLemmas.{lasting-room}
use Rattle.law_allowed.proofs.lasting.lasting_has_room.Goals as goal

pub returns : goal.returns
returns g c = lasting-room _ _
