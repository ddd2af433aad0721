use Rattle.law_programs.proofs.RoomLemmas.{scripts_have_room}
use Rattle.law_programs.proofs.room.scripts_have_room.Goals as goal

pub returns : goal.returns
returns c = scripts_have_room
