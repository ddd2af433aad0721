use Rattle.law_programs.proofs.RoomLemmas.{scripts_are_shelved}
use Rattle.law_programs.proofs.room.scripts_are_shelved.Goals as goal

pub returns : goal.returns
returns c = scripts_are_shelved
