use Rattle.law_programs.proofs.RoomLemmas.{scripts_keep_the_limits}
use Rattle.law_programs.proofs.room.scripts_keep_the_limits.Goals as goal

pub returns : goal.returns
returns c = scripts_keep_the_limits
