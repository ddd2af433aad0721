use Rattle.law_programs.proofs.RoomLemmas.{script_texts_are_path_texts}
use Rattle.law_programs.proofs.room.script_texts_are_path_texts.Goals as goal

pub returns : goal.returns
returns c = script_texts_are_path_texts
