use Rattle.law_stops.proofs.ProgramLemmas.{programs_read_no_mark}
use Rattle.law_stops.proofs.calling.programs_read_no_mark.Goals as goal

pub returns : goal.returns
returns c = programs_read_no_mark
