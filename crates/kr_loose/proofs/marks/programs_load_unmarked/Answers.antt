use Rattle.kr_loose.proofs.MarkCallLemmas.{programs-load-unmarked}
use Rattle.kr_loose.proofs.marks.programs_load_unmarked.Goals as goal

pub returns : goal.returns
returns c = programs-load-unmarked
