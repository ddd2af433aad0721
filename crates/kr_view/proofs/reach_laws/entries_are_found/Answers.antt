use Rattle.kr_view.proofs.ArrivalLemmas.{entries_are_found}
use Rattle.kr_view.proofs.reach_laws.entries_are_found.Goals as goal

pub returns : goal.returns
returns c = entries_are_found
