use Rattle.kr_view.proofs.ArrivalLemmas.{texts_are_found}
use Rattle.kr_view.proofs.reach_laws.texts_are_found.Goals as goal

pub returns : goal.returns
returns c = texts_are_found
