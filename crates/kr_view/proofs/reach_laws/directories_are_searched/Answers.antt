use Rattle.kr_view.proofs.ArrivalLemmas.{directories_are_searched}
use Rattle.kr_view.proofs.reach_laws.directories_are_searched.Goals as goal

pub returns : goal.returns
returns c = directories_are_searched
