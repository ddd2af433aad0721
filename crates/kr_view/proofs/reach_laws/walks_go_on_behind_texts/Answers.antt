use Rattle.kr_view.proofs.ArrivalLemmas.{walks_go_on_behind_texts}
use Rattle.kr_view.proofs.reach_laws.walks_go_on_behind_texts.Goals as goal

pub returns : goal.returns
returns c = walks_go_on_behind_texts
