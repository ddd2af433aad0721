use Rattle.kr_view.proofs.HostReachLemmas.{reaches_go_by_names}
use Rattle.kr_view.proofs.reach_laws.reaches_go_by_names.Goals as goal

pub returns : goal.returns
returns c = reaches_go_by_names
