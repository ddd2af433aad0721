use Rattle.law_machines.proofs.FakedLemmas.{fakers_watch}
use Rattle.law_machines.proofs.laws.fakers_watch.Goals as goal

pub returns : goal.returns
returns c = fakers_watch
