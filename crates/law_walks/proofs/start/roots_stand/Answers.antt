use Rattle.law_walks.proofs.StandingLemmas.{roots_stand}
use Rattle.law_walks.proofs.start.roots_stand.Goals as goal

pub returns : goal.returns
returns c = roots_stand
