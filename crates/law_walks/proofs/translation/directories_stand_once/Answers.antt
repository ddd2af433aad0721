use Rattle.law_walks.proofs.StandingLemmas.{directories_stand_once}
use Rattle.law_walks.proofs.translation.directories_stand_once.Goals as goal

pub returns : goal.returns
returns c = directories_stand_once
