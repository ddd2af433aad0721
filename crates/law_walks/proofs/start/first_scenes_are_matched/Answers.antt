use Rattle.law_walks.proofs.StartLemmas.{first_scenes_are_matched}
use Rattle.law_walks.proofs.start.first_scenes_are_matched.Goals as goal

pub returns : goal.returns
returns c = first_scenes_are_matched
