use Rattle.law_walks.proofs.StartLemmas.{living_links_are_small}
use Rattle.law_walks.proofs.start.living_links_are_small.Goals as goal

pub returns : goal.returns
returns c = living_links_are_small
