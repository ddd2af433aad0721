use Rattle.law_walks.proofs.SightLemmas.{plain_sight_is_bare}
use Rattle.law_walks.proofs.bare_facts.plain_sight_is_bare.Goals as goal

pub returns : goal.returns
returns c = plain_sight_is_bare
