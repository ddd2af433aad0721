use Rattle.law_walks.proofs.BareFactLemmas.{facts_are_bare}
use Rattle.law_walks.proofs.bare_facts.facts_are_bare.Goals as goal

pub returns : goal.returns
returns c = facts_are_bare
