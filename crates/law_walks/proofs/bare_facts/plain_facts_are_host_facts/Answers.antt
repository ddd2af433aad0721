use Rattle.law_walks.proofs.BareFactLemmas.{plain_facts_are_host_facts}
use Rattle.law_walks.proofs.bare_facts.plain_facts_are_host_facts.Goals as goal

pub returns : goal.returns
returns g c = plain_facts_are_host_facts _
