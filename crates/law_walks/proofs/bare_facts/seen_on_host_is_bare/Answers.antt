use Rattle.law_walks.proofs.BareFactLemmas.{seen_on_host_is_bare}
use Rattle.law_walks.proofs.bare_facts.seen_on_host_is_bare.Goals as goal

pub returns : goal.returns
returns c = seen_on_host_is_bare
