use Rattle.law_walks.proofs.StartLemmas.{host_views_are_settled}
use Rattle.law_walks.proofs.start.host_views_are_settled.Goals as goal

pub returns : goal.returns
returns c = host_views_are_settled
