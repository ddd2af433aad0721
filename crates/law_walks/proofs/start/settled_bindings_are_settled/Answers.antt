use Rattle.law_walks.proofs.StartLemmas.{settled_bindings_are_settled}
use Rattle.law_walks.proofs.start.settled_bindings_are_settled.Goals as goal

pub returns : goal.returns
returns c = settled_bindings_are_settled
