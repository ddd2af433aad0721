use Rattle.law_machines.proofs.GrownLemmas.{settled-trees-have-bytes}
use Rattle.law_machines.proofs.given.settled_trees_have_bytes.Goals as goal

pub returns : goal.returns
returns c = settled-trees-have-bytes
