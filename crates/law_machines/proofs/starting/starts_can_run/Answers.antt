use Rattle.law_machines.proofs.BeginLemmas.{starts-can-run}
use Rattle.law_machines.proofs.starting.starts_can_run.Goals as goal

pub returns : goal.returns
returns c = starts-can-run
