use Rattle.law_machines.proofs.FakedStartLemmas.{faked-starts-can-run}
use Rattle.law_machines.proofs.starting.faked_starts_can_run.Goals as goal

pub returns : goal.returns
returns c = faked-starts-can-run
