use Rattle.pt_script.proofs.RunLemmas.{programs_run_by_chains}
use Rattle.pt_script.proofs.laws.programs_run_by_chains.Goals as goal

pub returns : goal.returns
returns c = programs_run_by_chains
