use Rattle.pt_script.proofs.ChainLemmas.{scripts_end}
use Rattle.pt_script.proofs.laws.scripts_end.Goals as goal

pub returns : goal.returns
returns c = scripts_end
