use Rattle.rv_cpu.proofs.AlikeLemmas.{runs-alike}
use Rattle.rv_cpu.proofs.laws.runs_are_alike.Goals as goal

pub returns : goal.returns
returns c = runs-alike
