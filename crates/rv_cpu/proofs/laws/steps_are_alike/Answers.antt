use Rattle.rv_cpu.proofs.AlikeLemmas.{steps-alike}
use Rattle.rv_cpu.proofs.laws.steps_are_alike.Goals as goal

pub returns : goal.returns
returns c = steps-alike
