use Rattle.kr_model.specs.Images.{Passes}
use Rattle.kr_model.proofs.ProcessLemmas.{processes_alike}
use Rattle.kr_model.proofs.laws.processes_stay_alike.Goals as goal

pub returns : goal.returns
returns g c = λ related inherited mounts others pid change s t whole h. processes_alike (Passes related) inherited mounts others pid s t h change whole
