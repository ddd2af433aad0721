use Rattle.pt_tracer.proofs.TracerLemmas.{come_and_go}
use Rattle.pt_tracer.proofs.laws.come_and_go.Goals as goal

pub returns : goal.returns
returns c = come_and_go
