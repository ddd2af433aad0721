use Rattle.pt_tracer.proofs.TracerLemmas.{others_stay}
use Rattle.pt_tracer.proofs.laws.others_stay.Goals as goal

pub returns : goal.returns
returns c = others_stay
