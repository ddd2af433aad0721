use Rattle.pt_tracer.proofs.TracerLemmas.{entries_forget}
use Rattle.pt_tracer.proofs.laws.entries_forget.Goals as goal

pub returns : goal.returns
returns c = entries_forget
