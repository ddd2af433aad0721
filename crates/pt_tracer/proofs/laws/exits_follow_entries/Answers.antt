use Rattle.pt_tracer.proofs.TracerLemmas.{exits_follow_entries}
use Rattle.pt_tracer.proofs.laws.exits_follow_entries.Goals as goal

pub returns : goal.returns
returns c = exits_follow_entries
