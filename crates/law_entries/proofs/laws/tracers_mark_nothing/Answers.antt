use Rattle.law_entries.proofs.MarkLemmas.{tracers-mark-nothing}
use Rattle.law_entries.proofs.laws.tracers_mark_nothing.Goals as goal

pub returns : goal.returns
returns c = tracers-mark-nothing
