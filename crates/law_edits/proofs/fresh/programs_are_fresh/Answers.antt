use Rattle.law_edits.proofs.FreshLemmas.{programs_are_fresh}
use Rattle.law_edits.proofs.fresh.programs_are_fresh.Goals as goal

pub returns : goal.returns
returns c = programs_are_fresh
