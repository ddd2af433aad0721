use Rattle.law_edits.proofs.ReadLemmas.{shown_lists_are_read_alike}
use Rattle.law_edits.proofs.reading.shown_lists_are_read_alike.Goals as goal

pub returns : goal.returns
returns c = shown_lists_are_read_alike
