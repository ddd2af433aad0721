use Rattle.law_edits.proofs.ReadLemmas.{lists_are_read_alike}
use Rattle.law_edits.proofs.reading.lists_are_read_alike.Goals as goal

pub returns : goal.returns
returns c = lists_are_read_alike
