use Rattle.law_edits.proofs.ShowingLemmas.{owners-are-shown-alike}
use Rattle.law_edits.proofs.showing.owners_are_shown_alike.Goals as goal

pub returns : goal.returns
returns c = owners-are-shown-alike
