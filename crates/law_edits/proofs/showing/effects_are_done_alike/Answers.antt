use Rattle.law_edits.proofs.ShowingLemmas.{effects-are-done-alike}
use Rattle.law_edits.proofs.showing.effects_are_done_alike.Goals as goal

pub returns : goal.returns
returns c = effects-are-done-alike
