use Rattle.law_places.proofs.ChangeLemmas.{changes_keep_places}
use Rattle.law_places.proofs.changes.changes_keep_places.Goals as goal

pub returns : goal.returns
returns c = changes_keep_places
