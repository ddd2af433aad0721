use Rattle.law_places.proofs.ChangeLemmas.{quiet_changes_keep_places}
use Rattle.law_places.proofs.changes.quiet_changes_keep_places.Goals as goal

pub returns : goal.returns
returns c = quiet_changes_keep_places
