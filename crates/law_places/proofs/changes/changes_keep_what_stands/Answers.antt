use Rattle.law_places.proofs.ChangeLemmas.{changes_keep_what_stands}
use Rattle.law_places.proofs.changes.changes_keep_what_stands.Goals as goal

pub returns : goal.returns
returns c = changes_keep_what_stands
