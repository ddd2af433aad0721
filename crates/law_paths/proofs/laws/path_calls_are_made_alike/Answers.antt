use Rattle.law_paths.proofs.JoinLemmas.{path_calls_are_made_alike}
use Rattle.law_paths.proofs.laws.path_calls_are_made_alike.Goals as goal

pub returns : goal.returns
returns g c = path_calls_are_made_alike c.texts_are_read_back.ensures c.shelves_hold_their_items.ensures _
