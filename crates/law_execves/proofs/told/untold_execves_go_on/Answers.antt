use Rattle.law_execves.proofs.ToldLemmas.{untold_execves_go_on}
use Rattle.law_execves.proofs.told.untold_execves_go_on.Goals as goal

pub returns : goal.returns
returns c = untold_execves_go_on c.texts_are_read_back.ensures c.shelves_hold_their_items.ensures
