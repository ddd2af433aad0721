use Rattle.law_execves.proofs.ToldLemmas.{faked_execves_go_together}
use Rattle.law_execves.proofs.told.faked_execves_go_together.Goals as goal

pub returns : goal.returns
returns c = faked_execves_go_together c.texts_are_read_back.ensures c.shelves_hold_their_items.ensures
