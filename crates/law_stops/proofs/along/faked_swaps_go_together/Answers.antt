use Rattle.law_stops.proofs.KindLemmas.{faked_swaps_go_together}
use Rattle.law_stops.proofs.along.faked_swaps_go_together.Goals as goal

pub returns : goal.returns
returns c = faked_swaps_go_together c.texts_are_read_back.ensures c.shelves_hold_their_items.ensures
