use Rattle.law_stops.proofs.SwapLemmas.{swapped_calls_go_together}
use Rattle.law_stops.proofs.passing.swapped_calls_go_together.Goals as goal

pub returns : goal.returns
returns g c = swapped_calls_go_together c.texts_are_read_back.ensures c.shelves_hold_their_items.ensures _
