use Rattle.law_edits.proofs.SwapLemmas.{swapped_here}
use Rattle.law_edits.proofs.stops.swapped_calls_are_decoded.Goals as goal

pub returns : goal.returns
returns c = λ t m r first second can. swapped_here c.texts_are_read_back.ensures c.shelves_hold_their_items.ensures t m r first second can
