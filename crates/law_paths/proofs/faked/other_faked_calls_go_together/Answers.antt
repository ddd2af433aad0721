use Rattle.law_paths.proofs.FakedOtherLemmas.{other_faked_calls_go_together}
use Rattle.law_paths.proofs.faked.other_faked_calls_go_together.Goals as goal

pub returns : goal.returns
returns c = other_faked_calls_go_together c.texts_are_read_back.ensures c.shelves_hold_their_items.ensures
