use Rattle.law_machines.proofs.TurnLemmas.{whole_turns_go_together}
use Rattle.law_machines.proofs.laws.whole_turns_go_together.Goals as goal

pub returns : goal.returns
returns g c = whole_turns_go_together c.texts_are_read_back.ensures c.shelves_hold_their_items.ensures _
