use Rattle.law_execves.proofs.FollowLemmas.{execves_go_together}
use Rattle.law_execves.proofs.following.execves_go_together.Goals as goal

pub returns : goal.returns
returns g c = execves_go_together c.texts_are_read_back.ensures c.shelves_hold_their_items.ensures _
