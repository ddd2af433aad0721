use Rattle.pt_args.proofs.ShelfLemmas.{shelves_hold_their_items}
use Rattle.pt_args.proofs.laws.shelves_hold_their_items.Goals as goal

pub returns : goal.returns
returns c = shelves_hold_their_items
