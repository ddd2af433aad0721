use Rattle.pt_results.proofs.NoteLemmas.{notes_change_one_slot}
use Rattle.pt_results.proofs.laws.notes_change_one_slot.Goals as goal

pub returns : goal.returns
returns c = notes_change_one_slot
