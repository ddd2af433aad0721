use Rattle.law_programs.proofs.StandLemmas.{shelved_scripts_stand}
use Rattle.law_programs.proofs.shelves.shelved_scripts_stand.Goals as goal

pub returns : goal.returns
returns c = shelved_scripts_stand c.shelves_hold_their_items.ensures
