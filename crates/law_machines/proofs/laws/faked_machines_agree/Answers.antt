use Rattle.law_machines.proofs.FakedAgreeLemmas.{faked_machines_agree}
use Rattle.law_machines.proofs.laws.faked_machines_agree.Goals as goal

pub returns : goal.returns
returns c = faked_machines_agree c.texts_are_read_back.ensures c.shelves_hold_their_items.ensures
