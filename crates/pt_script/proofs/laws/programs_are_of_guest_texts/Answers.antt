use Rattle.pt_script.proofs.GuestTextLemmas.{programs_are_of_guest_texts}
use Rattle.pt_script.proofs.laws.programs_are_of_guest_texts.Goals as goal

pub returns : goal.returns
returns c = programs_are_of_guest_texts c.answers_are_of_their_texts.ensures
