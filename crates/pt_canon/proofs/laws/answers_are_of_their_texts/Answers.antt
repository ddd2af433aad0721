use Rattle.pt_canon.proofs.EndingLemmas.{answers_are_of_their_texts}
use Rattle.pt_canon.proofs.laws.answers_are_of_their_texts.Goals as goal

pub returns : goal.returns
returns c = answers_are_of_their_texts
