use Rattle.kr_model.proofs.ToldLemmas.{told_names_are_texts}
use Rattle.kr_model.proofs.laws.told_names_are_texts.Goals as goal

pub returns : goal.returns
returns g c = told_names_are_texts
