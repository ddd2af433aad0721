use Rattle.law_edits.proofs.CwdLemmas.{working_texts_are_names}
use Rattle.law_edits.proofs.answers.working_texts_are_names.Goals as goal

pub returns : goal.returns
returns g c = working_texts_are_names _
