use Rattle.law_edits.proofs.CwdLemmas.{cwds_are_answered_alike}
use Rattle.law_edits.proofs.answers.cwds_are_answered_alike.Goals as goal

pub returns : goal.returns
returns c = cwds_are_answered_alike
