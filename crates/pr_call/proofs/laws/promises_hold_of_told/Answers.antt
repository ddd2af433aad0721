use Rattle.pr_call.proofs.TellingLemmas.{promises_hold_of_told}
use Rattle.pr_call.proofs.laws.promises_hold_of_told.Goals as goal

pub returns : goal.returns
returns c = promises_hold_of_told c.sources_that_tell_agree.ensures
