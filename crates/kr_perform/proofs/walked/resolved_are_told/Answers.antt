use Rattle.kr_perform.proofs.WalkedLemmas.{resolved_are_told}
use Rattle.kr_perform.proofs.walked.resolved_are_told.Goals as goal

pub returns : goal.returns
returns g c = resolved_are_told
