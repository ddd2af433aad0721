use Rattle.law_allowed.proofs.ChangeLemmas.{modest-last}
use Rattle.law_allowed.proofs.lasting.modest_changes_last.Goals as goal

pub returns : goal.returns
returns g c = modest-last _
