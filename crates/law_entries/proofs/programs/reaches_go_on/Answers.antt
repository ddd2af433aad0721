use Rattle.law_entries.proofs.ExecveBytes.{reaches-go-on}
use Rattle.law_entries.proofs.programs.reaches_go_on.Goals as goal

pub returns : goal.returns
returns c = reaches-go-on
