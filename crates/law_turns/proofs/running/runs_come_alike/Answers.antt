use Rattle.law_turns.proofs.ComeLemmas.{runs_come_alike}
use Rattle.law_turns.proofs.running.runs_come_alike.Goals as goal

pub returns : goal.returns
returns g c = runs_come_alike _ _ _
