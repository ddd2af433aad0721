use Rattle.law_turns.proofs.LastLemmas.{quiet_turns_go_together}
use Rattle.law_turns.proofs.running.quiet_turns_go_together.Goals as goal

pub returns : goal.returns
returns g c = quiet_turns_go_together _ _
