use Rattle.law_starts.proofs.CommandLemmas.{commands-agree}
use Rattle.law_starts.proofs.finding.commands_agree.Goals as goal

pub returns : goal.returns
returns c = commands-agree
