use Rattle.law_starts.proofs.ScriptLemmas.{scripts-agree}
use Rattle.law_starts.proofs.finding.scripts_agree.Goals as goal

pub returns : goal.returns
returns c = scripts-agree
