use Rattle.law_starts.proofs.RunLemmas.{runs-agree}
use Rattle.law_starts.proofs.finding.runs_agree.Goals as goal

pub returns : goal.returns
returns c = runs-agree
