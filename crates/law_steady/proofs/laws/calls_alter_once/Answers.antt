use Rattle.law_steady.proofs.CallLemmas.{calls_alter_once}
use Rattle.law_steady.proofs.laws.calls_alter_once.Goals as goal

pub returns : goal.returns
returns c = calls_alter_once
