use Rattle.kr_turns.proofs.TargetLemmas.{targets-are-told}
use Rattle.kr_turns.proofs.laws.targets_are_told.Goals as goal

pub returns : goal.returns
returns c = targets-are-told
