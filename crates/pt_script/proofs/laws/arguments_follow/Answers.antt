use Rattle.pt_script.proofs.ArgumentLemmas.{arguments_follow}
use Rattle.pt_script.proofs.laws.arguments_follow.Goals as goal

pub returns : goal.returns
returns c = arguments_follow
