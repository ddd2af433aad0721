use Rattle.kr_turns.proofs.StepLemmas.{calls-are-three-steps}
use Rattle.kr_turns.proofs.laws.calls_are_three_steps.Goals as goal

pub returns : goal.returns
returns g c = calls-are-three-steps _
