use Rattle.law_beside.proofs.ToldLemmas.{calls_know_layouts}
use Rattle.law_beside.proofs.calls.calls_know_layouts.Goals as goal

pub returns : goal.returns
returns c = calls_know_layouts
