use Rattle.kr_calm.proofs.NotedLemmas.{lists_are_noted}
use Rattle.kr_calm.proofs.laws.lists_are_noted.Goals as goal

pub returns : goal.returns
returns c = lists_are_noted
