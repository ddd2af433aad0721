use Rattle.kr_hostview.proofs.WalkLemmas.{any-noted}
use Rattle.pt_first.proofs.peeks.Looker.head.Goals as goal

pub returns-in-Some-clause-noted : goal.returns-in-Some-clause-noted
returns-in-Some-clause-noted c = any-noted _ c.find.new.unmet c.head_of.result c.in_ok-object.ensures.noted
