use Rattle.kr_hostview.proofs.WalkLemmas.{any-noted}
use Rattle.kr_hostview.proofs.peeks.link_text.Goals as goal

pub returns-in-Some-clause-noted : goal.returns-in-Some-clause-noted
returns-in-Some-clause-noted g c = any-noted _ c.find.new.unmet c.text_of.result c.in_ok-object.ensures.noted
