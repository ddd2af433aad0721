use Rattle.kr_hostview.proofs.WalkLemmas.{is-found}
use Rattle.pt_first.specs.FirstPeeks.{answer_along}
use Rattle.pt_first.proofs.peeks.Looker.find.Goals as goal

pub returns-in-Ok-clause-found : goal.returns-in-Ok-clause-found
returns-in-Ok-clause-found c = is-found (answer_along c.args.self.now.tree.now c.args.self.now.user c.args.host.now) c.in-Ok.target c.found_in.result c.found_in.ensures c.in-Ok.ensures.answer
