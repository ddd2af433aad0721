use Rattle.kr_hostview.proofs.kr_ops.ListLemmas.{none-found}
use Rattle.kr_turns.proofs.MakingLemmas.{behind-none, behind-some, found-lives}
use Rattle.kr_turns.proofs.steps.behind_if.Goals as goal

pub returns-in-Some : goal.returns-in-Some
returns-in-Some g c = λ number. behind-some number c.args.pid c.args.handed c.args.state.now (found-lives c.args.state.now c.args.pid _ c.requires c.in-Some.ensures.some)

pub returns-in-None : goal.returns-in-None
returns-in-None g c = λ number. behind-none number c.args.pid c.args.handed c.args.state.now (none-found c.args.pid c.args.state.now.living.items (c.index_of.ensures.none c.in-None.is))
