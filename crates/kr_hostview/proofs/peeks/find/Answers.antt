use Rattle.kr_seen.specs.kr_model.Peeks.{answer_along}
use Rattle.kr_seen.specs.kr_ops.Meaning.{meaning}
use Rattle.kr_hostview.proofs.WalkLemmas.{is-found}
use Rattle.kr_hostview.proofs.peeks.find.Goals as goal

pub returns-in-Ok-clause-found : goal.returns-in-Ok-clause-found
returns-in-Ok-clause-found g c = is-found (answer_along (meaning c.args.state.now) c.args.caller c.args.host.now) c.in-Ok.target c.found_in.result c.found_in.ensures c.in-Ok.ensures.answer
