use Rattle.std.proofs.Common.{sym}
use Rattle.kr_ops.proofs.ListLemmas.{none-found}
use Rattle.kr_ops.proofs.OpeningLemmas.{found}
use Rattle.kr_ops.proofs.state.State.process.Goals as goal

pub returns-in-Some : goal.returns-in-Some
returns-in-Some g c = sym (found c.args.self.now c.args.pid c.in-Some.k c.index.result.now c.requires c.in-Some.ensures.some c.index.ensures)

pub returns-in-None : goal.returns-in-None
returns-in-None g c = sym (none-found c.args.pid c.args.self.now.living.items (c.index_of.ensures.none c.in-None.is))
