use Rattle.std.proofs.Common.{sym, ap, ◌∙◌}
use Rattle.std.specs.Option.{option_and_then}
use Rattle.law_lawful.specs.kr_files.Descriptors.{lowest_free}
use Rattle.law_lawful.specs.kr_model.State.{Image, Process}
use Rattle.kr_ops.proofs.ListLemmas.{none-found}
use Rattle.kr_ops.proofs.OpeningLemmas.{lowest}
use Rattle.kr_ops.proofs.state.State.lowest_free.Goals as goal

pub returns-in-Some : goal.returns-in-Some
returns-in-Some g c = c.lowest_free.ensures.free ∙ sym (lowest c.args.self.now c.args.pid c.in-Some.k c.index.result.now c.requires c.in-Some.ensures.some c.index.ensures c.args.from)

pub returns-in-None : goal.returns-in-None
returns-in-None g c = sym (ap (option_and_then (λ (q : Process _ Image). lowest_free q.descs c.args.from)) (none-found c.args.pid c.args.self.now.living.items (c.index_of.ensures.none c.in-None.is)))
