use Rattle.std.proofs.Common.{sym, ap}
use Rattle.std.specs.Option.{option_map_or}
use Rattle.kr_ops.proofs.ListLemmas.{none-found}
use Rattle.kr_ops.proofs.OpeningLemmas.{found}
use Rattle.kr_seen.specs.Shown.{Nothing, cwd_target}
use Rattle.kr_seen.proofs.target.cwd_of.Goals as goal

pub returns-in-Some : goal.returns-in-Some
returns-in-Some g c = sym (ap (λ o. option_map_or cwd_target o Nothing) (found c.args.state.now c.args.pid c.in-Some.k c.index.result.now c.requires c.in-Some.ensures.some c.index.ensures))

pub returns-in-None : goal.returns-in-None
returns-in-None g c = sym (ap (λ o. option_map_or cwd_target o Nothing) (none-found c.args.pid c.args.state.now.living.items (c.index_of.ensures.none c.in-None.is)))
