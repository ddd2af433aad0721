use Rattle.std.proofs.Common.{◌∙◌}
use Rattle.kr_seen.proofs.LivingLemmas.{lives-by}
use Rattle.kr_seen.proofs.target.lives.Goals as goal

pub returns : goal.returns
returns g c = c.is_some.ensures ∙ lives-by c.args.state.now c.args.pid c.requires c.index_of.result c.index_of.ensures.none c.index_of.ensures.some
