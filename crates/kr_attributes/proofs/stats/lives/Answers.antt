use Rattle.std.proofs.Common.{sym, ◌∙◌}
use Rattle.kr_seen.specs.kr_ops.Meaning.{meaning}
use Rattle.kr_seen.proofs.LivingLemmas.{lives-by}
use Rattle.kr_seen.proofs.KnownLemmas.{known-lives}
use Rattle.kr_attributes.proofs.stats.lives.Goals as goal

pub returns : goal.returns
returns g c = λ pid.
    c.is_some.ensures ∙ lives-by c.args.state.now c.args.number c.requires c.index_of.result c.index_of.ensures.none c.index_of.ensures.some
    ∙ sym (known-lives pid (meaning c.args.state.now) c.args.number)
