use Rattle.std.proofs.Common.{refl}
use Rattle.kr_seen.specs.pr_base.declared.errno.Errno.TheVariants.{EPERM}
use Rattle.kr_seen.proofs.PerformLemmas.{by-refusal}
use Rattle.kr_rows.proofs.identity.setgroups.Goals as goal

pub returns : goal.returns
returns g c = λ some. by-refusal c.args.pid _ c.args.state.now c.args.state.now c.refused.result c.requires.pids EPERM refl c.refused.ensures refl
