use Rattle.std.proofs.Common.{refl}
use Rattle.kr_seen.proofs.PerformLemmas.{by-unchanged}
use Rattle.kr_rows.proofs.identity.setreuid.Goals as goal

pub returns : goal.returns
returns g c = λ some. by-unchanged c.args.pid _ c.args.state.now c.args.state.now c.set_two.result c.requires.pids c.set_two.ensures refl
