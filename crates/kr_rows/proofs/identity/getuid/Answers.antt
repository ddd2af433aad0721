use Rattle.std.proofs.Common.{refl, []}
use Rattle.kr_seen.specs.kr_model.Reply.{answers}
use Rattle.kr_seen.proofs.PerformLemmas.{by-reply}
use Rattle.kr_rows.proofs.identity.getuid.Goals as goal

pub returns : goal.returns
returns g c = λ some. by-reply c.args.pid _ c.args.state.now c.args.state.now c.number.result c.requires.pids (answers c.args.state.now.user.uid []) refl c.number.ensures (λ mounts. refl)
