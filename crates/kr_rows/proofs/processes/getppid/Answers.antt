use Rattle.std.proofs.Common.{refl, ap, []}
use Rattle.kr_seen.specs.kr_model.Known.{Caller}
use Rattle.kr_seen.specs.kr_model.Reply.{answers, done}
use Rattle.kr_seen.proofs.kr_ops.OpeningLemmas.{not-living}
use Rattle.kr_seen.proofs.PerformLemmas.{by-reply}
use Rattle.kr_rows.proofs.ProcessLemmas.{known-caller}
use Rattle.kr_rows.proofs.processes.getppid.Goals as goal

pub returns : goal.returns
returns g c = λ some.
    by-reply c.args.pid _ c.args.state.now c.args.state.now _ c.requires.sound.pids (answers c.index.result.now.parent [])
    (ap (λ (caller : Caller). done caller.parent []) (known-caller c.args.state.now c.args.pid c.in-Some.k c.index.result.now c.requires.sound c.in-Some.ensures.some c.index.ensures))
    c.number.ensures (λ mounts. refl)

pub unreachable-requires : goal.unreachable-requires
unreachable-requires g c = not-living c.args.state.now c.args.pid (c.index_of.ensures.none c.in-None.is) c.requires.lives
