use Rattle.std.proofs.Common.{ap, ◌∙◌, [], ◌∷◌, ◌%◌, pos}
use Rattle.kr_seen.specs.kr_model.Change.{SetUmask}
use Rattle.kr_seen.specs.kr_model.Known.{Caller}
use Rattle.kr_seen.specs.kr_model.Reply.{answers, done}
use Rattle.kr_seen.proofs.kr_ops.OpeningLemmas.{not-living}
use Rattle.kr_seen.specs.kr_model.declared.outcome.Outcome.TheVariants.{Answer}
use Rattle.kr_seen.proofs.PerformLemmas.{by-reply}
use Rattle.kr_rows.proofs.ProcessLemmas.{known-caller}
use Rattle.kr_rows.proofs.processes.umask.Goals as goal

pub unreachable-requires : goal.unreachable-requires
unreachable-requires g c = not-living c.args.state.now c.args.pid (c.index_of.ensures.none c.in_default.is) c.requires.lives

pub returns-clause-performs : goal.returns-clause-performs
returns-clause-performs g c = λ some.
    by-reply c.args.pid _ c.args.state.now c.set_umask.new.self _ c.requires.sound.pids (answers c.index.result.now.umask (SetUmask (c.args.mask % 512) ∷ []))
    (ap (λ (caller : Caller). done caller.umask (SetUmask (c.args.mask % 512) ∷ [])) (known-caller c.args.state.now c.args.pid c.in-Some.k c.index.result.now c.requires.sound c.in-Some.ensures.some c.index.ensures))
    (c.number.ensures ∙ ap (λ n. Answer (pos n)) c.from.ensures) c.set_umask.ensures.makes
