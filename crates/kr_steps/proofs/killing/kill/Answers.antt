use Rattle.std.proofs.Common.{subst}
use Rattle.std.specs.Prelude.{OnOk}
use Rattle.kr_perform.specs.kr_model.Change.{End}
use Rattle.kr_perform.specs.kr_ops.Making.{Makes}
use Rattle.kr_steps.proofs.KillLemmas.{ended-runs, on-ok}
use Rattle.kr_steps.proofs.killing.kill.Goals as goal

pub returns-clause-ends : goal.returns-clause-ends
returns-clause-ends g c = subst (λ status. OnOk c.end.result (Makes c.args.pid (End status) c.args.state.now c.end.new.self)) c.from.ensures c.end.ensures.makes

pub returns-clause-runs : goal.returns-clause-runs
returns-clause-runs g c =
    on-ok c.end.result (λ makes served number table calls. ended-runs number table c.args.pid c.from.result calls c.args.state.now c.end.new.self c.requires.lives makes served)
    c.end.ensures.makes c.end.ensures.served
