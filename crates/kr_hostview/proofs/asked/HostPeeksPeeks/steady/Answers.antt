use Rattle.std.proofs.Common.{◌≡◌, subst}
use Rattle.std.specs.Prelude.{IfOk}
use Rattle.kr_seen.specs.kr_model.Peeks.{is_steady_path}
use Rattle.kr_seen.specs.kr_ops.Meaning.{meaning}
use Rattle.kr_hostview.specs.Asked.{Asked}
use Rattle.kr_hostview.proofs.asked.HostPeeksPeeks.steady.Goals as goal

pub returns-clause-answer : goal.returns-clause-answer
returns-clause-answer g c = subst (λ (v : Asked g.row.T.Denot g.row.M). IfOk c.steady.result (λ steady. steady ≡ is_steady_path (meaning v.state) v.caller c.args.host.now)) c.self.view_is c.steady.ensures
