use Rattle.std.proofs.Common.{◌&&◌, ap, subst}
use Rattle.kr_seen.specs.pr_base.Peeks.{IsNoted, IsPeeked}
use Rattle.kr_seen.specs.kr_model.Peeks.{is_steady_path, peeked_of}
use Rattle.kr_seen.specs.kr_ops.Meaning.{meaning}
use Rattle.kr_hostview.specs.Asked.{Asked, left_of}
use Rattle.kr_hostview.proofs.asked.HostPeeksPeeks.link_text.Goals as goal

pub returns-clause-answer : goal.returns-clause-answer
returns-clause-answer g c = subst (λ (v : Asked g.row.T.Denot g.row.M). IsPeeked ((peeked_of (meaning v.state) v.caller).link_text c.args.host.now) c.link_text.result) c.self.view_is c.link_text.ensures.answer

pub returns-clause-same : goal.returns-clause-same
returns-clause-same g c = ap (λ (v : Asked g.row.T.Denot g.row.M). peeked_of (meaning v.state) v.caller) c.self.view_is

pub returns-clause-rest : goal.returns-clause-rest
returns-clause-rest g c = ap (λ (v : Asked g.row.T.Denot g.row.M). left_of v) c.self.view_is

pub returns-clause-noted : goal.returns-clause-noted
returns-clause-noted g c = subst (λ (v : Asked g.row.T.Denot g.row.M). IsNoted (v.unmet && is_steady_path (meaning v.state) v.caller c.args.host.now) c.link_text.new.unmet c.link_text.result) c.self.view_is c.link_text.ensures.noted
