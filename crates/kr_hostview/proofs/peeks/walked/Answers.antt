use Rattle.kr_seen.specs.pr_base.declared.path.WalkMode.TheVariants.{LookLink}
use Rattle.kr_seen.specs.kr_view.Answers.{IsAnswer, IsReached}
use Rattle.kr_seen.specs.kr_view.Leads.{numbered}
use Rattle.kr_seen.specs.kr_view.Walk.{place_walk}
use Rattle.kr_hostview.specs.OnHost.{number}
use Rattle.kr_hostview.proofs.WalkLemmas.{walked-on-host}
use Rattle.kr_hostview.proofs.peeks.walked.Goals as goal

pub returns-clause-answer : goal.returns-clause-answer
returns-clause-answer g c =
    walked-on-host c.args.state.now c.host_procs-procs.result c.host_procs-procs.ensures c.args.caller (numbered number c.root.result) c.root.ensures
    (λ around base. IsAnswer number (place_walk around LookLink base c.args.host.now).answer c.resolve.result) c.resolve.ensures.answer

pub returns-clause-reach : goal.returns-clause-reach
returns-clause-reach g c =
    walked-on-host c.args.state.now c.host_procs-procs.result c.host_procs-procs.ensures c.args.caller (numbered number c.root.result) c.root.ensures
    (λ around base. IsReached around LookLink (place_walk around LookLink base c.args.host.now) c.args.reach.now c.resolve.new.reach c.resolve.result) c.resolve.ensures.reach
