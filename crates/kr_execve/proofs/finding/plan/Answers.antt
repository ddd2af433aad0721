use Rattle.std.proofs.Common.{refl, subst}
use Rattle.kr_exec.specs.Answers.{Answers, Reaches, plan_numbered}
use Rattle.kr_exec.specs.Exec.{exec_plan, exec_reach}
use Rattle.kr_exec.specs.kr_view.Answers.{target_numbered}
use Rattle.kr_exec.specs.kr_view.Leads.{numbered}
use Rattle.kr_perform.specs.kr_ops.Meaning.{meaning}
use Rattle.kr_perform.specs.kr_seen.Held.{shown_of}
use Rattle.kr_perform.proofs.kr_seen.TargetLemmas.{around-told, shown-as}
use Rattle.kr_execve.proofs.finding.plan.Goals as goal

pub returns-clause-answer : goal.returns-clause-answer
returns-clause-answer g c =
    let number = g.P.Places.number in
    let table = g.P.Places.mounts c.args.places.now in
    let told = shown-as c.procs-procs.result table c.root-root.result c.args.state.now c.procs-procs.ensures.table c.procs-procs.ensures.root c.procs-procs.ensures.state in
    let same = around-told number (shown_of c.procs-procs.result) table table c.root-root.result (meaning c.args.state.now) c.args.pid told refl c.root-root.ensures in
    subst (λ around. Answers (plan_numbered number) (exec_plan around (numbered number c.args.base) (target_numbered number c.args.found) c.args.path.now c.args.lists.args c.args.lists.env) c.plan_exec.result) same c.plan_exec.ensures.answer

pub returns-clause-reach : goal.returns-clause-reach
returns-clause-reach g c =
    let number = g.P.Places.number in
    let table = g.P.Places.mounts c.args.places.now in
    let told = shown-as c.procs-procs.result table c.root-root.result c.args.state.now c.procs-procs.ensures.table c.procs-procs.ensures.root c.procs-procs.ensures.state in
    let same = around-told number (shown_of c.procs-procs.result) table table c.root-root.result (meaning c.args.state.now) c.args.pid told refl c.root-root.ensures in
    subst (λ around. Reaches (exec_reach around (numbered number c.args.base) (target_numbered number c.args.found) c.args.path.now c.args.lists.args c.args.lists.env c.args.reach.now) c.args.reach.now c.plan_exec.new.reach c.plan_exec.result) same c.plan_exec.ensures.reach
