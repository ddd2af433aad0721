use Rattle.std.proofs.Common.{◌≡◌, true, sym, ap, subst, ◌∙◌}
use Rattle.std.specs.Prelude.{Result}
use Rattle.kr_start.specs.pr_base.declared.errno.Errno.{Errno}
use Rattle.kr_execve.specs.kr_exec.Answers.{plan_numbered, Answers}
use Rattle.kr_execve.specs.kr_exec.Exec.{exec_reach}
use Rattle.kr_execve.specs.kr_exec.declared.plan.ExecPlan.{ExecPlan}
use Rattle.kr_execve.specs.kr_view.Answers.{target_numbered}
use Rattle.kr_execve.specs.kr_view.Leads.{numbered}
use Rattle.kr_first.specs.Starting.{around, is_walked}
use Rattle.kr_first.proofs.DefinitionLemmas.{planned-is, reach-is, reached-on}
use Rattle.kr_first.proofs.StandingLemmas.{loadable-on}
use Rattle.kr_first.proofs.finding.plan.Goals as goal

pub returns-clause-answer : goal.returns-clause-answer
returns-clause-answer g c =
    let number = g.P.Places.number in
    let w = c.in_ok-found.ensures.answer in
    let walks : is_walked c.args.path.now ≡ true = cc in
    let planned =
    planned-is (g.P.Places.mounts c.args.places.now) c.args.tree.now c.args.user (numbered number c.args.base) c.args.path.now c.args.lists.args c.args.lists.env walks w.0 (target_numbered number c.in_ok-found.found) w.1 w.2 in
    subst (λ (r : Result (ExecPlan _) Errno). Answers (plan_numbered number) r c.plan_exec.result) (sym planned) c.plan_exec.ensures.answer

pub returns-clause-loadable : goal.returns-clause-loadable
returns-clause-loadable g c =
    let number = g.P.Places.number in
    let w = c.in_ok-found.ensures.answer in
    let walks : is_walked c.args.path.now ≡ true = cc in
    let planned =
    planned-is (g.P.Places.mounts c.args.places.now) c.args.tree.now c.args.user (numbered number c.args.base) c.args.path.now c.args.lists.args c.args.lists.env walks w.0 (target_numbered number c.in_ok-found.found) w.1 w.2 in
    loadable-on (g.P.Places.mounts c.args.places.now) c.args.tree.now c.args.user (numbered number c.args.base) c.args.path.now c.args.lists.args c.args.lists.env number c.plan_exec.result
    (subst (λ (r : Result (ExecPlan _) Errno). Answers (plan_numbered number) r c.plan_exec.result) (sym planned) c.plan_exec.ensures.answer) c.plan_exec.ensures.file c.plan_exec.ensures.fit

pub returns-clause-reach : goal.returns-clause-reach
returns-clause-reach g c =
    let number = g.P.Places.number in
    let table = g.P.Places.mounts c.args.places.now in
    let base = numbered number c.args.base in
    let target = target_numbered number c.in_ok-found.found in
    let w = c.in_ok-found.ensures.answer in
    let walks : is_walked c.args.path.now ≡ true = cc in
    let whole = exec_reach (around table c.args.tree.now c.args.user) base target c.args.path.now c.args.lists.args c.args.lists.env in
    reached-on c.plan_exec.result (whole c.find_exec.new.reach) c.find_exec.new.reach c.plan_exec.new.reach c.plan_exec.ensures.reach
    (ap whole c.in_ok-found.ensures.reach ∙ sym (reach-is table c.args.tree.now c.args.user base c.args.path.now c.args.lists.args c.args.lists.env walks w.0 target w.1 w.2 c.args.reach.now))
