use Rattle.std.proofs.Common.{◌∙◌, sym}
use Rattle.std.proofs.lemmas.Result.{err_from_is_err_and}
use Rattle.kr_walk.specs.kr_view.Answers.{target_numbered}
use Rattle.kr_walk.specs.kr_view.Leads.{numbered}
use Rattle.kr_walk.specs.kr_view.Walk.{surroundings}
use Rattle.kr_exec.proofs.PlanLemmas.{any_reach, covers_exec, fits_both, lists_fit, reached_is}
use Rattle.kr_exec.proofs.RunningLemmas.{at_start}
use Rattle.kr_exec.proofs.plan.plan_exec.Goals as goal

pub returns-in_err-path-clause-reach : goal.returns-in_err-path-clause-reach
returns-in_err-path-clause-reach g c =
    let number = g.P.Places.number in
    let around = surroundings number (g.P.Places.mounts c.args.places.now) c.args.tree.now c.args.user (g.Q.Procs.finds c.args.procs.now c.args.caller) (g.Q.Procs.leads c.args.procs.now c.args.caller) in
    let e = err_from_is_err_and c.from_residual.result c.from_residual.ensures.1 in
    rw (e.1, e.2)
    (at_start c.args.reach.now _ (covers_exec around (numbered number c.args.base) (target_numbered number c.args.found) c.args.path.now c.args.lists.args c.args.lists.env c.args.reach.now))

pub returns-clause-reach : goal.returns-clause-reach
returns-clause-reach g c =
    let number = g.P.Places.number in
    let around = surroundings number (g.P.Places.mounts c.args.places.now) c.args.tree.now c.args.user (g.Q.Procs.finds c.args.procs.now c.args.caller) (g.Q.Procs.leads c.args.procs.now c.args.caller) in
    let base = numbered number c.args.base in
    let found = target_numbered number c.args.found in
    let l = c.args.lists in
    let fits = fits_both l.args l.env c.in-Some.env_bytes c.in-Some.ensures.bytes c.in-Some.ensures.few (sym c.is_too_big.ensures ∙ c.if-is_too_big.false) in
    any_reach _ c.args.reach.now c.expand.new.reach c.file_plan.result
    (reached_is around base found c.args.path.now c.in_ok-path.path l.args l.env c.in-Some.env_bytes c.args.reach.now c.expand.new.reach c.in_ok-last.ensures.reach c.in_ok-path.ensures c.in-Some.ensures.bytes fits)
    (covers_exec around base found c.args.path.now l.args l.env c.args.reach.now)

pub returns-clause-fit : goal.returns-clause-fit
returns-clause-fit g c =
    lists_fit c.in_ok-last.last.args c.args.lists.env c.in-Some.env_bytes c.file_plan.result c.in-Some.ensures.bytes c.in-Some.ensures.few c.in_ok-last.ensures.fit c.file_plan.ensures.lists
