use Rattle.std.proofs.Common.{◌≡◌, ◌∙◌, ◌-◌, length, sym, ap}
use Rattle.law_steady.specs.pt_bind.Binding.{rows_of}
use Rattle.pt_tracer.specs.Planning.{script_plan}
use Rattle.pt_tracer.proofs.PlanLemmas.{if_ok, peeks-then, script-expanded}
use Rattle.pt_tracer.proofs.UnmetLemmas.{lent-edits, always, unmet-kept}
use Rattle.pt_tracer.proofs.planning.ExecvePlanner.expand_with.Goals as goal

pub returns-in-Ok-2-clause-plan : goal.returns-in-Ok-2-clause-plan
returns-in-Ok-2-clause-plan g c =
    let execve = c.args.self.now in
    let t = g.T.Tracee.stopped c.args.t.now in
    let program = c.in-Ok.program in
    let kept : c.saturating_sub-kept.result ≡ length c.args.handed.args - 1 = c.saturating_sub-kept.ensures ∙ ap (λ n. n - 1) c.len.ensures in
    let steps = script-expanded (rows_of c.args.walker.now.table) execve.planner.tags.now c.args.edit execve.lists.args (length c.args.handed.args - 1) t program _ c.in-Ok.ensures.answer c.if-expanded-eq0.false in
    if_ok c.plan_script.result (λ plan e. e ∙ (λ k. script_plan (c.in-Ok.ensures.process.same k) execve.lists.args (kept k) program) ∙ sym steps) c.plan_script.ensures.plan

pub returns-in-Ok-2-clause-edits : goal.returns-in-Ok-2-clause-edits
returns-in-Ok-2-clause-edits g c = peeks-then c.in-Ok.ensures.process (lent-edits c.plan_script.ensures.edits)

-- the lists and the shelf of a script are no peeks
pub returns-in-Ok-2-clause-noted : goal.returns-in-Ok-2-clause-noted
returns-in-Ok-2-clause-noted g c =
    let kept = unmet-kept g.T.Tracee.around g.T.Peeks.unmet g.met.T.Tracee.unmet_is_told c.expanded.new.t c.plan_script.new.t c.plan_script.ensures.edits.rest in
    always c.plan_script.result (kept ∙ c.in-Ok.ensures.noted)
