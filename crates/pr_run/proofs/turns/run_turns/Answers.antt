use Rattle.std.proofs.Common.{refl, sym, ap, subst, ◌∙◌}
use Rattle.std.proofs.lemmas.Result.{on_ok_weaker}
use Rattle.pr_sources.specs.pr_io.Drawn.{received}
use Rattle.kr_loose.specs.kr_core.Kernel.{machine_by}
use Rattle.kr_loose.specs.kr_turns.Run.{Ran}
use Rattle.pr_run.specs.Puts.{PutsRun}
use Rattle.pr_run.proofs.GoingLemmas.{between-first, run-goes-by}
use Rattle.pr_run.proofs.turns.run_turns.Goals as goal

pub run_slots-requires : goal.run_slots-requires
run_slots-requires g c = record { whole = between-first c.args.kernel.now c.requires.kernel; first = c.requires.kernel.turns; plan = c.requires.plan }

pub returns-clause-puts : goal.returns-clause-puts
returns-clause-puts g c =
    let number = g.P.Places.number in
    let part = g.S.Graphed.part in
    let kernel = c.args.kernel.now in
    let ran = run-goes-by part g.S.Graphed.does g.P.Places.mounts number c.args.plan.now kernel in
    subst (λ (r : Ran g.S.Graphed.Part). PutsRun r.puts r.ending (received g.O.Sink c.args.out.now c.run_slots.new.out) (received g.R.Sink c.args.err.now c.run_slots.new.err) c.run_slots.result) (sym ran)
    (c.run_slots.ensures.puts (machine_by number part kernel) refl)

pub returns-clause-machine : goal.returns-clause-machine
returns-clause-machine g c =
    let number = g.P.Places.number in
    let part = g.S.Graphed.part in
    let kernel = c.args.kernel.now in
    let ran = run-goes-by part g.S.Graphed.does g.P.Places.mounts number c.args.plan.now kernel in
    on_ok_weaker c.run_slots.result (λ left. ap (λ (r : Ran g.S.Graphed.Part). r.machine) ran ∙ left (machine_by number part kernel) refl) c.run_slots.ensures.left
