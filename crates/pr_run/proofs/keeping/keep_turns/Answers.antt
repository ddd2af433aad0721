use Rattle.kr_loose.specs.kr_core.Kernel.{machine_by}
use Rattle.pr_run.specs.Going.{by_turns, went_by}
use Rattle.pr_run.specs.Keeping.{puts_told}
use Rattle.pr_run.specs.Slots.{run_of}
use Rattle.pr_run.proofs.GoingLemmas.{between-first, run-goes-by}
use Rattle.pr_run.proofs.KeepLemmas.{kept-ends, kept-left, kept-puts}
use Rattle.pr_run.proofs.keeping.keep_turns.Goals as goal

pub keep_slots-requires : goal.keep_slots-requires
keep_slots-requires g c = record { whole = between-first c.args.kernel.now c.requires.kernel; first = c.requires.kernel.turns; plan = c.requires.plan; empty = c.requires.empty }

pub returns-clause-end : goal.returns-clause-end
returns-clause-end g c =
    let number = g.P.Places.number in
    let part = g.S.Graphed.part in
    let does = g.S.Graphed.does in
    let kernel = c.args.kernel.now in
    let plan = c.args.plan.now in
    kept-ends (run_of part does g.P.Places.mounts number plan kernel) (λ m. went_by (by_turns does g.row.M (g.P.Places.mounts kernel.places)) plan m) (machine_by number part kernel)
    (machine_by number part c.keep_slots.new.run) (puts_told c.keep_slots.new.puts.items) (run-goes-by part does g.P.Places.mounts number plan kernel) c.keep_slots.result c.keep_slots.ensures

pub returns-clause-puts : goal.returns-clause-puts
returns-clause-puts g c =
    let number = g.P.Places.number in
    let part = g.S.Graphed.part in
    let does = g.S.Graphed.does in
    let kernel = c.args.kernel.now in
    let plan = c.args.plan.now in
    kept-puts (run_of part does g.P.Places.mounts number plan kernel) (λ m. went_by (by_turns does g.row.M (g.P.Places.mounts kernel.places)) plan m) (machine_by number part kernel)
    (machine_by number part c.keep_slots.new.run) (puts_told c.keep_slots.new.puts.items) (run-goes-by part does g.P.Places.mounts number plan kernel) c.keep_slots.result c.keep_slots.ensures

pub returns-clause-machine : goal.returns-clause-machine
returns-clause-machine g c =
    let number = g.P.Places.number in
    let part = g.S.Graphed.part in
    let does = g.S.Graphed.does in
    let kernel = c.args.kernel.now in
    let plan = c.args.plan.now in
    kept-left (run_of part does g.P.Places.mounts number plan kernel) (λ m. went_by (by_turns does g.row.M (g.P.Places.mounts kernel.places)) plan m) (machine_by number part kernel)
    (machine_by number part c.keep_slots.new.run) (puts_told c.keep_slots.new.puts.items) (run-goes-by part does g.P.Places.mounts number plan kernel) c.keep_slots.result c.keep_slots.ensures
