use Rattle.std.proofs.Common.{subst}
use Rattle.pr_sources.specs.pr_io.Drawn.{received}
use Rattle.kr_loose.specs.kr_core.Kernel.{machine_by}
use Rattle.kr_loose.specs.LooseRun.{loosened}
use Rattle.pr_run.specs.Going.{Since, Went}
use Rattle.pr_run.specs.Puts.{PutsRun}
use Rattle.pr_run.specs.Stepping.{StandsSince, loose_ran}
use Rattle.pr_run.proofs.SteppingLemmas.{first-stands, loose-goes, on-both}
use Rattle.pr_run.proofs.stepping.run_steps.Goals as goal

pub run_slots-requires : goal.run_slots-requires
run_slots-requires g c = record { whole = c.requires.first.first.whole; first = c.requires.first.first.calls; plan = c.requires.plan }

pub returns-clause-puts : goal.returns-clause-puts
returns-clause-puts g c =
    let number = g.P.Places.number in
    let part = g.S.Graphed.part in
    let asks = g.S.Stops.asks in
    let mounts = g.P.Places.mounts in
    let old = c.args.loose.now in
    let stands = first-stands number part asks mounts old.kernel old.judge c.requires.first in
    subst (λ (went : Went (Since g.S.Graphed.Part)). PutsRun went.puts went.ending (received g.O.Sink c.args.out.now c.run_slots.new.out) (received g.R.Sink c.args.err.now c.run_slots.new.err) c.run_slots.result)
    (loose-goes number part asks mounts g.S.Graphed.does c.args.plan.now old.kernel) (c.run_slots.ensures.puts (old.kernel.met, loosened (machine_by number part old.kernel)) stands)

pub returns-clause-places : goal.returns-clause-places
returns-clause-places g c = c.run_slots.ensures.fixed

pub returns-clause-left : goal.returns-clause-left
returns-clause-left g c =
    let number = g.P.Places.number in
    let part = g.S.Graphed.part in
    let asks = g.S.Stops.asks in
    let mounts = g.P.Places.mounts in
    let old = c.args.loose.now in
    let new = c.run_slots.new.run in
    let stands = first-stands number part asks mounts old.kernel old.judge c.requires.first in
    let ran = loose-goes number part asks mounts g.S.Graphed.does c.args.plan.now old.kernel in
    on-both c.run_slots.result
    (λ left same.
    let whole = subst (λ (went : Went (Since g.S.Graphed.Part)). StandsSince number part asks (mounts new.kernel.places) new.kernel new.judge went.left) ran (left (old.kernel.met, loosened (machine_by number part old.kernel)) stands) in
    subst (λ p. StandsSince number part asks (mounts p) new.kernel new.judge (old.kernel.met, (loose_ran g.S.Graphed.does g.row.M (mounts old.kernel.places) c.args.plan.now (machine_by number part old.kernel)).left)) same whole)
    c.run_slots.ensures.left c.run_slots.ensures.fixed
