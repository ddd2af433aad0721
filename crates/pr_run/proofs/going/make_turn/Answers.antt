use Rattle.std.proofs.Common.{◌≡◌, subst}
use Rattle.kr_loose.specs.kr_core.Kernel.{HasRun, Turns, machine, machine_by}
use Rattle.kr_loose.specs.kr_core.declared.kernel.Turned.{Turned}
use Rattle.pt_tracer.specs.kr_stops.Watching.{watching}
use Rattle.pr_run.proofs.TurnLemmas.{goes}
use Rattle.pr_run.proofs.going.make_turn.Goals as goal

pub returns-clause-makes : goal.returns-clause-makes
returns-clause-makes g c =
    let number = g.P.Places.number in
    let part = g.S.Graphed.part in
    let w = watching g.S.Stops.enters g.S.Stops.exits g.S.Stops.bears g.S.Stops.forgets in
    let made : HasRun number w (g.P.Places.mounts c.args.kernel.now.places) c.args.slot.pick c.args.slot.fuel c.args.kernel.now c.turn.new.self =
    subst (λ (t : Turned). Turns number w (g.P.Places.mounts c.args.kernel.now.places) c.args.slot.pick c.args.slot.fuel c.args.kernel.now c.turn.new.self t) c.in-Ok-Ran.field-0-is c.in-Ok-Ran.ensures.turns in (
      goes (machine_by number part c.args.kernel.now) c.args.slot.pick made.process made.picked,
      c.parts_turn.ensures.turns g.S.Graphed.does g.row.M (g.P.Places.mounts c.args.kernel.now.places) c.args.slot.pick c.args.slot.fuel made.process (machine number c.args.kernel.now) (machine number c.turn.new.self) c.is_graph.ensures
          made.picked made.turn,
    )

pub returns-clause-goes_on : goal.returns-clause-goes_on
returns-clause-goes_on g c =
    let number = g.P.Places.number in
    let w = watching g.S.Stops.enters g.S.Stops.exits g.S.Stops.bears g.S.Stops.forgets in
    let made : HasRun number w (g.P.Places.mounts c.args.kernel.now.places) c.args.slot.pick c.args.slot.fuel c.args.kernel.now c.turn.new.self =
    subst (λ (t : Turned). Turns number w (g.P.Places.mounts c.args.kernel.now.places) c.args.slot.pick c.args.slot.fuel c.args.kernel.now c.turn.new.self t) c.in-Ok-Ran.field-0-is c.in-Ok-Ran.ensures.turns in
    let told = c.in-Ok-Ran.ensures in
    record { whole = told.whole; places = made.places; turns_are = made.turns; running = told.running; calls = told.calls }
