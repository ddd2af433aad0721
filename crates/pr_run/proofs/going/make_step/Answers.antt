use Rattle.std.proofs.Common.{◌≤◌, suc, subst, sym}
use Rattle.kr_loose.specs.kr_core.Kernel.{machine}
use Rattle.kr_loose.specs.kr_core.declared.kernel.Turned.{Turned}
use Rattle.pt_tracer.specs.kr_stops.Watching.{watching}
use Rattle.kr_loose.specs.Going.{HasStepped, Steps}
use Rattle.pr_run.proofs.SteppingLemmas.{calls-grow, steps-same}
use Rattle.pr_run.proofs.TurnLemmas.{goes}
use Rattle.pr_run.proofs.going.make_step.Goals as goal

pub returns-clause-makes : goal.returns-clause-makes
returns-clause-makes g c =
    let number = g.P.Places.number in
    let w = watching g.S.Stops.enters g.S.Stops.exits g.S.Stops.bears g.S.Stops.forgets in
    let old = c.args.loose.now in
    let new = c.step.new.self in
    let made : HasStepped number w g.S.Stops.asks (g.P.Places.mounts old.kernel.places) c.args.slot.pick c.args.slot.fuel old.kernel new.kernel old.judge new.judge =
    subst (λ (t : Turned). Steps number w g.S.Stops.asks (g.P.Places.mounts old.kernel.places) c.args.slot.pick c.args.slot.fuel old.kernel new.kernel old.judge new.judge t) c.in-Ok-Ran.field-0-is c.in-Ok-Ran.ensures.steps in
    (goes (machine number old.kernel) c.args.slot.pick made.process made.picked, made)

pub returns-clause-on : goal.returns-clause-on
returns-clause-on g c =
    let number = g.P.Places.number in
    let w = watching g.S.Stops.enters g.S.Stops.exits g.S.Stops.bears g.S.Stops.forgets in
    let old = c.args.loose.now in
    let new = c.step.new.self in
    let made : HasStepped number w g.S.Stops.asks (g.P.Places.mounts old.kernel.places) c.args.slot.pick c.args.slot.fuel old.kernel new.kernel old.judge new.judge =
    subst (λ (t : Turned). Steps number w g.S.Stops.asks (g.P.Places.mounts old.kernel.places) c.args.slot.pick c.args.slot.fuel old.kernel new.kernel old.judge new.judge t) c.in-Ok-Ran.field-0-is c.in-Ok-Ran.ensures.steps in
    record { whole = c.in-Ok-Ran.ensures.whole; places = made.places; calls = subst (λ n. n ≤ suc old.kernel.calls) (sym made.calls) (calls-grow made.kind old.kernel.calls) }

pub returns-in-Ok-Deadlock-clause-on : goal.returns-in-Ok-Deadlock-clause-on
returns-in-Ok-Deadlock-clause-on g c =
    let w = watching g.S.Stops.enters g.S.Stops.exits g.S.Stops.bears g.S.Stops.forgets in
    let old = c.args.loose.now in
    let new = c.step.new.self in
    let told =
    subst (λ (t : Turned). Steps g.P.Places.number w g.S.Stops.asks (g.P.Places.mounts old.kernel.places) c.args.slot.pick c.args.slot.fuel old.kernel new.kernel old.judge new.judge t) c.in-Ok-Deadlock.field-0-is c.in-Ok-Deadlock.ensures.steps in
    steps-same old.kernel new.kernel told.2 c.requires.whole

pub returns-in-Ok-Over-clause-on : goal.returns-in-Ok-Over-clause-on
returns-in-Ok-Over-clause-on g c =
    let w = watching g.S.Stops.enters g.S.Stops.exits g.S.Stops.bears g.S.Stops.forgets in
    let old = c.args.loose.now in
    let new = c.step.new.self in
    let told =
    subst (λ (t : Turned). Steps g.P.Places.number w g.S.Stops.asks (g.P.Places.mounts old.kernel.places) c.args.slot.pick c.args.slot.fuel old.kernel new.kernel old.judge new.judge t) c.in-Ok-Over.field-0-is c.in-Ok-Over.ensures.steps in
    steps-same old.kernel new.kernel told.1 c.requires.whole
