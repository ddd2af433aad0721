use Rattle.std.proofs.Common.{rules, ◌≡◌, ◌<◌, ap, refl, sym, subst, ◌∙◌}
use Rattle.std.specs.Prelude.{◌^◌}
use Rattle.std.proofs.lemmas.Result.{on_ok_weaker}
use Rattle.kr_turns.specs.declared.steps.Halt.{Halt}
use Rattle.kr_turns.specs.declared.steps.Halt.TheVariants as halt
use Rattle.kr_turns.specs.kr_stops.Watching.{watching}
use Rattle.kr_core.specs.Between.{between_of, paused_at, phase_at}
use Rattle.kr_core.specs.Moving.{paused_by}
use Rattle.kr_core.specs.Stepping.{HasMadeCall, HasMetAt}
use Rattle.kr_core.specs.declared.paused.Between.TheVariants.{AtCall}
use Rattle.kr_core.specs.declared.paused.Phase.TheVariants as phase
use Rattle.kr_core.proofs.SteppingLemmas.{phase-is, turned-alone, turned-calling}
use Rattle.kr_core.specs.Kernel.{machine}
use Rattle.kr_core.proofs.MetLemmas.{MetIf, turn-met}
use Rattle.kr_core.proofs.kernel.Kernel.run_turn.Goals as goal

pub run-requires : goal.run-requires
run-requires g c =
    (search rules, (c.requires.whole, phase-is g.P.Places.number c.args.pid c.args.self.now c.requires.lives phase.Running (ap phase_at (ap (between_of c.args.pid) c.requires.running))))

pub run_call-requires : goal.run_call-requires
run_call-requires g c =
    let has = c.in_ok-told.ensures.runs in
    let alone = has.paused ∙ ap (λ (h : Halt). paused_by c.args.pid h c.args.self.now.paused) c.in-AtCall.is ∙ ap (paused_at c.args.pid AtCall) c.requires.running in
    (search rules, (c.in_ok-told.ensures.whole, (subst (λ n. n < 2 ^ 31) (sym has.calls) c.requires.few, (alone, c.in_ok-told.ensures.phase c.in-AtCall.is))))

pub returns-in-AtCall-clause-turn : goal.returns-in-AtCall-clause-turn
returns-in-AtCall-clause-turn g c =
    let number = g.P.Places.number in
    let w = watching g.S.Stops.enters g.S.Stops.exits g.S.Stops.bears g.S.Stops.forgets in
    let has = c.in_ok-told.ensures.runs in
    on_ok_weaker c.run_call.result
    (λ made.
    turned-calling number w _ c.args.fuel c.args.pid _ c.run.new.self c.run_call.new.self c.in_ok-told.told has c.in-AtCall.is
    (subst (λ pl. HasMadeCall number w (g.P.Places.mounts pl) c.args.pid c.run.new.self c.run_call.new.self) has.places made))
    c.run_call.ensures.call

pub returns-in-Spent-clause-turn : goal.returns-in-Spent-clause-turn
returns-in-Spent-clause-turn g c =
    turned-alone g.P.Places.number (watching g.S.Stops.enters g.S.Stops.exits g.S.Stops.bears g.S.Stops.forgets) _ c.args.fuel c.args.pid _ c.run.new.self c.in_ok-told.told c.requires.running c.in_ok-told.ensures.runs
    (λ calls. (let no : halt.Spent ≡ halt.AtCall = sym c.in-Spent.is ∙ calls in cc))

pub returns-in-Killed-clause-turn : goal.returns-in-Killed-clause-turn
returns-in-Killed-clause-turn g c =
    turned-alone g.P.Places.number (watching g.S.Stops.enters g.S.Stops.exits g.S.Stops.bears g.S.Stops.forgets) _ c.args.fuel c.args.pid _ c.run.new.self c.in_ok-told.told c.requires.running c.in_ok-told.ensures.runs
    (λ calls. (let no : halt.Killed c.in-Killed._status ≡ halt.AtCall = sym c.in-Killed.is ∙ calls in cc))

pub returns-in-AtCall-clause-met : goal.returns-in-AtCall-clause-met
returns-in-AtCall-clause-met g c =
    let number = g.P.Places.number in
    let w = watching g.S.Stops.enters g.S.Stops.exits g.S.Stops.bears g.S.Stops.forgets in
    let has = c.in_ok-told.ensures.runs in
    let asks = g.S.Stops.asks in
    let table = g.P.Places.mounts c.args.self.now.places in
    on_ok_weaker c.run_call.result
    (λ met.
    turn-met number w table asks c.args.fuel c.args.pid _ c.run.new.self c.run_call.new.self c.in_ok-told.told has c.in_ok-told.ensures.met
    (subst (λ (h : Halt). MetIf g.row.MARKED w table asks h c.args.pid (machine number c.run.new.self) c.run.new.self.met c.run_call.new.self.met) (sym c.in-AtCall.is)
    (subst (λ pl. HasMetAt g.row.MARKED w (g.P.Places.mounts pl) asks c.args.pid (machine number c.run.new.self) c.run.new.self.met c.run_call.new.self.met) has.places met)))
    c.run_call.ensures.met

pub returns-in-Spent-clause-met : goal.returns-in-Spent-clause-met
returns-in-Spent-clause-met g c =
    let number = g.P.Places.number in
    let w = watching g.S.Stops.enters g.S.Stops.exits g.S.Stops.bears g.S.Stops.forgets in
    let met = c.run.new.self.met in
    let table = g.P.Places.mounts c.args.self.now.places in
    turn-met number w table g.S.Stops.asks c.args.fuel c.args.pid _ c.run.new.self c.run.new.self c.in_ok-told.told c.in_ok-told.ensures.runs c.in_ok-told.ensures.met
    (subst (λ (h : Halt). MetIf g.row.MARKED w table g.S.Stops.asks h c.args.pid (machine number c.run.new.self) met met) (sym c.in-Spent.is) refl)

pub returns-in-Killed-clause-met : goal.returns-in-Killed-clause-met
returns-in-Killed-clause-met g c =
    let number = g.P.Places.number in
    let w = watching g.S.Stops.enters g.S.Stops.exits g.S.Stops.bears g.S.Stops.forgets in
    let met = c.run.new.self.met in
    let table = g.P.Places.mounts c.args.self.now.places in
    turn-met number w table g.S.Stops.asks c.args.fuel c.args.pid _ c.run.new.self c.run.new.self c.in_ok-told.told c.in_ok-told.ensures.runs c.in_ok-told.ensures.met
    (subst (λ (h : Halt). MetIf g.row.MARKED w table g.S.Stops.asks h c.args.pid (machine number c.run.new.self) met met) (sym c.in-Killed.is) refl)
