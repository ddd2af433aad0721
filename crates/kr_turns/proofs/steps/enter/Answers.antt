use Rattle.std.proofs.Common.{◌≡◌, ◌∙◌, ap, subst}
use Rattle.std.specs.Prelude.{OnOk, not}
use Rattle.kr_steps.specs.kr_stops.Stopped.{Stopped, nothing_handed, unmet_after}
use Rattle.kr_turns.specs.Held.{stopped_in, stopped_of}
use Rattle.kr_turns.proofs.HereLemmas.{met-asked}
use Rattle.kr_turns.proofs.steps.enter.Goals as goal

-- none was met before the stop
pub returns-in-Ok-clause-met : goal.returns-in-Ok-clause-met
returns-in-Ok-clause-met g c =
    let here = c.new-here.result in
    let asks = λ (t : Stopped). unmet_after (g.S.Stops.asks c.args.stops.now t) here.unmet in
    let told = subst (λ (r : _). OnOk r (c.entry-entered.new.t.unmet ≡ asks (stopped_of g.P.Places.number here))) c.in-Ok.is c.entry-entered.ensures.asks in
    c.met-met.ensures ∙ ap not (told ∙ ap asks c.new-here.ensures.stopped)
    ∙ met-asked (g.S.Stops.asks c.args.stops.now (stopped_in g.P.Places.number c.args.state.now c.args.pid nothing_handed)) here.unmet c.new-here.ensures.unmet
