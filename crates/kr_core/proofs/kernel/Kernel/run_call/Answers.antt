use Rattle.std.proofs.Common.{rules, ◌<◌, sym, subst, ◌∙◌, ◌≡◌, ◌||◌}
use Rattle.std.specs.Prelude.{◌^◌}
use Rattle.std.proofs.lemmas.Result.{on_ok_weaker}
use Rattle.kr_turns.specs.kr_stops.Watching.{watching}
use Rattle.kr_core.specs.Moving.{Exit}
use Rattle.kr_core.specs.Stepping.{HasCalled, HasMoved, IsLeftAt}
use Rattle.kr_core.proofs.SteppingLemmas.{made-done, made-gone, made-waiting}
use Rattle.kr_turns.specs.Breaking.{nothing_reached}
use Rattle.kr_turns.specs.PlainCall.{plain_reach}
use Rattle.kr_core.specs.Kernel.{machine}
use Rattle.kr_core.proofs.MetLemmas.{call-met}
use Rattle.kr_core.proofs.kernel.Kernel.run_call.Goals as goal

pub call-requires : goal.call-requires
call-requires g c =
    (search rules, (c.in_ok-enter.ensures.whole, (subst (λ n. n < 2 ^ 31) (sym (c.in_ok-enter.ensures.moves 0).calls) c.requires.few, c.in_ok-enter.ensures.phase)))

pub leave-requires : goal.leave-requires
leave-requires g c = (search rules, (c.in_ok-after.ensures.whole, subst (λ a. IsLeftAt g.P.Places.number c.args.pid c.call.new.self a) c.in-Behind.is c.in_ok-after.ensures.phase))

pub returns-in-Waiting-clause-call : goal.returns-in-Waiting-clause-call
returns-in-Waiting-clause-call g c =
    let number = g.P.Places.number in
    let w = watching g.S.Stops.enters g.S.Stops.exits g.S.Stops.bears g.S.Stops.forgets in
    let entry = c.in_ok-enter.ensures.moves 0 in
    let behind = subst (λ pl. HasCalled number w (g.P.Places.mounts pl) c.args.pid c.enter.new.self c.call.new.self c.in_ok-after.after) entry.places c.in_ok-after.ensures.called in
    made-waiting number w _ c.args.pid _ c.enter.new.self c.call.new.self c.run_again.new.self c.in_ok-after.after c.requires.alone entry behind c.in-Waiting.is c.run_again.ensures

pub returns-in-Gone-clause-call : goal.returns-in-Gone-clause-call
returns-in-Gone-clause-call g c =
    let number = g.P.Places.number in
    let w = watching g.S.Stops.enters g.S.Stops.exits g.S.Stops.bears g.S.Stops.forgets in
    let entry = c.in_ok-enter.ensures.moves 0 in
    let behind = subst (λ pl. HasCalled number w (g.P.Places.mounts pl) c.args.pid c.enter.new.self c.call.new.self c.in_ok-after.after) entry.places c.in_ok-after.ensures.called in
    made-gone number w _ c.args.pid _ c.enter.new.self c.call.new.self c.call.new.self c.in_ok-after.after c.requires.alone entry behind c.in-Gone.is

pub returns-in-Behind-clause-call : goal.returns-in-Behind-clause-call
returns-in-Behind-clause-call g c =
    let number = g.P.Places.number in
    let w = watching g.S.Stops.enters g.S.Stops.exits g.S.Stops.bears g.S.Stops.forgets in
    let entry = c.in_ok-enter.ensures.moves 0 in
    let behind = subst (λ pl. HasCalled number w (g.P.Places.mounts pl) c.args.pid c.enter.new.self c.call.new.self c.in_ok-after.after) entry.places c.in_ok-after.ensures.called in
    on_ok_weaker c.leave.result
    (λ moves.
    made-done number w _ c.args.pid _ c.enter.new.self c.call.new.self c.leave.new.self c.in_ok-after.after c.requires.alone entry behind c.in-Behind._handed c.in-Behind.is
    (subst (λ pl. HasMoved number w (g.P.Places.mounts pl) 0 c.args.pid Exit c.call.new.self c.leave.new.self) (behind.places ∙ entry.places) (moves 0)))
    c.leave.ensures.moves

pub returns-in-Waiting-clause-whole : goal.returns-in-Waiting-clause-whole
returns-in-Waiting-clause-whole g c = c.run_again.ensures.whole ∙ c.in_ok-after.ensures.whole

pub returns-in-Waiting-clause-met : goal.returns-in-Waiting-clause-met
returns-in-Waiting-clause-met g c =
    let number = g.P.Places.number in
    let w = watching g.S.Stops.enters g.S.Stops.exits g.S.Stops.bears g.S.Stops.forgets in
    let entry = c.in_ok-enter.ensures.moves 0 in
    let reached = subst (λ pl. c.call.new.self.met ≡ (c.enter.new.self.met || (plain_reach (g.P.Places.mounts pl) c.args.pid (machine number c.enter.new.self).state nothing_reached).met_proc)) entry.places c.in_ok-after.ensures.met in
    call-met number w _ g.S.Stops.asks c.args.pid _ c.enter.new.self c.run_again.new.self.met c.requires.alone entry c.in_ok-enter.ensures.met (c.run_again.ensures.met ∙ reached)

pub returns-in-Gone-clause-met : goal.returns-in-Gone-clause-met
returns-in-Gone-clause-met g c =
    let number = g.P.Places.number in
    let w = watching g.S.Stops.enters g.S.Stops.exits g.S.Stops.bears g.S.Stops.forgets in
    let entry = c.in_ok-enter.ensures.moves 0 in
    let reached = subst (λ pl. c.call.new.self.met ≡ (c.enter.new.self.met || (plain_reach (g.P.Places.mounts pl) c.args.pid (machine number c.enter.new.self).state nothing_reached).met_proc)) entry.places c.in_ok-after.ensures.met in
    call-met number w _ g.S.Stops.asks c.args.pid _ c.enter.new.self c.call.new.self.met c.requires.alone entry c.in_ok-enter.ensures.met reached

pub returns-in-Behind-clause-met : goal.returns-in-Behind-clause-met
returns-in-Behind-clause-met g c =
    let number = g.P.Places.number in
    let w = watching g.S.Stops.enters g.S.Stops.exits g.S.Stops.bears g.S.Stops.forgets in
    let entry = c.in_ok-enter.ensures.moves 0 in
    let reached = subst (λ pl. c.call.new.self.met ≡ (c.enter.new.self.met || (plain_reach (g.P.Places.mounts pl) c.args.pid (machine number c.enter.new.self).state nothing_reached).met_proc)) entry.places c.in_ok-after.ensures.met in
    on_ok_weaker c.leave.result (λ met. call-met number w _ g.S.Stops.asks c.args.pid _ c.enter.new.self c.leave.new.self.met c.requires.alone entry c.in_ok-enter.ensures.met (met ∙ reached)) c.leave.ensures.met
