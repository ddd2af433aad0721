use Rattle.std.proofs.Common.{List, true, ap, lit<, refl, subst, sym, ◌∙◌}
use Rattle.std.specs.Prelude.{IsSome}
use Rattle.std.specs.Option.{option_map_or}
use Rattle.kr_turns.proofs.MakingLemmas.{lives-meant}
use Rattle.kr_turns.specs.Making.{EndsAs, machine_of}
use Rattle.kr_turns.specs.Turn.{Tally}
use Rattle.kr_turns.specs.declared.steps.Halt.{Halt}
use Rattle.kr_turns.specs.kr_ops.Meaning.{meaning}
use Rattle.kr_turns.specs.kr_seen.Numbered.{state_numbered}
use Rattle.kr_turns.specs.kr_stops.Watching.{watching}
use Rattle.kr_turns.specs.rv_cpu.Run.{ran}
use Rattle.kr_core.specs.Between.{between_of, phase_at}
use Rattle.kr_core.specs.Counting.{IsCounted}
use Rattle.kr_core.specs.Kernel.{Kernel}
use Rattle.kr_core.specs.Moving.{computing, paused_by}
use Rattle.kr_core.specs.Standing.{AreStanding}
use Rattle.kr_core.specs.Stepping.{HasRunFor}
use Rattle.kr_core.specs.declared.paused.Between.TheVariants.{AtCall}
use Rattle.kr_core.specs.declared.paused.Paused.{Paused}
use Rattle.kr_core.specs.declared.paused.Phase.TheVariants as phase
use Rattle.kr_core.proofs.CountingLemmas.{left-counts}
use Rattle.kr_core.proofs.PausedLemmas.{paused-own, running-at}
use Rattle.kr_core.proofs.StandingLemmas.{stand-halted}
use Rattle.kr_core.proofs.SteppingLemmas.{has-phase, phase-is, stretch-lives}
use Rattle.kr_core.proofs.kernel.Kernel.run.Goals as goal

pub run_for-requires : goal.run_for-requires
run_for-requires g c =
    let number = g.P.Places.number in
    let whole = ap (λ k. k.whole) c.self.view_is ∙ c.requires.whole in
    let at = has-phase number c.args.pid _ _ c.self.view_is phase.Running c.requires.phase in (
      lit< tt,
      (
        record {
          number = number;
          table = g.P.Places.mounts c.self.inside.places;
          calls = c.self.inside.calls;
          runs = c.self.invariant.runs whole;
          lives = lives-meant number c.args.pid c.self.inside.state (subst IsSome (sym at.lives) refl);
        },
        c.self.invariant.agreement whole,
      ),
    )

pub invariant_of-self-2 : goal.invariant_of-self-2
invariant_of-self-2 g c =
    let number = g.P.Places.number in
    let inside = c.self.inside in
    let before = ap (λ k. k.whole) c.self.view_is ∙ c.requires.whole in
    let at = has-phase number c.args.pid _ _ c.self.view_is phase.Running c.requires.phase in
    let told = c.in_ok-told.told in
    record {
      named = c.self.invariant.named;
      few = c.self.invariant.few;
      counted = c.self.invariant.counted;
      runs = λ whole. c.in_ok-told.ensures.runs number (g.P.Places.mounts inside.places) inside.calls (c.self.invariant.runs before);
      agreement = λ whole. c.in_ok-told.ensures.agrees;
      standing = λ whole.
          subst (λ (l : List Paused). AreStanding g.S.Stops.is_free c.run_for.new.stops (state_numbered number (meaning c.run_for.new.state)) l) (sym c.in_ok-pause_by.ensures)
          (stand-halted g.S.Stops.is_free inside.stops c.run_for.new.stops (state_numbered number (meaning inside.state)) (state_numbered number (meaning c.run_for.new.state)) c.args.pid
          (c.in_ok-told.ensures.others number) c.in_ok-told.ensures.free inside.paused.items (c.self.invariant.standing before)
          (running-at (between_of c.args.pid inside.paused.items) at.stands) told.halt
          (stretch-lives (watching g.S.Stops.enters g.S.Stops.exits g.S.Stops.bears g.S.Stops.forgets) number _ c.args.pid inside.state inside.stops c.run_for.new.state c.run_for.new.stops told (c.in_ok-told.ensures.stretch number) at.own at.lives));
    }

pub returns-clause-runs : goal.returns-clause-runs
returns-clause-runs g c =
    let number = g.P.Places.number in
    let inside = c.self.inside in
    let w = watching g.S.Stops.enters g.S.Stops.exits g.S.Stops.bears g.S.Stops.forgets in
    let at = has-phase number c.args.pid _ _ c.self.view_is phase.Running c.requires.phase in
    let told = c.in_ok-told.told in
    let tally : Tally = record { status = inside.status; broken = inside.broken } in
    let new : Kernel g.row.P.Denot g.row.S.Denot g.row.P-Mount.Denot g.row.MARKED = record {
      places = inside.places;
      stops = c.run_for.new.stops;
      state = c.run_for.new.state;
      status = c.status_after-self-inside.result;
      broken = c.first_of-self-inside.result;
      turns = inside.turns;
      calls = inside.calls;
      shape_changes = inside.shape_changes;
      byte_changes = inside.byte_changes;
      met = inside.met;
      paused = c.pause_by.new.paused.items;
      whole = true;
    } in
    let end = ran c.args.fuel at.own.image.regs at.own.image.memory in
    let ends = subst (λ (t : Tally). EndsAs w g.row.MARKED (g.P.Places.mounts inside.places) at.own.pid end.done end.event (computing at.own end.regs end.memory (machine_of number inside.state inside.stops tally)) (machine_of number c.run_for.new.state c.run_for.new.stops t) told)
    (λ i. record { status = sym (c.status_after-self-inside.ensures ∙ ap (λ s. option_map_or (λ own. own) s inside.status) c.status-ended.ensures) i; broken = sym c.first_of-self-inside.ensures i })
    ((c.in_ok-told.ensures.stretch number).ends (g.P.Places.mounts inside.places) at.own at.lives tally) in
    subst (λ (k : Kernel g.row.P.Denot g.row.S.Denot g.row.P-Mount.Denot g.row.MARKED). HasRunFor number w (g.P.Places.mounts k.places) c.args.fuel c.args.pid k new told) c.self.view_is
    (record { own = at.own; lives = at.lives; ends = ends; paused = c.in_ok-pause_by.ensures; calls = refl; places = refl; turns = refl })

pub returns-clause-phase : goal.returns-clause-phase
returns-clause-phase g c = λ halted.
    let number = g.P.Places.number in
    let inside = c.self.inside in
    let at = has-phase number c.args.pid _ _ c.self.view_is phase.Running c.requires.phase in
    let told = c.in_ok-told.told in
    let new : Kernel g.row.P.Denot g.row.S.Denot g.row.P-Mount.Denot g.row.MARKED = record {
      places = inside.places;
      stops = c.run_for.new.stops;
      state = c.run_for.new.state;
      status = c.status_after-self-inside.result;
      broken = c.first_of-self-inside.result;
      turns = inside.turns;
      calls = inside.calls;
      shape_changes = inside.shape_changes;
      byte_changes = inside.byte_changes;
      met = inside.met;
      paused = c.pause_by.new.paused.items;
      whole = true;
    } in
    let lives = stretch-lives (watching g.S.Stops.enters g.S.Stops.exits g.S.Stops.bears g.S.Stops.forgets) number _ c.args.pid inside.state inside.stops c.run_for.new.state c.run_for.new.stops told (c.in_ok-told.ensures.stretch number) at.own at.lives halted in
    phase-is number c.args.pid new lives phase.AtCall
    (ap phase_at (ap (between_of c.args.pid) (c.in_ok-pause_by.ensures ∙ ap (λ (h : Halt). paused_by c.args.pid h inside.paused.items) halted) ∙ paused-own c.args.pid inside.paused.items AtCall))

pub returns-clause-counted : goal.returns-clause-counted
returns-clause-counted g c =
    let number = g.P.Places.number in
    let inside = c.self.inside in
    let new : Kernel g.row.P.Denot g.row.S.Denot g.row.P-Mount.Denot g.row.MARKED = record {
      places = inside.places;
      stops = c.run_for.new.stops;
      state = c.run_for.new.state;
      status = c.status_after-self-inside.result;
      broken = c.first_of-self-inside.result;
      turns = inside.turns;
      calls = inside.calls;
      shape_changes = inside.shape_changes;
      byte_changes = inside.byte_changes;
      met = inside.met;
      paused = c.pause_by.new.paused.items;
      whole = true;
    } in
    subst (λ (k : Kernel g.row.P.Denot g.row.S.Denot g.row.P-Mount.Denot g.row.MARKED). IsCounted number k new) c.self.view_is
    (left-counts number _ new c.in_ok-told.ensures.leaves refl refl)

pub returns-clause-met : goal.returns-clause-met
returns-clause-met g c = ap (λ (k : Kernel g.row.P.Denot g.row.S.Denot g.row.P-Mount.Denot g.row.MARKED). k.met) c.self.view_is
