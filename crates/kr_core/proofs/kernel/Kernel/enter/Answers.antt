use Rattle.std.proofs.Common.{List, true, ap, lit<, refl, subst, sym, ◌∙◌}
use Rattle.std.specs.Prelude.{◌||◌, IsSome}
use Rattle.kr_turns.proofs.AlteredLemmas.{same-both}
use Rattle.kr_turns.proofs.MakingLemmas.{lives-meant, lives-numbered}
use Rattle.kr_turns.proofs.kr_ops.UseLemmas.{sound-of}
use Rattle.kr_turns.specs.Turn.{Tally, calling}
use Rattle.kr_turns.specs.kr_ops.Meaning.{meaning}
use Rattle.kr_turns.specs.kr_seen.Numbered.{state_numbered}
use Rattle.kr_turns.specs.kr_stops.Watching.{watching}
use Rattle.kr_core.specs.Between.{between_of, paused_at, phase_at}
use Rattle.kr_core.specs.Counting.{IsCounted}
use Rattle.kr_core.specs.Kernel.{Kernel, machine}
use Rattle.kr_core.specs.Moving.{Entry}
use Rattle.kr_core.specs.Standing.{AreStanding}
use Rattle.kr_core.specs.Stepping.{HasMoved}
use Rattle.kr_core.specs.declared.paused.Begun.{Begun}
use Rattle.kr_core.specs.declared.paused.Between.TheVariants.{Entered}
use Rattle.kr_core.specs.declared.paused.Paused.{Paused}
use Rattle.kr_core.specs.declared.paused.Phase.TheVariants as phase
use Rattle.kr_core.proofs.CountingLemmas.{left-counts}
use Rattle.kr_core.proofs.PausedLemmas.{call-at, paused-own}
use Rattle.kr_core.proofs.StandingLemmas.{stand-paused}
use Rattle.kr_core.proofs.SteppingLemmas.{enter-moves, has-phase, phase-is}
use Rattle.kr_core.proofs.kernel.Kernel.enter.Goals as goal

pub calls_execve-exec-requires : goal.calls_execve-exec-requires
calls_execve-exec-requires g c =
    let number = g.P.Places.number in
    let runs = c.self.invariant.runs (ap (λ k. k.whole) c.self.view_is ∙ c.requires.whole) in
    let at = has-phase number c.args.pid _ _ c.self.view_is phase.AtCall c.requires.phase in (
      lit< tt,
      record {
        sound = sound-of number (g.P.Places.mounts c.self.inside.places) c.self.inside.state runs.lasts.lawful runs.served;
        lives = lives-meant number c.args.pid c.self.inside.state (subst IsSome (sym at.lives) refl);
      },
    )

pub enter_call-requires : goal.enter_call-requires
enter_call-requires g c =
    let number = g.P.Places.number in
    let whole = ap (λ k. k.whole) c.self.view_is ∙ c.requires.whole in
    let at = has-phase number c.args.pid _ _ c.self.view_is phase.AtCall c.requires.phase in
    (lit< tt, (c.self.invariant.runs whole, (lives-meant number c.args.pid c.self.inside.state (subst IsSome (sym at.lives) refl), c.self.invariant.agreement whole)))

pub invariant_of-self-in_err-pause : goal.invariant_of-self-in_err-pause
invariant_of-self-in_err-pause g c = record {
  named = c.self.invariant.named;
  few = c.self.invariant.few;
  counted = c.self.invariant.counted;
  runs = λ whole. absurd cc;
  agreement = λ whole. absurd cc;
  standing = λ whole. absurd cc;
}

pub invariant_of-self-2 : goal.invariant_of-self-2
invariant_of-self-2 g c =
    let number = g.P.Places.number in
    let inside = c.self.inside in
    let before = ap (λ k. k.whole) c.self.view_is ∙ c.requires.whole in
    let new = c.enter_call.new.state in
    let begun : Begun = record { no_shelf = c.in_ok-no_shelf.field-0.no_shelf; exec = c.calls_execve-exec.result } in
    record {
      named = c.self.invariant.named;
      few = c.self.invariant.few;
      counted = c.self.invariant.counted;
      runs = λ whole. c.in_ok-no_shelf.ensures.stands.runs;
      agreement = λ whole. c.in_ok-no_shelf.ensures.agrees;
      standing = λ whole.
          subst (λ (l : List Paused). AreStanding g.S.Stops.is_free c.enter_call.new.stops (state_numbered number (meaning new)) l) (sym c.in_ok-pause.ensures)
          (stand-paused g.S.Stops.is_free inside.stops c.enter_call.new.stops (state_numbered number (meaning inside.state)) (state_numbered number (meaning new)) c.args.pid
          c.in_ok-no_shelf.ensures.others c.in_ok-no_shelf.ensures.free inside.paused.items (c.self.invariant.standing before) (Entered begun)
          (record { lives = lives-numbered number c.args.pid new c.in_ok-no_shelf.ensures.stands.lives; freed = c.in_ok-no_shelf.ensures.frees }));
    }

pub returns-clause-moves : goal.returns-clause-moves
returns-clause-moves g c = λ fuel.
    let number = g.P.Places.number in
    let inside = c.self.inside in
    let w = watching g.S.Stops.enters g.S.Stops.exits g.S.Stops.bears g.S.Stops.forgets in
    let at = has-phase number c.args.pid _ _ c.self.view_is phase.AtCall c.requires.phase in
    let tally : Tally = record { status = inside.status; broken = inside.broken } in
    let made = c.in_ok-no_shelf.ensures.enters in
    let new : Kernel g.row.P.Denot g.row.S.Denot g.row.P-Mount.Denot g.row.MARKED = record {
      places = inside.places;
      stops = c.enter_call.new.stops;
      state = c.enter_call.new.state;
      status = inside.status;
      broken = inside.broken;
      turns = inside.turns;
      calls = inside.calls;
      shape_changes = inside.shape_changes;
      byte_changes = inside.byte_changes;
      met = c.either-self-inside.result;
      paused = c.pause.new.paused.items;
      whole = true;
    } in
    let paused = c.in_ok-pause.ensures ∙ ap (λ (b : Begun). paused_at c.args.pid (Entered b) inside.paused.items) (λ i. record { no_shelf = made.lacks i; exec = c.calls_execve-exec.ensures number i }) in
    subst (λ (k : Kernel g.row.P.Denot g.row.S.Denot g.row.P-Mount.Denot g.row.MARKED). HasMoved number w (g.P.Places.mounts k.places) fuel c.args.pid Entry k new) c.self.view_is
    (enter-moves number w (g.P.Places.mounts inside.places) fuel c.args.pid _ new at.own at.lives refl refl (call-at (between_of c.args.pid inside.paused.items) at.stands) (made.enters tally) paused refl)

pub returns-clause-phase : goal.returns-clause-phase
returns-clause-phase g c =
    let number = g.P.Places.number in
    let inside = c.self.inside in
    let new : Kernel g.row.P.Denot g.row.S.Denot g.row.P-Mount.Denot g.row.MARKED = record {
      places = inside.places;
      stops = c.enter_call.new.stops;
      state = c.enter_call.new.state;
      status = inside.status;
      broken = inside.broken;
      turns = inside.turns;
      calls = inside.calls;
      shape_changes = inside.shape_changes;
      byte_changes = inside.byte_changes;
      met = c.either-self-inside.result;
      paused = c.pause.new.paused.items;
      whole = true;
    } in
    phase-is number c.args.pid new (lives-numbered number c.args.pid c.enter_call.new.state c.in_ok-no_shelf.ensures.stands.lives) phase.Entered
    (ap phase_at (ap (between_of c.args.pid) c.in_ok-pause.ensures ∙ paused-own c.args.pid inside.paused.items (Entered (record { no_shelf = c.in_ok-no_shelf.field-0.no_shelf; exec = c.calls_execve-exec.result }))))

pub returns-clause-counted : goal.returns-clause-counted
returns-clause-counted g c =
    let number = g.P.Places.number in
    let inside = c.self.inside in
    let new : Kernel g.row.P.Denot g.row.S.Denot g.row.P-Mount.Denot g.row.MARKED = record {
      places = inside.places;
      stops = c.enter_call.new.stops;
      state = c.enter_call.new.state;
      status = inside.status;
      broken = inside.broken;
      turns = inside.turns;
      calls = inside.calls;
      shape_changes = inside.shape_changes;
      byte_changes = inside.byte_changes;
      met = c.either-self-inside.result;
      paused = c.pause.new.paused.items;
      whole = true;
    } in
    subst (λ (k : Kernel g.row.P.Denot g.row.S.Denot g.row.P-Mount.Denot g.row.MARKED). IsCounted number k new) c.self.view_is
    (left-counts number _ new (same-both inside.state.tree c.enter_call.new.state.tree c.in_ok-no_shelf.ensures.tree) refl refl)

pub returns-clause-met : goal.returns-clause-met
returns-clause-met g c =
    c.either-self-inside.ensures ∙ ap (λ b. c.self.inside.met || b) c.in_ok-no_shelf.ensures.met
    ∙ ap (λ (k : Kernel g.row.P.Denot g.row.S.Denot g.row.P-Mount.Denot g.row.MARKED). k.met || g.S.Stops.asks k.stops (calling g.row.MARKED c.args.pid (machine g.P.Places.number k).state)) c.self.view_is
