use Rattle.std.proofs.Common.{List, true, ap, lit<, refl, subst, sym, ◌∙◌}
use Rattle.std.specs.Prelude.{IsSome}
use Rattle.kr_turns.proofs.AlteredLemmas.{same-both}
use Rattle.kr_turns.proofs.MakingLemmas.{lives-meant, lives-numbered}
use Rattle.kr_turns.specs.Turn.{Tally}
use Rattle.kr_turns.specs.kr_ops.Meaning.{meaning}
use Rattle.kr_turns.specs.kr_seen.Numbered.{state_numbered}
use Rattle.kr_turns.specs.kr_stops.Watching.{watching}
use Rattle.kr_core.specs.Between.{between_of, handed_at, phase_at}
use Rattle.kr_core.specs.Counting.{IsCounted}
use Rattle.kr_core.specs.Kernel.{Kernel}
use Rattle.kr_core.specs.Moving.{Exit}
use Rattle.kr_core.specs.Standing.{AreStanding}
use Rattle.kr_core.specs.Stepping.{HasMoved}
use Rattle.kr_core.specs.declared.paused.Paused.{Paused}
use Rattle.kr_core.specs.declared.paused.Phase.TheVariants as phase
use Rattle.kr_core.proofs.CountingLemmas.{left-counts}
use Rattle.kr_core.proofs.PausedLemmas.{done-at, done-keeps, run-own}
use Rattle.kr_core.proofs.StandingLemmas.{stand-run}
use Rattle.kr_core.proofs.SteppingLemmas.{has-phase, leave-moves, phase-is}
use Rattle.kr_core.proofs.kernel.Kernel.leave.Goals as goal

pub unreachable-requires : goal.unreachable-requires
unreachable-requires g c =
    let number = g.P.Places.number in
    let at = has-phase number c.args.pid _ _ c.self.view_is phase.Done c.requires.phase in
    let told = ap (λ (l : List Paused). handed_at (between_of c.args.pid l)) (sym c.as_slice.ensures.value) ∙ ap handed_at (sym c.between_of.ensures) ∙ sym c.handed_at.ensures in
    done-keeps (between_of c.args.pid c.self.inside.paused.items) at.stands (told ∙ c.in_default.is)

pub leave_call-requires : goal.leave_call-requires
leave_call-requires g c =
    let number = g.P.Places.number in
    let whole = ap (λ k. k.whole) c.self.view_is ∙ c.requires.whole in
    let at = has-phase number c.args.pid _ _ c.self.view_is phase.Done c.requires.phase in
    (lit< tt, (c.self.invariant.runs whole, (lives-meant number c.args.pid c.self.inside.state (subst IsSome (sym at.lives) refl), c.self.invariant.agreement whole)))

pub invariant_of-self-2 : goal.invariant_of-self-2
invariant_of-self-2 g c =
    let number = g.P.Places.number in
    let inside = c.self.inside in
    let before = ap (λ k. k.whole) c.self.view_is ∙ c.requires.whole in
    let new = c.leave_call.new.state in
    record {
      named = c.self.invariant.named;
      few = c.self.invariant.few;
      counted = c.self.invariant.counted;
      runs = λ whole. c.in_ok-leave_call.ensures.stands.runs;
      agreement = λ whole. c.in_ok-leave_call.ensures.agrees;
      standing = λ whole.
          subst (λ (l : List Paused). AreStanding g.S.Stops.is_free c.leave_call.new.stops (state_numbered number (meaning new)) l) (sym c.let_run.ensures)
          (stand-run g.S.Stops.is_free inside.stops c.leave_call.new.stops (state_numbered number (meaning inside.state)) (state_numbered number (meaning new)) c.args.pid
          c.in_ok-leave_call.ensures.others c.in_ok-leave_call.ensures.free inside.paused.items (c.self.invariant.standing before));
    }

pub returns-clause-moves : goal.returns-clause-moves
returns-clause-moves g c = λ fuel.
    let number = g.P.Places.number in
    let inside = c.self.inside in
    let w = watching g.S.Stops.enters g.S.Stops.exits g.S.Stops.bears g.S.Stops.forgets in
    let at = has-phase number c.args.pid _ _ c.self.view_is phase.Done c.requires.phase in
    let tally : Tally = record { status = inside.status; broken = inside.broken } in
    let told = ap (λ (l : List Paused). handed_at (between_of c.args.pid l)) (sym c.as_slice.ensures.value) ∙ ap handed_at (sym c.between_of.ensures) ∙ sym c.handed_at.ensures in
    let new : Kernel g.row.P.Denot g.row.S.Denot g.row.P-Mount.Denot g.row.MARKED = record {
      places = inside.places;
      stops = c.leave_call.new.stops;
      state = c.leave_call.new.state;
      status = inside.status;
      broken = inside.broken;
      turns = inside.turns;
      calls = inside.calls;
      shape_changes = inside.shape_changes;
      byte_changes = inside.byte_changes;
      met = inside.met;
      paused = c.let_run.new.paused.items;
      whole = true;
    } in
    subst (λ (k : Kernel g.row.P.Denot g.row.S.Denot g.row.P-Mount.Denot g.row.MARKED). HasMoved number w (g.P.Places.mounts k.places) fuel c.args.pid Exit k new) c.self.view_is
    (leave-moves number w (g.P.Places.mounts inside.places) fuel c.args.pid _ new at.own at.lives refl refl c.in-Some.handed
    (done-at (between_of c.args.pid inside.paused.items) at.stands c.in-Some.handed (told ∙ c.in-Some.is)) (c.in_ok-leave_call.ensures.exits.exits tally) c.let_run.ensures refl)

pub returns-clause-phase : goal.returns-clause-phase
returns-clause-phase g c =
    let number = g.P.Places.number in
    let inside = c.self.inside in
    let new : Kernel g.row.P.Denot g.row.S.Denot g.row.P-Mount.Denot g.row.MARKED = record {
      places = inside.places;
      stops = c.leave_call.new.stops;
      state = c.leave_call.new.state;
      status = inside.status;
      broken = inside.broken;
      turns = inside.turns;
      calls = inside.calls;
      shape_changes = inside.shape_changes;
      byte_changes = inside.byte_changes;
      met = inside.met;
      paused = c.let_run.new.paused.items;
      whole = true;
    } in
    phase-is number c.args.pid new (lives-numbered number c.args.pid c.leave_call.new.state c.in_ok-leave_call.ensures.stands.lives) phase.Running
    (ap phase_at (ap (between_of c.args.pid) c.let_run.ensures ∙ run-own c.args.pid inside.paused.items))

pub returns-clause-counted : goal.returns-clause-counted
returns-clause-counted g c =
    let number = g.P.Places.number in
    let inside = c.self.inside in
    let new : Kernel g.row.P.Denot g.row.S.Denot g.row.P-Mount.Denot g.row.MARKED = record {
      places = inside.places;
      stops = c.leave_call.new.stops;
      state = c.leave_call.new.state;
      status = inside.status;
      broken = inside.broken;
      turns = inside.turns;
      calls = inside.calls;
      shape_changes = inside.shape_changes;
      byte_changes = inside.byte_changes;
      met = inside.met;
      paused = c.let_run.new.paused.items;
      whole = true;
    } in
    subst (λ (k : Kernel g.row.P.Denot g.row.S.Denot g.row.P-Mount.Denot g.row.MARKED). IsCounted number k new) c.self.view_is
    (left-counts number _ new (same-both inside.state.tree c.leave_call.new.state.tree c.in_ok-leave_call.ensures.tree) refl refl)

pub returns-clause-met : goal.returns-clause-met
returns-clause-met g c = ap (λ (k : Kernel g.row.P.Denot g.row.S.Denot g.row.P-Mount.Denot g.row.MARKED). k.met) c.self.view_is
