use Rattle.std.proofs.Common.{◌≡◌, ◌<◌, ◌≤◌, ◌+◌, List, suc, true, ap, arith, lit<, refl, subst, sym, ◌∙◌}
use Rattle.std.specs.Prelude.{◌||◌, IsSome, ◌^◌}
use Rattle.kr_turns.proofs.MakingLemmas.{lives-meant}
use Rattle.kr_turns.specs.CallSteps.{IsCarriedOut}
use Rattle.kr_turns.specs.Making.{machine_of}
use Rattle.kr_turns.specs.Steps.{Runs}
use Rattle.kr_turns.specs.Turn.{Tally}
use Rattle.kr_turns.specs.kr_ops.Meaning.{meaning}
use Rattle.kr_turns.specs.kr_seen.Numbered.{state_numbered}
use Rattle.kr_turns.specs.kr_stops.Watching.{watching}
use Rattle.kr_core.specs.Between.{begun_at, between_of}
use Rattle.kr_core.specs.Counting.{IsCounted}
use Rattle.kr_core.specs.Kernel.{Kernel, machine}
use Rattle.kr_core.specs.Standing.{AreStanding}
use Rattle.kr_core.specs.Stepping.{BornRun, HasCalled}
use Rattle.kr_core.specs.declared.paused.Between.TheVariants.{Entered}
use Rattle.kr_core.specs.declared.paused.Paused.{Paused}
use Rattle.kr_core.specs.declared.paused.Phase.TheVariants as phase
use Rattle.kr_core.proofs.CountingLemmas.{call-counts, raised-within}
use Rattle.kr_core.proofs.PausedLemmas.{entered-at, entered-keeps}
use Rattle.kr_core.proofs.StandingLemmas.{stand-called}
use Rattle.kr_core.proofs.SteppingLemmas.{born-run, has-phase, left-at}
use Rattle.kr_turns.specs.Breaking.{nothing_reached}
use Rattle.kr_turns.specs.PlainCall.{plain_reach}
use Rattle.kr_core.proofs.kernel.Kernel.call.Goals as goal

pub unreachable-requires : goal.unreachable-requires
unreachable-requires g c =
    let number = g.P.Places.number in
    let at = has-phase number c.args.pid _ _ c.self.view_is phase.Entered c.requires.phase in
    let told = ap (λ (l : List Paused). begun_at (between_of c.args.pid l)) (sym c.as_slice.ensures.value) ∙ ap begun_at (sym c.between_of.ensures) ∙ sym c.begun_at.ensures in
    entered-keeps (between_of c.args.pid c.self.inside.paused.items) at.stands (told ∙ c.in_default.is)

pub make_call-requires : goal.make_call-requires
make_call-requires g c =
    let number = g.P.Places.number in
    let whole = ap (λ k. k.whole) c.self.view_is ∙ c.requires.whole in
    let at = has-phase number c.args.pid _ _ c.self.view_is phase.Entered c.requires.phase in
    let told = ap (λ (l : List Paused). begun_at (between_of c.args.pid l)) (sym c.as_slice.ensures.value) ∙ ap begun_at (sym c.between_of.ensures) ∙ sym c.begun_at.ensures in
    let stood = entered-at (between_of c.args.pid c.self.inside.paused.items) at.stands c.in-Some.begun (told ∙ c.in-Some.is) in
    let few = subst (λ n. n < 2 ^ 31) (sym (ap (λ k. k.calls) c.self.view_is)) c.requires.few in (
      lit< tt,
      (
        c.self.invariant.named,
        (
          c.self.invariant.few,
          (
            c.self.invariant.runs whole,
            (
              few,
              (
                lives-meant number c.args.pid c.self.inside.state (subst IsSome (sym at.lives) refl),
                (c.self.invariant.agreement whole, ((c.self.invariant.standing whole).each c.args.pid (Entered c.in-Some.begun) stood).freed),
              ),
            ),
          ),
        ),
      ),
    )

pub invariant_of-self-2 : goal.invariant_of-self-2
invariant_of-self-2 g c =
    let number = g.P.Places.number in
    let inside = c.self.inside in
    let before = ap (λ k. k.whole) c.self.view_is ∙ c.requires.whole in
    let at = has-phase number c.args.pid _ _ c.self.view_is phase.Entered c.requires.phase in
    let told = ap (λ (l : List Paused). begun_at (between_of c.args.pid l)) (sym c.as_slice.ensures.value) ∙ ap begun_at (sym c.between_of.ensures) ∙ sym c.begun_at.ensures in
    let stood = entered-at (between_of c.args.pid inside.paused.items) at.stands c.in-Some.begun (told ∙ c.in-Some.is) in
    let new = c.make_call.new.state in
    record {
      named = c.self.invariant.named;
      few = c.self.invariant.few;
      counted = (
        subst (λ n. n ≤ inside.calls + 1) (sym c.raised-shape.ensures) (raised-within inside.shape_changes inside.calls c.in_ok-made.made.altered.shape c.self.invariant.counted.0),
        subst (λ n. n ≤ inside.calls + 1) (sym c.raised-bytes.ensures) (raised-within inside.byte_changes inside.calls c.in_ok-made.made.altered.bytes c.self.invariant.counted.1),
      );
      runs = λ whole.
          let more : suc inside.calls ≡ inside.calls + 1 = omega arith in
          subst (λ n. Runs {M = g.row.MARKED} number (g.P.Places.mounts inside.places) n new) more c.in_ok-made.ensures.runs;
      agreement = λ whole. c.in_ok-made.ensures.agrees;
      standing = λ whole.
          subst (λ (l : List Paused). AreStanding g.S.Stops.is_free c.make_call.new.stops (state_numbered number (meaning new)) l) (sym c.in_ok-pause_after.ensures)
          (stand-called g.S.Stops.is_free inside.stops c.make_call.new.stops (state_numbered number (meaning inside.state)) (state_numbered number (meaning new)) c.args.pid
          c.in_ok-made.ensures.others c.in_ok-made.ensures.free inside.paused.items (c.self.invariant.standing before) c.in-Some.begun stood c.in_ok-made.made.after c.in_ok-made.ensures.stays);
    }

pub returns-clause-called : goal.returns-clause-called
returns-clause-called g c =
    let number = g.P.Places.number in
    let inside = c.self.inside in
    let w = watching g.S.Stops.enters g.S.Stops.exits g.S.Stops.bears g.S.Stops.forgets in
    let at = has-phase number c.args.pid _ _ c.self.view_is phase.Entered c.requires.phase in
    let told = ap (λ (l : List Paused). begun_at (between_of c.args.pid l)) (sym c.as_slice.ensures.value) ∙ ap begun_at (sym c.between_of.ensures) ∙ sym c.begun_at.ensures in
    let stood = entered-at (between_of c.args.pid inside.paused.items) at.stands c.in-Some.begun (told ∙ c.in-Some.is) in
    let tally : Tally = record { status = inside.status; broken = inside.broken } in
    let made = c.in_ok-made.made in
    let new : Kernel g.row.P.Denot g.row.S.Denot g.row.P-Mount.Denot g.row.MARKED = record {
      places = inside.places;
      stops = c.make_call.new.stops;
      state = c.make_call.new.state;
      status = c.status_after-self-inside.result;
      broken = c.first_of-self-inside.result;
      turns = inside.turns;
      calls = inside.calls + 1;
      shape_changes = c.raised-shape.result;
      byte_changes = c.raised-bytes.result;
      met = c.either-self-inside.result;
      paused = c.pause_after.new.paused.items;
      whole = true;
    } in
    let carried = subst (λ (t : Tally). IsCarriedOut w g.row.MARKED (g.P.Places.mounts inside.places) c.args.pid c.in-Some.begun.no_shelf (machine_of number inside.state inside.stops tally) (record { machine = machine_of number c.make_call.new.state c.make_call.new.stops t; after = made.after }))
    (λ i. record { status = sym c.status_after-self-inside.ensures i; broken = sym c.first_of-self-inside.ensures i })
    (c.in_ok-made.ensures.call.carried tally) in
    let more : inside.calls + 1 ≡ suc inside.calls = omega arith in
    subst (λ (k : Kernel g.row.P.Denot g.row.S.Denot g.row.P-Mount.Denot g.row.MARKED). HasCalled number w (g.P.Places.mounts k.places) c.args.pid k new made.after) c.self.view_is
    (record { own = at.own; lives = at.lives; begun = c.in-Some.begun; stood = stood; carried = carried; paused = c.in_ok-pause_after.ensures; calls = more; places = refl; turns = refl })

pub returns-clause-child : goal.returns-clause-child
returns-clause-child g c =
    let number = g.P.Places.number in
    let inside = c.self.inside in
    let before = ap (λ k. k.whole) c.self.view_is ∙ c.requires.whole in
    let at = has-phase number c.args.pid _ _ c.self.view_is phase.Entered c.requires.phase in
    let new : Kernel g.row.P.Denot g.row.S.Denot g.row.P-Mount.Denot g.row.MARKED = record {
      places = inside.places;
      stops = c.make_call.new.stops;
      state = c.make_call.new.state;
      status = c.status_after-self-inside.result;
      broken = c.first_of-self-inside.result;
      turns = inside.turns;
      calls = inside.calls + 1;
      shape_changes = c.raised-shape.result;
      byte_changes = c.raised-bytes.result;
      met = c.either-self-inside.result;
      paused = c.pause_after.new.paused.items;
      whole = true;
    } in
    subst (λ (k : Kernel g.row.P.Denot g.row.S.Denot g.row.P-Mount.Denot g.row.MARKED). BornRun number k new) c.self.view_is
    (born-run number c.args.pid _ new c.in_ok-made.made.after (subst IsSome (sym at.lives) refl) c.in_ok-pause_after.ensures
    (λ q between stood. ((c.self.invariant.standing before).each q between stood).lives))

pub returns-clause-phase : goal.returns-clause-phase
returns-clause-phase g c =
    let number = g.P.Places.number in
    let inside = c.self.inside in
    let at = has-phase number c.args.pid _ _ c.self.view_is phase.Entered c.requires.phase in
    let told = ap (λ (l : List Paused). begun_at (between_of c.args.pid l)) (sym c.as_slice.ensures.value) ∙ ap begun_at (sym c.between_of.ensures) ∙ sym c.begun_at.ensures in
    let stood = entered-at (between_of c.args.pid inside.paused.items) at.stands c.in-Some.begun (told ∙ c.in-Some.is) in
    let new : Kernel g.row.P.Denot g.row.S.Denot g.row.P-Mount.Denot g.row.MARKED = record {
      places = inside.places;
      stops = c.make_call.new.stops;
      state = c.make_call.new.state;
      status = c.status_after-self-inside.result;
      broken = c.first_of-self-inside.result;
      turns = inside.turns;
      calls = inside.calls + 1;
      shape_changes = c.raised-shape.result;
      byte_changes = c.raised-bytes.result;
      met = c.either-self-inside.result;
      paused = c.pause_after.new.paused.items;
      whole = true;
    } in
    left-at number c.args.pid new inside.paused.items c.in-Some.begun stood c.in_ok-made.made.after c.in_ok-pause_after.ensures c.in_ok-made.ensures.stays.lives

pub raised-shape-requires : goal.raised-shape-requires
raised-shape-requires g c =
    let few : c.self.inside.calls < 2 ^ 31 = subst (λ n. n < 2 ^ 31) (sym (ap (λ k. k.calls) c.self.view_is)) c.requires.few in
    let within : c.self.inside.shape_changes ≤ c.self.inside.calls = c.self.invariant.counted.0 in
    omega (arith, few, within)

pub raised-bytes-requires : goal.raised-bytes-requires
raised-bytes-requires g c =
    let few : c.self.inside.calls < 2 ^ 31 = subst (λ n. n < 2 ^ 31) (sym (ap (λ k. k.calls) c.self.view_is)) c.requires.few in
    let within : c.self.inside.byte_changes ≤ c.self.inside.calls = c.self.invariant.counted.1 in
    omega (arith, few, within)

pub returns-clause-counted : goal.returns-clause-counted
returns-clause-counted g c =
    let number = g.P.Places.number in
    let inside = c.self.inside in
    let new : Kernel g.row.P.Denot g.row.S.Denot g.row.P-Mount.Denot g.row.MARKED = record {
      places = inside.places;
      stops = c.make_call.new.stops;
      state = c.make_call.new.state;
      status = c.status_after-self-inside.result;
      broken = c.first_of-self-inside.result;
      turns = inside.turns;
      calls = inside.calls + 1;
      shape_changes = c.raised-shape.result;
      byte_changes = c.raised-bytes.result;
      met = c.either-self-inside.result;
      paused = c.pause_after.new.paused.items;
      whole = true;
    } in
    subst (λ (k : Kernel g.row.P.Denot g.row.S.Denot g.row.P-Mount.Denot g.row.MARKED). IsCounted number k new) c.self.view_is
    (call-counts number _ new c.in_ok-made.made.altered c.in_ok-made.ensures.altered c.raised-shape.ensures c.raised-bytes.ensures)

pub returns-clause-met : goal.returns-clause-met
returns-clause-met g c =
    c.either-self-inside.ensures ∙ ap (λ b. c.self.inside.met || b) c.in_ok-made.ensures.met
    ∙ ap (λ (k : Kernel g.row.P.Denot g.row.S.Denot g.row.P-Mount.Denot g.row.MARKED). k.met || (plain_reach (g.P.Places.mounts k.places) c.args.pid (machine g.P.Places.number k).state nothing_reached).met_proc) c.self.view_is
