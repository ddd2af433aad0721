use Rattle.std.proofs.Common.{rules, ◌≡◌, ◌≢◌, ◌≤◌, ◌+◌, [], true, false, suc, ap, arith, refl, sym, subst, ◌∙◌, vec_len, length}
use Rattle.std.specs.Prelude.{IsSome, ◌==◌}
use Rattle.kr_turns.specs.kr_ops.Meaning.{process_meaning}
use Rattle.kr_turns.specs.kr_seen.Numbered.{process_numbered}
use Rattle.kr_turns.specs.kr_stops.Watching.{watching}
use Rattle.kr_core.specs.Kernel.{IsPicked, Kernel, machine}
use Rattle.kr_core.proofs.KernelLemmas.{none-live, some-live}
use Rattle.kr_core.proofs.SteppingLemmas.{made-turn}
use Rattle.kr_core.specs.Stepping.{HasMetIn}
use Rattle.kr_core.proofs.kernel.Kernel.turn.Goals as goal

pub returns-then-is_empty-clause-turns : goal.returns-then-is_empty-clause-turns
returns-then-is_empty-clause-turns g c =
    let number = g.P.Places.number in
    let same : vec_len c.self.inside.state.living ≡ length c.self.inside.state.living.items = omega arith in
    let none = subst (λ n. (n == 0) ≡ true) same (sym c.is_empty.ensures ∙ c.if-is_empty.true) in (
      subst (λ (k : Kernel g.row.P.Denot g.row.S.Denot g.row.P-Mount.Denot g.row.MARKED). (machine number k).state.living ≡ []) c.self.view_is (none-live process_meaning (process_numbered number) c.self.inside.state.living.items none),
      refl,
    )

pub returns-in_default-clause-turns : goal.returns-in_default-clause-turns
returns-in_default-clause-turns g c =
    let number = g.P.Places.number in
    let same : vec_len c.self.inside.state.living ≡ length c.self.inside.state.living.items = omega arith in
    let some = subst (λ n. (n == 0) ≡ false) same (sym c.is_empty.ensures ∙ c.if-is_empty.false) in (
      subst (λ (k : Kernel g.row.P.Denot g.row.S.Denot g.row.P-Mount.Denot g.row.MARKED). (machine number k).state.living ≢ []) c.self.view_is (some-live process_meaning (process_numbered number) c.self.inside.state.living.items some),
      subst (λ o. IsPicked number c.args.pick c.args.self.now o) c.in_default.is c.picked.ensures,
      refl,
    )

pub run_turn-requires : goal.run_turn-requires
run_turn-requires g c =
    let picks = subst (λ o. IsPicked g.P.Places.number c.args.pick c.args.self.now o) c.in-Some.is c.picked.ensures in
    (search rules, (c.requires.whole, (c.requires.running, (c.requires.few_calls, subst IsSome (sym picks.lives) refl))))

pub invariant_of-self : goal.invariant_of-self
invariant_of-self g c = record {
  named = c.self-2.invariant.named;
  few = c.self-2.invariant.few;
  counted = c.self-2.invariant.counted;
  runs = c.self-2.invariant.runs;
  agreement = c.self-2.invariant.agreement;
  standing = c.self-2.invariant.standing;
}

pub returns-clause-turns : goal.returns-clause-turns
returns-clause-turns g c =
    let number = g.P.Places.number in
    let inside = c.self-2.inside in
    let picks = subst (λ o. IsPicked number c.args.pick c.args.self.now o) c.in-Some.is c.picked.ensures in
    let more : inside.turns + 1 ≡ suc inside.turns = omega arith in
    let new : Kernel g.row.P.Denot g.row.S.Denot g.row.P-Mount.Denot g.row.MARKED = record {
      places = inside.places;
      stops = inside.stops;
      state = inside.state;
      status = inside.status;
      broken = inside.broken;
      turns = inside.turns + 1;
      calls = inside.calls;
      shape_changes = inside.shape_changes;
      byte_changes = inside.byte_changes;
      met = inside.met;
      paused = inside.paused.items;
      whole = inside.whole;
    } in
    made-turn number (watching g.S.Stops.enters g.S.Stops.exits g.S.Stops.bears g.S.Stops.forgets) _ c.args.pick c.args.fuel c.in-Some.pid _ c.run_turn.new.self new picks c.in_ok-run_turn.ensures.turn
    (ap (λ (k : Kernel g.row.P.Denot g.row.S.Denot g.row.P-Mount.Denot g.row.MARKED). machine number k) c.self-2.view_is) (more ∙ ap (λ (k : Kernel g.row.P.Denot g.row.S.Denot g.row.P-Mount.Denot g.row.MARKED). suc k.turns) c.self-2.view_is) (ap (λ (k : Kernel g.row.P.Denot g.row.S.Denot g.row.P-Mount.Denot g.row.MARKED). k.places) c.self-2.view_is)

pub returns-clause-whole : goal.returns-clause-whole
returns-clause-whole g c = ap (λ (k : Kernel g.row.P.Denot g.row.S.Denot g.row.P-Mount.Denot g.row.MARKED). k.whole) c.self-2.view_is ∙ c.in_ok-run_turn.ensures.whole

pub returns-clause-running : goal.returns-clause-running
returns-clause-running g c = ap (λ (k : Kernel g.row.P.Denot g.row.S.Denot g.row.P-Mount.Denot g.row.MARKED). k.paused) c.self-2.view_is ∙ c.in_ok-run_turn.ensures.turn.running

pub returns-clause-calls : goal.returns-clause-calls
returns-clause-calls g c = subst (λ n. n ≤ suc c.args.self.now.calls) (sym (ap (λ (k : Kernel g.row.P.Denot g.row.S.Denot g.row.P-Mount.Denot g.row.MARKED). k.calls) c.self-2.view_is)) c.in_ok-run_turn.ensures.turn.calls

pub returns-clause-met : goal.returns-clause-met
returns-clause-met g c =
    let number = g.P.Places.number in
    let w = watching g.S.Stops.enters g.S.Stops.exits g.S.Stops.bears g.S.Stops.forgets in
    let table = g.P.Places.mounts c.args.self.now.places in
    let picks = subst (λ o. IsPicked number c.args.pick c.args.self.now o) c.in-Some.is c.picked.ensures in
    let met = sym (ap (λ (k : Kernel g.row.P.Denot g.row.S.Denot g.row.P-Mount.Denot g.row.MARKED). k.met) c.self-2.view_is) in (
      picks.own,
      picks.picked,
      subst (λ n. HasMetIn number w table g.S.Stops.asks c.args.fuel n c.args.self.now c.self-2.inside.met) (sym picks.same) (subst (λ b. HasMetIn number w table g.S.Stops.asks c.args.fuel c.in-Some.pid c.args.self.now b) met c.in_ok-run_turn.ensures.met),
    )
