use Rattle.std.proofs.Common.{◌≡◌, suc, ◌+◌, rules, refl, sym, ap, subst, ◌∙◌, arith, take}
use Rattle.std.specs.Prelude.{Ok, Err}
use Rattle.pr_sources.specs.pr_io.Drawn.{received}
use Rattle.pr_sources.specs.pr_io.Moves.{Gets}
use Rattle.kr_loose.specs.kr_core.declared.kernel.Turned.{Turned}
use Rattle.kr_loose.specs.kr_core.declared.kernel.Turned.TheVariants as turned
use Rattle.kr_loose.specs.kr_turns.Run.{Deadlock, Over, Slot}
use Rattle.pr_run.specs.Going.{after_slot, gone, or_spent, went_by}
use Rattle.pr_run.specs.Puts.{GoesAndPuts, StopsMaking}
use Rattle.pr_run.specs.Report.{err_part, errs, out_part, outs}
use Rattle.pr_run.specs.Slots.{slot_of}
use Rattle.pr_run.proofs.BytesLemmas.{gets-kept, gets-next, gets-nil}
use Rattle.pr_run.proofs.RunLemmas.{IsRest, next, over, rest-first, spent, stops}
use Rattle.pr_run.proofs.turns.run_slots.Goals as goal

pub loop-turn-init : goal.loop-turn-init
loop-turn-init g c = record {
  whole_is = c.requires.whole;
  made = let none = c.requires.first in omega (arith, none);
  same = refl;
  along = λ x is. record {
    now = x;
    stands = is;
    rest = rest-first (g.G.Goes.going (g.G.Goes.fixed c.args.run.now)) (slot_of c.args.plan.now.schedule) c.args.plan.now.turns x;
    out_got = gets-nil (g.O.Sink.got c.args.out.now);
    err_got = gets-nil (g.R.Sink.got c.args.err.now);
  };
  out_count = omega arith;
  err_count = omega arith;
}

pub go_on-requires-clause-few : goal.go_on-requires-clause-few
go_on-requires-clause-few g c = let made = c.loop-turn.invariant.made in let few = c.requires.plan.turns in omega (arith, made, c.loop-turn-test.true, few)

pub returns-in_err-go_on-clause-puts : goal.returns-in_err-go_on-clause-puts
returns-in_err-go_on-clause-puts g c = λ x is.
    let going = g.G.Goes.going (g.G.Goes.fixed c.args.run.now) in
    let slots = slot_of c.args.plan.now.schedule in
    let limit = c.args.plan.now.turns in
    let whole = went_by going c.args.plan.now x in
    let inv = c.loop-turn.invariant in
    let along = inv.along x is in
    let now = along.now in
    let out = received g.O.Sink c.args.out.now c.go_on.new.out in
    let err = received g.R.Sink c.args.err.now c.go_on.new.err in
    let made =
    subst (λ f. StopsMaking ((g.G.Goes.going f).ending now) ((g.G.Goes.going f).put (after_slot (g.G.Goes.going f) c.slot-slot.result now)) (received g.O.Sink c.loop-turn.out c.go_on.new.out) (received g.R.Sink c.loop-turn.err c.go_on.new.err) c.in_err-go_on.field-0.0) inv.same
    (c.in_err-go_on.ensures.puts now along.stands) in
    let makes =
    subst (λ (s : Slot). StopsMaking (going.ending now) (going.put (going.slotted s now)) (received g.O.Sink c.loop-turn.out c.go_on.new.out) (received g.R.Sink c.loop-turn.err c.go_on.new.err) c.in_err-go_on.field-0.0) c.slot-slot.ensures.slot made in
    let stopped =
    stops going slots whole limit c.loop-turn.turn now along.rest c.loop-turn-test.true out err (g.O.Sink.got c.loop-turn.out) (g.R.Sink.got c.loop-turn.err) (g.O.Sink.faults c.loop-turn.out) (g.R.Sink.faults c.loop-turn.err)
    along.out_got along.err_got inv.out_count inv.err_count c.in_err-go_on.field-0.0 makes in
    let h = c.from_residual.ensures in search (rules, stopped)

pub returns-in-Deadlock-clause-puts : goal.returns-in-Deadlock-clause-puts
returns-in-Deadlock-clause-puts g c = λ x is.
    let going = g.G.Goes.going (g.G.Goes.fixed c.args.run.now) in
    let slots = slot_of c.args.plan.now.schedule in
    let limit = c.args.plan.now.turns in
    let whole = went_by going c.args.plan.now x in
    let turn = c.loop-turn.turn in
    let inv = c.loop-turn.invariant in
    let along = inv.along x is in
    let now = along.now in
    let Is = g.G.Goes.stands_for c.go_on.new.run in
    let out = received g.O.Sink c.loop-turn.out c.go_on.new.out in
    let err = received g.R.Sink c.loop-turn.err c.go_on.new.err in
    let told = subst (λ (t : Turned). GoesAndPuts (g.G.Goes.going (g.G.Goes.fixed c.loop-turn.run)) c.slot-slot.result now Is out err (Ok t)) c.in-Deadlock.is (c.in_ok-go_on.ensures.puts now along.stands) in
    let puts = subst (λ f. GoesAndPuts (g.G.Goes.going f) c.slot-slot.result now Is out err (Ok turned.Deadlock)) inv.same told in
    let done = over going slots whole limit turn now Deadlock along.rest puts.0 in (
      done.ending_is,
      subst (λ l. Gets (g.O.Sink.got c.args.out.now) (g.O.Sink.got c.go_on.new.out) (outs l)) done.puts (gets-kept (g.O.Sink.got c.args.out.now) (g.O.Sink.got c.loop-turn.out) (g.O.Sink.got c.go_on.new.out) (outs (take turn whole.puts)) along.out_got puts.2),
      subst (λ l. Gets (g.R.Sink.got c.args.err.now) (g.R.Sink.got c.go_on.new.err) (errs l)) done.puts (gets-kept (g.R.Sink.got c.args.err.now) (g.R.Sink.got c.loop-turn.err) (g.R.Sink.got c.go_on.new.err) (errs (take turn whole.puts)) along.err_got puts.3),
    )

pub returns-in-Deadlock-clause-left : goal.returns-in-Deadlock-clause-left
returns-in-Deadlock-clause-left g c = λ x is.
    let going = g.G.Goes.going (g.G.Goes.fixed c.args.run.now) in
    let inv = c.loop-turn.invariant in
    let along = inv.along x is in
    let now = along.now in
    let Is = g.G.Goes.stands_for c.go_on.new.run in
    let out = received g.O.Sink c.loop-turn.out c.go_on.new.out in
    let err = received g.R.Sink c.loop-turn.err c.go_on.new.err in
    let told = subst (λ (t : Turned). GoesAndPuts (g.G.Goes.going (g.G.Goes.fixed c.loop-turn.run)) c.slot-slot.result now Is out err (Ok t)) c.in-Deadlock.is (c.in_ok-go_on.ensures.puts now along.stands) in
    let puts = subst (λ f. GoesAndPuts (g.G.Goes.going f) c.slot-slot.result now Is out err (Ok turned.Deadlock)) inv.same told in
    subst Is (sym (over going (slot_of c.args.plan.now.schedule) (went_by going c.args.plan.now x) c.args.plan.now.turns c.loop-turn.turn now Deadlock along.rest puts.0).left) puts.1

pub returns-in-Over-clause-puts : goal.returns-in-Over-clause-puts
returns-in-Over-clause-puts g c = λ x is.
    let going = g.G.Goes.going (g.G.Goes.fixed c.args.run.now) in
    let slots = slot_of c.args.plan.now.schedule in
    let limit = c.args.plan.now.turns in
    let whole = went_by going c.args.plan.now x in
    let turn = c.loop-turn.turn in
    let inv = c.loop-turn.invariant in
    let along = inv.along x is in
    let now = along.now in
    let Is = g.G.Goes.stands_for c.go_on.new.run in
    let out = received g.O.Sink c.loop-turn.out c.go_on.new.out in
    let err = received g.R.Sink c.loop-turn.err c.go_on.new.err in
    let told = subst (λ (t : Turned). GoesAndPuts (g.G.Goes.going (g.G.Goes.fixed c.loop-turn.run)) c.slot-slot.result now Is out err (Ok t)) c.in-Over.is (c.in_ok-go_on.ensures.puts now along.stands) in
    let puts = subst (λ f. GoesAndPuts (g.G.Goes.going f) c.slot-slot.result now Is out err (Ok turned.Over)) inv.same told in
    let done = over going slots whole limit turn now Over along.rest puts.0 in (
      done.ending_is,
      subst (λ l. Gets (g.O.Sink.got c.args.out.now) (g.O.Sink.got c.go_on.new.out) (outs l)) done.puts (gets-kept (g.O.Sink.got c.args.out.now) (g.O.Sink.got c.loop-turn.out) (g.O.Sink.got c.go_on.new.out) (outs (take turn whole.puts)) along.out_got puts.2),
      subst (λ l. Gets (g.R.Sink.got c.args.err.now) (g.R.Sink.got c.go_on.new.err) (errs l)) done.puts (gets-kept (g.R.Sink.got c.args.err.now) (g.R.Sink.got c.loop-turn.err) (g.R.Sink.got c.go_on.new.err) (errs (take turn whole.puts)) along.err_got puts.3),
    )

pub returns-in-Over-clause-left : goal.returns-in-Over-clause-left
returns-in-Over-clause-left g c = λ x is.
    let going = g.G.Goes.going (g.G.Goes.fixed c.args.run.now) in
    let inv = c.loop-turn.invariant in
    let along = inv.along x is in
    let now = along.now in
    let Is = g.G.Goes.stands_for c.go_on.new.run in
    let out = received g.O.Sink c.loop-turn.out c.go_on.new.out in
    let err = received g.R.Sink c.loop-turn.err c.go_on.new.err in
    let told = subst (λ (t : Turned). GoesAndPuts (g.G.Goes.going (g.G.Goes.fixed c.loop-turn.run)) c.slot-slot.result now Is out err (Ok t)) c.in-Over.is (c.in_ok-go_on.ensures.puts now along.stands) in
    let puts = subst (λ f. GoesAndPuts (g.G.Goes.going f) c.slot-slot.result now Is out err (Ok turned.Over)) inv.same told in
    subst Is (sym (over going (slot_of c.args.plan.now.schedule) (went_by going c.args.plan.now x) c.args.plan.now.turns c.loop-turn.turn now Over along.rest puts.0).left) puts.1

pub loop-turn-preserved : goal.loop-turn-preserved
loop-turn-preserved g c =
    let going = g.G.Goes.going (g.G.Goes.fixed c.args.run.now) in
    let slots = slot_of c.args.plan.now.schedule in
    let limit = c.args.plan.now.turns in
    let turn = c.loop-turn.turn in
    let inv = c.loop-turn.invariant in
    let Is = g.G.Goes.stands_for c.go_on.new.run in
    let one : suc turn ≡ turn + 1 = omega arith in
    record {
      whole_is = c.in_ok-go_on.ensures.whole;
      made = omega (arith, inv.made, c.in_ok-go_on.ensures.made);
      same = c.in_ok-go_on.ensures.fixed ∙ inv.same;
      along = λ x is.
          let whole = went_by going c.args.plan.now x in
          let along = inv.along x is in
          let now = along.now in
          let out = received g.O.Sink c.loop-turn.out c.go_on.new.out in
          let err = received g.R.Sink c.loop-turn.err c.go_on.new.err in
          let told = subst (λ (t : Turned). GoesAndPuts (g.G.Goes.going (g.G.Goes.fixed c.loop-turn.run)) c.slot-slot.result now Is out err (Ok t)) c.in-Ran.is (c.in_ok-go_on.ensures.puts now along.stands) in
          let puts = subst (λ f. GoesAndPuts (g.G.Goes.going f) c.slot-slot.result now Is out err (Ok turned.Ran)) inv.same told in
          let next-is : after_slot going c.slot-slot.result now ≡ gone going slots turn now = ap (λ (s : Slot). going.slotted s now) c.slot-slot.ensures.slot in
          let more = next going slots whole limit turn now along.rest puts.0 c.loop-turn-test.true in
          let put = going.put (gone going slots turn now) in
          let out_put = subst (λ y. Gets (g.O.Sink.got c.loop-turn.out) (g.O.Sink.got c.go_on.new.out) (going.put y).out) next-is puts.2 in
          let err_put = subst (λ y. Gets (g.R.Sink.got c.loop-turn.err) (g.R.Sink.got c.go_on.new.err) (going.put y).err) next-is puts.3 in
          record {
            now = going.forgets (gone going slots turn now);
            stands = subst (λ y. Is (going.forgets y)) next-is puts.1;
            rest = subst (λ k. IsRest going slots whole limit k (going.forgets (gone going slots turn now))) one more.rest;
            out_got = subst (λ k. Gets (g.O.Sink.got c.args.out.now) (g.O.Sink.got c.go_on.new.out) (outs (take k whole.puts))) one (gets-next out_part turn whole.puts put (g.O.Sink.got c.args.out.now) (g.O.Sink.got c.loop-turn.out) (g.O.Sink.got c.go_on.new.out) more.on.taken along.out_got out_put);
            err_got = subst (λ k. Gets (g.R.Sink.got c.args.err.now) (g.R.Sink.got c.go_on.new.err) (errs (take k whole.puts))) one (gets-next err_part turn whole.puts put (g.R.Sink.got c.args.err.now) (g.R.Sink.got c.loop-turn.err) (g.R.Sink.got c.go_on.new.err) more.on.taken along.err_got err_put);
          };
      out_count = omega (arith, inv.out_count, c.go_on.ensures.out_count);
      err_count = omega (arith, inv.err_count, c.go_on.ensures.err_count);
    }

pub returns-clause-puts : goal.returns-clause-puts
returns-clause-puts g c = λ x is.
    let going = g.G.Goes.going (g.G.Goes.fixed c.args.run.now) in
    let whole = went_by going c.args.plan.now x in
    let inv = c.loop-turn.invariant in
    let along = inv.along x is in
    let now = along.now in
    let done = spent going (slot_of c.args.plan.now.schedule) whole c.args.plan.now.turns c.loop-turn.turn now along.rest c.loop-turn-test.false in (
      done.ending_is ∙ ap (λ f. or_spent ((g.G.Goes.going f).ending now)) (sym inv.same) ∙ sym (c.end.ensures now along.stands),
      subst (λ l. Gets (g.O.Sink.got c.args.out.now) (g.O.Sink.got c.loop-turn.out) (outs l)) done.puts along.out_got,
      subst (λ l. Gets (g.R.Sink.got c.args.err.now) (g.R.Sink.got c.loop-turn.err) (errs l)) done.puts along.err_got,
    )

pub returns-clause-left : goal.returns-clause-left
returns-clause-left g c = λ x is.
    let going = g.G.Goes.going (g.G.Goes.fixed c.args.run.now) in
    let along = c.loop-turn.invariant.along x is in
    let done = spent going (slot_of c.args.plan.now.schedule) (went_by going c.args.plan.now x) c.args.plan.now.turns c.loop-turn.turn along.now along.rest c.loop-turn-test.false in
    subst (g.G.Goes.stands_for c.loop-turn.run) (sym done.left) along.stands
