use Rattle.std.proofs.Common.{◌≡◌, suc, ◌+◌, ◌++◌, ◌∷◌, [], refl, sym, ap, subst, ◌∙◌, arith, take}
use Rattle.kr_loose.specs.kr_core.declared.kernel.Turned.{Turned}
use Rattle.kr_loose.specs.kr_core.declared.kernel.Turned.TheVariants as turned
use Rattle.kr_loose.specs.kr_turns.Run.{Deadlock, Over, Slot}
use Rattle.pr_run.specs.Going.{after_slot, gone, or_spent, went_by}
use Rattle.pr_run.specs.Keeping.{GoesAndKeeps, puts_told}
use Rattle.pr_run.specs.Slots.{slot_of}
use Rattle.pr_run.proofs.RunLemmas.{IsRest, next, over, rest-first, spent}
use Rattle.pr_run.proofs.keeping.keep_slots.Goals as goal

pub loop-turn-init : goal.loop-turn-init
loop-turn-init g c = record {
  whole_is = c.requires.whole;
  made = let none = c.requires.first in omega (arith, none);
  same = refl;
  along = λ x is. record {
    now = x;
    stands = is;
    rest = rest-first (g.G.Goes.going (g.G.Goes.fixed c.args.run.now)) (slot_of c.args.plan.now.schedule) c.args.plan.now.turns x;
    kept = ap puts_told c.requires.empty;
  };
}

pub keep_slot-requires-clause-few : goal.keep_slot-requires-clause-few
keep_slot-requires-clause-few g c = let made = c.loop-turn.invariant.made in let few = c.requires.plan.turns in omega (arith, made, c.loop-turn-test.true, few)

pub returns-in-Deadlock : goal.returns-in-Deadlock
returns-in-Deadlock g c = λ x is.
    let going = g.G.Goes.going (g.G.Goes.fixed c.args.run.now) in
    let inv = c.loop-turn.invariant in
    let along = inv.along x is in
    let now = along.now in
    let Is = g.G.Goes.stands_for c.keep_slot.new.run in
    let told = subst (λ (t : Turned). GoesAndKeeps (g.G.Goes.going (g.G.Goes.fixed c.loop-turn.run)) c.slot-slot.result now Is (puts_told c.loop-turn.puts.items) (puts_told c.keep_slot.new.puts.items) t) c.in-Deadlock.is (c.in_ok-keep_slot.ensures.keeps now along.stands) in
    let keeps = subst (λ f. GoesAndKeeps (g.G.Goes.going f) c.slot-slot.result now Is (puts_told c.loop-turn.puts.items) (puts_told c.keep_slot.new.puts.items) turned.Deadlock) inv.same told in
    let done = over going (slot_of c.args.plan.now.schedule) (went_by going c.args.plan.now x) c.args.plan.now.turns c.loop-turn.turn now Deadlock along.rest keeps.0 in
    record { ending_is = done.ending_is; puts_are = sym done.puts ∙ sym along.kept ∙ sym keeps.2; left = subst Is (sym done.left) keeps.1 }

pub returns-in-Over : goal.returns-in-Over
returns-in-Over g c = λ x is.
    let going = g.G.Goes.going (g.G.Goes.fixed c.args.run.now) in
    let inv = c.loop-turn.invariant in
    let along = inv.along x is in
    let now = along.now in
    let Is = g.G.Goes.stands_for c.keep_slot.new.run in
    let told = subst (λ (t : Turned). GoesAndKeeps (g.G.Goes.going (g.G.Goes.fixed c.loop-turn.run)) c.slot-slot.result now Is (puts_told c.loop-turn.puts.items) (puts_told c.keep_slot.new.puts.items) t) c.in-Over.is (c.in_ok-keep_slot.ensures.keeps now along.stands) in
    let keeps = subst (λ f. GoesAndKeeps (g.G.Goes.going f) c.slot-slot.result now Is (puts_told c.loop-turn.puts.items) (puts_told c.keep_slot.new.puts.items) turned.Over) inv.same told in
    let done = over going (slot_of c.args.plan.now.schedule) (went_by going c.args.plan.now x) c.args.plan.now.turns c.loop-turn.turn now Over along.rest keeps.0 in
    record { ending_is = done.ending_is; puts_are = sym done.puts ∙ sym along.kept ∙ sym keeps.2; left = subst Is (sym done.left) keeps.1 }

pub loop-turn-preserved : goal.loop-turn-preserved
loop-turn-preserved g c =
    let going = g.G.Goes.going (g.G.Goes.fixed c.args.run.now) in
    let slots = slot_of c.args.plan.now.schedule in
    let limit = c.args.plan.now.turns in
    let turn = c.loop-turn.turn in
    let inv = c.loop-turn.invariant in
    let Is = g.G.Goes.stands_for c.keep_slot.new.run in
    let one : suc turn ≡ turn + 1 = omega arith in
    record {
      whole_is = c.in_ok-keep_slot.ensures.whole;
      made = omega (arith, inv.made, c.in_ok-keep_slot.ensures.made);
      same = c.in_ok-keep_slot.ensures.fixed ∙ inv.same;
      along = λ x is.
          let whole = went_by going c.args.plan.now x in
          let along = inv.along x is in
          let now = along.now in
          let told = subst (λ (t : Turned). GoesAndKeeps (g.G.Goes.going (g.G.Goes.fixed c.loop-turn.run)) c.slot-slot.result now Is (puts_told c.loop-turn.puts.items) (puts_told c.keep_slot.new.puts.items) t) c.in-Ran.is (c.in_ok-keep_slot.ensures.keeps now along.stands) in
          let keeps = subst (λ f. GoesAndKeeps (g.G.Goes.going f) c.slot-slot.result now Is (puts_told c.loop-turn.puts.items) (puts_told c.keep_slot.new.puts.items) turned.Ran) inv.same told in
          let next-is : after_slot going c.slot-slot.result now ≡ gone going slots turn now = ap (λ (s : Slot). going.slotted s now) c.slot-slot.ensures.slot in
          let more = next going slots whole limit turn now along.rest keeps.0 c.loop-turn-test.true in
          record {
            now = going.forgets (gone going slots turn now);
            stands = subst (λ y. Is (going.forgets y)) next-is keeps.1;
            rest = subst (λ k. IsRest going slots whole limit k (going.forgets (gone going slots turn now))) one more.rest;
            kept =
                keeps.2 ∙ ap (λ ps. ps ++ going.put (after_slot going c.slot-slot.result now) ∷ []) along.kept ∙ ap (λ y. take turn whole.puts ++ going.put y ∷ []) next-is
                ∙ sym more.on.taken ∙ ap (λ k. take k whole.puts) one;
          };
    }

pub returns : goal.returns
returns g c = λ x is.
    let going = g.G.Goes.going (g.G.Goes.fixed c.args.run.now) in
    let inv = c.loop-turn.invariant in
    let along = inv.along x is in
    let now = along.now in
    let done = spent going (slot_of c.args.plan.now.schedule) (went_by going c.args.plan.now x) c.args.plan.now.turns c.loop-turn.turn now along.rest c.loop-turn-test.false in
    record {
      ending_is = done.ending_is ∙ ap (λ f. or_spent ((g.G.Goes.going f).ending now)) (sym inv.same) ∙ sym (c.end.ensures now along.stands);
      puts_are = sym done.puts ∙ sym along.kept;
      left = subst (g.G.Goes.stands_for c.loop-turn.run) (sym done.left) along.stands;
    }
