use Rattle.std.proofs.Common.{◌<◌, ◌≤◌, count_by, sym, ap, ◌∙◌, arith, Some}
use Rattle.pr_words.proofs.CutLemmas.{is_byte}
use Rattle.pr_words.proofs.ScheduleLemmas.{texts_of, slots_after, schedule-many, next_slot, bad_slot, bad_last, good_last}
use Rattle.pr_words.proofs.schedule.schedule_of.Goals as goal

pub returns-then-count_of-ge-MOST_SLOTS : goal.returns-then-count_of-ge-MOST_SLOTS
returns-then-count_of-ge-MOST_SLOTS c =
    let counted = c.count_of.ensures in
    let many : 1024 ≤ count_by (is_byte 44) c.args.text.now = omega (arith, counted) in
    sym (schedule-many c.args.text.now many)

pub returns-in_default-slot_of : goal.returns-in_default-slot_of
returns-in_default-slot_of c =
    let counted = c.count_of.ensures in
    let few : count_by (is_byte 44) c.args.text.now < 1024 = omega (arith, counted) in
    bad_slot c.loop-first.slots.items c.args.text.now c.loop-first.rest.now c.in-Some.first.now c.in-Some.behind.now c.loop-first.invariant few c.in-Some.ensures c.in_default-slot_of.ensures

pub loop-first-preserved : goal.loop-first-preserved
loop-first-preserved c =
    ap (λ l. slots_after l (texts_of c.in-Some.behind.now)) c.in_ok-push.ensures.items
    ∙ next_slot c.loop-first.slots.items c.args.text.now c.loop-first.rest.now c.in-Some.first.now c.in-Some.behind.now c.in-Some-slot_of.slot c.loop-first.invariant c.in-Some.ensures c.in-Some-slot_of.ensures

pub returns-in_default-slot_of-2 : goal.returns-in_default-slot_of-2
returns-in_default-slot_of-2 c =
    let counted = c.count_of.ensures in
    let few : count_by (is_byte 44) c.args.text.now < 1024 = omega (arith, counted) in
    bad_last c.loop-first.slots.items c.args.text.now c.loop-first.rest.now c.loop-first.invariant few c.in_default.ensures c.in_default-slot_of-2.ensures

pub returns : goal.returns
returns c =
    let counted = c.count_of.ensures in
    let few : count_by (is_byte 44) c.args.text.now < 1024 = omega (arith, counted) in
    ap Some (c.from.ensures ∙ c.in_ok-push-2.ensures.items)
    ∙ good_last c.loop-first.slots.items c.args.text.now c.loop-first.rest.now c.in-Some-slot_of-2.last c.loop-first.invariant few c.in_default.ensures c.in-Some-slot_of-2.ensures
