use Rattle.pr_top.proofs.StepwiseLemmas.{given-slots, no-slots}
use Rattle.pr_top.proofs.opening.slots_for.Goals as goal

pub returns-then-gives_slots : goal.returns-then-gives_slots
returns-then-gives_slots c = given-slots c.args.schedule c.args.loose c.gives_slots.ensures c.if-gives_slots.true

pub returns-else-gives_slots : goal.returns-else-gives_slots
returns-else-gives_slots c = no-slots c.args.schedule c.args.loose c.gives_slots.ensures c.if-gives_slots.false
