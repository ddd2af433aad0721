use Rattle.std.proofs.Common.{◌≡◌, length}
use Rattle.pr_words.specs.Values.{slots_of}
use Rattle.pr_words.proofs.ScheduleLemmas.{texts_of, slots_after}
use Rattle.pr_words.proofs.schedule.schedule_of.Given as goal

abbrev pub invariant-loop-first : goal.invariant-loop-first
invariant-loop-first l = slots_after l.slots.items (texts_of l.rest) ≡ slots_of (texts_of l.text)

abbrev pub decreases-loop-first : goal.decreases-loop-first
decreases-loop-first l = length l.rest
