use Rattle.law_loosely.proofs.ScheduleLemmas.{schedules-are-slots}
use Rattle.law_loosely.proofs.laws.schedules_are_slots.Goals as goal

pub returns : goal.returns
returns c = schedules-are-slots
