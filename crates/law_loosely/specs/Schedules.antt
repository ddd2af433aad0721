-- Slots of turns as a schedule that words can give.
use Rattle.std.specs.Prelude.{◌≡◌, List, length, map}
use Rattle.law_machines.specs.kr_turns.Run.{Slot, run}
use Rattle.law_machines.specs.kr_turns.Turn.{Machine}
use Rattle.law_machines.specs.kr_view.View.{Row}
use Rattle.law_machines.specs.pr_run.Slots.{slot_told}
use Rattle.law_machines.specs.pr_run.declared.plan.Plan.{Plan}
use Rattle.law_machines.specs.pr_run.kr_loose.Slots.{slot_of_turn}
use Rattle.law_machines.specs.pr_start.Machines.{Watch, watch}
use Rattle.law_machines.specs.Agreeing.{mounted}

-- a plan with these slots as its schedule, and as many turns, makes the run by them
abbrev pub SchedulesAreSlots : Type 0
SchedulesAreSlots =
    (plan : Plan) (slots : List Slot) (table : List Row) (m : Machine Watch) → map slot_told plan.schedule ≡ slots → plan.turns ≡ length slots
    → mounted plan table m ≡ run watch 1 table (slot_of_turn slots) (length slots) m
