-- The slots of the turns of a run, what a plan of one keeps, and the run.
use Rattle.std.specs.Prelude.{ℕ, ◌≤◌, ◌<◌, ◌^◌, List, [], ◌∷◌, map}
use Rattle.std.specs.List.{All}
use Rattle.kr_loose.specs.kr_view.View.{Row}
use Rattle.kr_loose.specs.kr_core.Kernel.{Kernel, machine_by}
use Rattle.kr_loose.specs.kr_turns.Run.{Ran, Slot, cycle, run}
use Rattle.pt_tracer.specs.kr_stops.Watching.{Watcher}
use Rattle.pr_sources.specs.pr_words.declared.options.Slot.{Slot as SlotOfWords}
use Rattle.pr_run.specs.declared.plan.Plan.{Plan}

abbrev pub slot_told : SlotOfWords → Slot
slot_told s = record { pick = s.pick; fuel = s.fuel }

-- those of a schedule are used in a cycle; without one turn t picks t and makes 1,000 instructions at most
abbrev pub slot_of : List SlotOfWords → ℕ → Slot
slot_of [] made = record { pick = made; fuel = 1000 }
slot_of (s ∷ slots) made = cycle (slot_told s) (map slot_told slots) made

pub record IsPlan (plan : Plan) : Type 0 where
  pub turns : plan.turns < 2 ^ 31
  pub schedule : All (λ s. 1 ≤ s.fuel) plan.schedule

-- that of a kernel by its plan, of the part of what its watcher keeps on which the watcher's functions act
module _ {P S Q T : Type 0} {M : ℕ} (part : S → Q) (does : Watcher Q) (mounts : P → List Row) (number : T → ℕ) where
  abbrev pub run_of : Plan → Kernel P S T M → Ran Q
  run_of plan k = run does M (mounts k.places) (slot_of plan.schedule) plan.turns (machine_by number part k)
