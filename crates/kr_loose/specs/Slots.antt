-- The run by turns that stands for a loose run: a turn of as many instructions as were done for each step that did some, and a turn of
-- one for each call that was carried out, those that waited too.
use Rattle.std.specs.Prelude.{ℕ, zero, suc, List, [], ◌∷◌, ◌++◌, get_or}
use Rattle.kr_core.specs.kr_turns.Run.{Slot}
use Rattle.kr_core.specs.Moving.{StepKind, Instructions, Entry, Plain, Exit}
use Rattle.kr_loose.specs.LooseRun.{Step}

abbrev pub slots_of_kind : ℕ → StepKind → List Slot
slots_of_kind pick (Instructions zero) = []
slots_of_kind pick (Instructions (suc done)) = record { pick = pick; fuel = suc done } ∷ []
slots_of_kind pick Entry = []
slots_of_kind pick (Plain exec) = record { pick = pick; fuel = 1 } ∷ []
slots_of_kind pick Exit = []

-- of steps of which the last stands first; the slots stand in the order of the turns
abbrev pub slots_of_steps : {S : Type 0} → List (Step S) → List Slot
slots_of_steps [] = []
slots_of_steps (s ∷ earlier) = slots_of_steps earlier ++ slots_of_kind s.pick s.kind

-- the slot of each turn; there are as many turns as slots
abbrev pub slot_of_turn : List Slot → ℕ → Slot
slot_of_turn slots made = get_or slots made (record { pick = 0; fuel = 1 })
