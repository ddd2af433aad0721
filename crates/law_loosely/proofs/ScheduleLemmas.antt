-- A schedule of as many slots as there are turns is used once.
use Rattle.std.proofs.Common.{◌≡◌, ◌%◌, ◌<◌, ℕ, suc, List, [], ◌∷◌, length, get_or, map, refl, sym, ap, subst, ◌∙◌, arith, mod-eq_of_lt}
use Rattle.std.proofs.lemmas.List.{get_or_default}
use Rattle.law_machines.specs.kr_turns.Run.{Slot, run}
use Rattle.law_machines.specs.kr_turns.Turn.{Machine}
use Rattle.law_machines.specs.kr_view.View.{Row}
use Rattle.law_machines.specs.pr_run.Slots.{slot_of, slot_told}
use Rattle.law_machines.specs.pr_run.kr_loose.Slots.{slot_of_turn}
use Rattle.law_machines.specs.pr_start.Machines.{Watch, watch}
use Rattle.law_machines.specs.pr_words.declared.options.Slot.{Slot as SlotOfWords}
use Rattle.law_loosely.proofs.MidwayLemmas.{runs_go_by_slots}
use Rattle.law_loosely.specs.Schedules.{SchedulesAreSlots}

slot-used : (schedule : List SlotOfWords) (made : ℕ) → made < length (map slot_told schedule) → slot_of schedule made ≡ slot_of_turn (map slot_told schedule) made
slot-used [] made below = absurd (omega (arith, below))
slot-used (s ∷ rest) made below =
    let slots : List Slot = slot_told s ∷ map slot_told rest in
    let place : made % suc (length (map slot_told rest)) ≡ made = mod-eq_of_lt below in
    ap (λ k. get_or slots k (slot_told s)) place ∙ get_or_default slots made (slot_told s) (record { pick = 0; fuel = 1 }) below

by-schedule : (schedule : List SlotOfWords) (slots : List Slot) (turns : ℕ) (table : List Row) (m : Machine Watch) → map slot_told schedule ≡ slots → turns ≡ length slots
    → run watch 1 table (slot_of schedule) turns m ≡ run watch 1 table (slot_of_turn slots) (length slots) m
by-schedule schedule slots turns table m told many =
    ap (λ n. run watch 1 table (slot_of schedule) n m) many
    ∙ runs_go_by_slots Watch watch 1 table (slot_of schedule) (slot_of_turn slots) (length slots) m
    (λ made below. slot-used schedule made (subst (λ (l : List Slot). made < length l) (sym told) below) ∙ ap (λ (l : List Slot). slot_of_turn l made) told)

pub schedules-are-slots : SchedulesAreSlots
schedules-are-slots plan slots table m told many = by-schedule plan.schedule slots plan.turns table m told many
