-- Two machines in the midst of their runs; and runs whose slots agree as far as they are used.
use Rattle.std.specs.Prelude.{◌≡◌, ◌<◌, ◌≤◌, ◌^◌, ℕ, List, None}
use Rattle.law_machines.specs.law_turns.pt_results.pt_bind.Tags.{TagTable}
use Rattle.law_machines.specs.law_turns.law_places.kr_view.View.{Row, plain}
use Rattle.law_machines.specs.law_turns.kr_turns.Run.{Slot, run}
use Rattle.law_machines.specs.law_turns.kr_turns.Turn.{Machine}
use Rattle.law_machines.specs.law_turns.kr_stops.Watching.{Watcher}
use Rattle.law_machines.specs.law_turns.Runs.{GoTogether, KeepOn, TurnsGoTogether}

-- together, behind at most so many turns
pub record AreMidway {S T V : Type 0} (tags_in : T → TagTable) (mine : S → V) (yours : T → V) (table : List Row) (most : ℕ) (m : Machine S) (n : Machine T) : Type 0 where
  pub made : ℕ
  pub few : made ≤ most
  pub together : GoTogether tags_in table made m n
  pub keeps : KeepOn mine yours m n

-- where each turn keeps both together that breaks no calm rule, so they are behind each number of turns of a calm run
abbrev pub RunsGoTogether : (S T V : Type 0) → Type 0
RunsGoTogether S T V =
    (watcher : Watcher S) (tracer : Watcher T) (tags_in : T → TagTable) (mine : S → V) (yours : T → V) (table : List Row) (slots : ℕ → Slot)
    → TurnsGoTogether watcher tracer tags_in mine yours table slots → (turns : ℕ) (m : Machine S) (n : Machine T) → turns ≤ 2 ^ 31
    → GoTogether tags_in table 0 m n → KeepOn mine yours m n → (run watcher 1 table slots turns m).machine.tally.broken ≡ None → (left : ℕ) → left ≤ turns
    → AreMidway tags_in mine yours table left (run watcher 1 table slots left m).machine (run tracer 0 plain slots left n).machine

-- a run goes by the slots of the turns that it makes at most
abbrev pub RunsGoBySlots : Type 0 → Type 0
RunsGoBySlots S =
    (watcher : Watcher S) (marks : ℕ) (table : List Row) (slots others : ℕ → Slot) (turns : ℕ) (m : Machine S) → ((made : ℕ) → made < turns → slots made ≡ others made)
    → run watcher marks table slots turns m ≡ run watcher marks table others turns m
