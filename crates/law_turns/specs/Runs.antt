-- Runs of machines that match.
use Rattle.std.specs.Prelude.{◌≡◌, ◌<◌, ◌≤◌, ◌^◌, ℕ, suc, List, None}
use Rattle.pt_results.specs.pt_bind.Tags.{TagTable}
use Rattle.kr_core.specs.kr_tree.Tree.{nodes}
use Rattle.law_places.specs.kr_view.View.{Row, plain}
use Rattle.law_kept.specs.Bytes.{HasBytes}
use Rattle.kr_core.specs.kr_steps.Calls.{LastsLawful}
use Rattle.kr_core.specs.kr_steps.Waiting.{picked_process}
use Rattle.kr_core.specs.kr_turns.Run.{Ran, Slot, ending_of, run, turned}
use Rattle.kr_core.specs.kr_turns.Turn.{Machine, turn}
use Rattle.kr_core.specs.kr_stops.Watching.{Watcher}
use Rattle.law_turns.specs.Quiet.{DropsTags, MachinesMatch, MakesNoCall}

-- machines that match after as many turns, of which both are lawful, with what lasts
pub record GoTogether {S T : Type 0} (tags_in : T → TagTable) (table : List Row) (made : ℕ) (m : Machine S) (n : Machine T) : Type 0 where
  pub matches : MachinesMatch tags_in table m n
  pub lasts : LastsLawful (λ k. k) table made m.state
  pub also_lasts : LastsLawful (λ k. k) plain made n.state

-- what became of two runs is the same: the bytes of each turn, the end, the status, and the nodes of the tree
pub record ComeAlike {S T : Type 0} (one : Ran S) (other : Ran T) : Type 0 where
  pub puts : one.puts ≡ other.puts
  pub endings : one.ending ≡ other.ending
  pub statuses : one.machine.tally.status ≡ other.machine.tally.status
  pub trees : nodes one.machine.state.tree ≡ nodes other.machine.state.tree

-- and what else they keep from turn to turn: bytes and registers by their sizes, and what both watchers go by
pub record KeepOn {S T V : Type 0} (mine : S → V) (yours : T → V) (m : Machine S) (n : Machine T) : Type 0 where
  pub bytes : HasBytes m.state
  pub also_bytes : HasBytes n.state
  pub agree : mine m.watcher ≡ yours n.watcher

module _ {S T V : Type 0} (watcher : Watcher S) (tracer : Watcher T) (tags_in : T → TagTable) (mine : S → V) (yours : T → V) (table : List Row) (slots : ℕ → Slot) where
  -- each turn that is made and breaks no calm rule
  pub record TurnsGoTogether : Type 0 where
    pub together : (made : ℕ) (m : Machine S) (n : Machine T) → made < 2 ^ 31 → GoTogether tags_in table made m n → KeepOn mine yours m n → ending_of m ≡ None → (turned watcher 1 table slots made m).tally.broken ≡ None
        → GoTogether tags_in table (suc made) (turned watcher 1 table slots made m) (turned tracer 0 plain slots made n)
    pub keeps : (made : ℕ) (m : Machine S) (n : Machine T) → made < 2 ^ 31 → GoTogether tags_in table made m n → KeepOn mine yours m n → ending_of m ≡ None → (turned watcher 1 table slots made m).tally.broken ≡ None
        → KeepOn mine yours (turned watcher 1 table slots made m) (turned tracer 0 plain slots made n)

-- a turn in which no call is made does, where it breaks no calm rule
abbrev pub QuietTurnsGoTogether : (S T : Type 0) → Type 0
QuietTurnsGoTogether S T =
    (watcher : Watcher S) (tracer : Watcher T) (tags_in : T → TagTable) (table : List Row) (pick fuel made : ℕ) (m : Machine S) (n : Machine T) → DropsTags tracer tags_in → MakesNoCall fuel (picked_process m.state pick)
    → (turn watcher 1 table pick fuel m).tally.broken ≡ None → GoTogether tags_in table made m n → GoTogether tags_in table (suc made) (turn watcher 1 table pick fuel m) (turn tracer 0 plain pick fuel n)

-- where all do, a calm run and that of the plain machine come to the same
abbrev pub RunsComeAlike : (S T V : Type 0) → Type 0
RunsComeAlike S T V =
    (watcher : Watcher S) (tracer : Watcher T) (tags_in : T → TagTable) (mine : S → V) (yours : T → V) (table : List Row) (slots : ℕ → Slot) → TurnsGoTogether watcher tracer tags_in mine yours table slots
    → (turns : ℕ) (m : Machine S) (n : Machine T) → turns ≤ 2 ^ 31 → GoTogether tags_in table 0 m n → KeepOn mine yours m n → (run watcher 1 table slots turns m).machine.tally.broken ≡ None
    → ComeAlike (run watcher 1 table slots turns m) (run tracer 0 plain slots turns n)
