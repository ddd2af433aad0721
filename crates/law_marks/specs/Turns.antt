-- A run with marks and one without marks tell the same but for calm.
use Rattle.std.specs.Prelude.{◌≡◌, ℕ, List}
use Rattle.kr_turns.specs.kr_stops.Watching.{Watcher, unwatched}
use Rattle.kr_turns.specs.kr_view.View.{Row}
use Rattle.kr_turns.specs.Run.{Slot, run}
use Rattle.kr_turns.specs.Turn.{Machine, turn}
use Rattle.pt_faker.specs.Faking.{faker}
use Rattle.pt_faker.specs.Watches.{watch}
use Rattle.law_marks.specs.Calls.{SeesNoMarks}
use Rattle.law_marks.specs.Unjudged.{TellAlike, unmarked_machine, unmarked_ran}

-- nobody sees marks, nor does who fakes identities, nor one that is either
pub record WatchersSeeNoMarks (S : Type 0) : Type 0 where
  pub nobody : SeesNoMarks {S = S} unwatched
  pub faker : SeesNoMarks faker
  pub watch : SeesNoMarks watch

-- a turn of a kernel that keeps marks, or doesn't, is one of a kernel that keeps none, on what is left of the machine without marks
abbrev pub TurnsSeeNoMarks : Type 0 → Type 0
TurnsSeeNoMarks S =
    (w : Watcher S) → SeesNoMarks w → (marks : ℕ) (table : List Row) (pick fuel : ℕ) (m : Machine S)
    → unmarked_machine (turn w marks table pick fuel m) ≡ unmarked_machine (turn w 0 table pick fuel (unmarked_machine m))

-- so runs from machines that are equal but for marks and calm come to what is equal but for these, whichever of them keeps marks
abbrev pub RunsSeeNoMarks : Type 0 → Type 0
RunsSeeNoMarks S =
    (w : Watcher S) → SeesNoMarks w → (one other : ℕ) (table : List Row) (slots : ℕ → Slot) (turns : ℕ) (m n : Machine S)
    → unmarked_machine m ≡ unmarked_machine n → unmarked_ran (run w one table slots turns m) ≡ unmarked_ran (run w other table slots turns n)

abbrev pub RunsTellAlike : Type 0 → Type 0
RunsTellAlike S =
    (w : Watcher S) → SeesNoMarks w → (one other : ℕ) (table : List Row) (slots : ℕ → Slot) (turns : ℕ) (m n : Machine S)
    → unmarked_machine m ≡ unmarked_machine n → TellAlike (run w one table slots turns m) (run w other table slots turns n)
