-- Runs that nobody watches, where a watcher of identities could, and runs that it watches.
use Rattle.std.specs.Prelude.{◌≡◌, ℕ, List}
use Rattle.pr_top.specs.kr_view.View.{Row}
use Rattle.law_starts.specs.kr_turns.Run.{Ran, Slot, run}
use Rattle.law_starts.specs.kr_turns.Turn.{Machine}
use Rattle.law_starts.specs.kr_stops.Watching.{unwatched}
use Rattle.law_starts.specs.pt_faker.Watches.{watch}
use Rattle.law_starts.specs.pt_faker.declared.watch.Watch.{Watch}
use Rattle.law_starts.specs.pt_faker.declared.watch.Watch.TheVariants.{Faked, Nobody}
use Rattle.law_starts.specs.pt_faker.Faking.{Faking, faker}
use Rattle.law_machines.specs.FakedStarts.{with_faking}

-- without one it is the run that is watched by none
abbrev pub NobodyWatches : Type 0
NobodyWatches = (marks : ℕ) (table : List Row) (slots : ℕ → Slot) (turns : ℕ) (m : Machine Watch) → m.watcher ≡ Nobody → run watch marks table slots turns m ≡ run unwatched marks table slots turns m

-- a machine, and what became of a run, with the watcher of identities as whoever watches
abbrev pub as_faked : Machine Faking → Machine Watch
as_faked m = record { state = m.state; watcher = Faked m.watcher; tally = m.tally }

abbrev pub ran_faked : Ran Faking → Ran Watch
ran_faked ran = record { puts = ran.puts; ending = ran.ending; machine = as_faked ran.machine }

-- with one it is the run that is watched by that one
abbrev pub FakersWatch : Type 0
FakersWatch =
    (marks : ℕ) (table : List Row) (slots : ℕ → Slot) (turns : ℕ) (m : Machine Watch) (f : Faking) → m.watcher ≡ Faked f
    → run watch marks table slots turns m ≡ ran_faked (run faker marks table slots turns (with_faking f m))
