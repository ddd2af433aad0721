-- What a turn does, and what it leaves of the processes that don't run in it.
use Rattle.std.specs.Prelude.{◌≡◌, ◌≢◌, ◌⊎◌, ℕ, ◌<◌, List, [], Some}
use Rattle.kr_first.specs.rv_mem.Memory.{Memory}
use Rattle.kr_first.specs.rv_mem.declared.regs.Regs.{Regs}
use Rattle.kr_turns.specs.rv_cpu.Run.{ran}
use Rattle.kr_first.specs.kr_view.View.{Row}
use Rattle.kr_first.specs.kr_model.State.{Image, Process, State}
use Rattle.kr_first.specs.law_allowed.Others.{LivesOn}
use Rattle.kr_turns.specs.kr_steps.Computing.{computed}
use Rattle.kr_turns.specs.kr_steps.Waiting.{picked_process, ready_processes}
use Rattle.kr_turns.specs.kr_stops.Stopped.{Stopped}
use Rattle.kr_turns.specs.Turn.{Machine, turn}
use Rattle.kr_turns.specs.kr_stops.Watching.{Watcher}

-- at a stop nothing is done, or the process that stands there is given other registers and another memory
abbrev pub EditsAtMost : Stopped → Stopped → Type 0
EditsAtMost t u = (u.state ≡ t.state) ⊎ ((regs : Regs) × ((memory : Memory) × (u.state ≡ computed t.pid regs memory t.state)))

-- a watcher that edits no process but the one that stands at a stop
pub record EditsItsOwn {S : Type 0} (w : Watcher S) : Type 0 where
  pub entry : (x : S) (t : Stopped) → EditsAtMost t (w.entry x t).1
  pub exit : (x : S) (t : Stopped) → EditsAtMost t (w.exit x t).1

-- with such a watcher a turn leaves each process but the one that runs with all that is its own, whatever is called, and whatever
-- ends it. Pipes, the offsets of open files and the processes that ended are no process's own
abbrev pub OthersLiveOnInTurns : Type 0 → Type 0
OthersLiveOnInTurns S =
    (w : Watcher S) → EditsItsOwn w → (marks : ℕ) (table : List Row) (pick fuel : ℕ) (m : Machine S) (p : Process ℕ Image) → picked_process m.state pick ≡ Some p
    → (q : ℕ) → q ≢ p.pid → LivesOn q m.state (turn w marks table pick fuel m).state

-- where some are ready, each pick is of one, and with fuel it does an instruction at least, be it the one that calls or of which it dies
abbrev pub RunsOneThatIsReady : Type 0
RunsOneThatIsReady =
    (s : State ℕ Image) (pick : ℕ) → ready_processes s ≢ []
    → (p : Process ℕ Image) × (picked_process s pick ≡ Some p) × ((fuel : ℕ) → 0 < fuel → 0 < (ran fuel p.image.regs p.image.memory).done)

-- where none is ready nothing changes, and none is where none lives
pub record RestsWhereNoneIsReady (S : Type 0) : Type 0 where
  pub rests : (w : Watcher S) (marks : ℕ) (table : List Row) (pick fuel : ℕ) (m : Machine S) → ready_processes m.state ≡ [] → turn w marks table pick fuel m ≡ m
  pub dead : (s : State ℕ Image) → s.living ≡ [] → ready_processes s ≡ []
