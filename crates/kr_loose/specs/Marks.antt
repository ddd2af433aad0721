-- Memories and states of which no byte is marked, and that they stay so. What marks is the shelf of a call, and a kernel that keeps no marks
-- marks none.
use Rattle.std.specs.Prelude.{◌≡◌, ℕ, false, List}
use Rattle.std.specs.List.{AllByRecursion}
use Rattle.kr_core.specs.rv_mem.Actions.{Action, carried_out}
use Rattle.kr_core.specs.rv_mem.Memory.{Memory}
use Rattle.kr_core.specs.rv_mem.Pages.{Pages, is_marked}
use Rattle.kr_core.specs.rv_mem.declared.regs.Regs.{Regs}
use Rattle.kr_core.specs.rv_cpu.Run.{ran}
use Rattle.kr_core.specs.elf_read.declared.plan.Plan.{Plan}
use Rattle.kr_core.specs.elf_load.Image.{image_memory}
use Rattle.kr_core.specs.kr_view.View.{Row}
use Rattle.kr_core.specs.kr_model.Applied.{Mounts, all_applied, images}
use Rattle.kr_core.specs.kr_model.Change.{Change, ReplaceImage}
use Rattle.kr_core.specs.kr_model.State.{Image, Process, State}
use Rattle.kr_core.specs.kr_turns.PlainCall.{plain_call}
use Rattle.kr_core.specs.kr_turns.Run.{Slot, run}
use Rattle.kr_core.specs.kr_turns.Turn.{Machine, turn}
use Rattle.kr_core.specs.kr_stops.Editing.{after_peek, after_poke, after_request, memory_at, with_register}
use Rattle.kr_core.specs.kr_stops.Stopped.{Stopped, edited}
use Rattle.kr_core.specs.kr_stops.Watching.{Watcher, unwatched}
use Rattle.kr_loose.specs.LooseRun.{Loose, loose_run, step}

-- no byte is marked
abbrev pub HasNoMarks : Pages → Type 0
HasNoMarks m = (a : ℕ) → is_marked m a ≡ false

-- nor is one of any process
abbrev pub AreUnmarked : {M : Type 0} → State M Image → Type 0
AreUnmarked {M} s = AllByRecursion (λ (p : Process M Image). HasNoMarks p.image.memory.pages) s.living

-- ---- memories

-- whatever is done on a memory as a tree of actions, it marks nothing
abbrev pub ActionsMarkNothing : Type 0 → Type 0
ActionsMarkNothing A = (action : Action A) (m : Memory) → HasNoMarks m.pages → HasNoMarks (carried_out action m).memory.pages

-- and so it is with instructions
abbrev pub InstructionsMarkNothing : Type 0
InstructionsMarkNothing = (fuel : ℕ) (regs : Regs) (memory : Memory) → HasNoMarks memory.pages → HasNoMarks (ran fuel regs memory).memory.pages

-- and a program is loaded without marks
abbrev pub ProgramsLoadUnmarked : Type 0
ProgramsLoadUnmarked = (file : List ℕ) (plan : Plan) (args env : List (List ℕ)) (ids : List ℕ) → HasNoMarks (image_memory file plan args env ids).pages

-- ---- calls

-- where a new program comes, it has no marks
abbrev pub LoadsUnmarked : Change → Type 0
LoadsUnmarked (ReplaceImage image brk) = HasNoMarks image.memory.pages
LoadsUnmarked _ = Unit {0}

-- then changes leave a state without marks
abbrev pub ChangesMarkNothing : Type 0 → Type 0
ChangesMarkNothing M =
    (mounts : Mounts M) (pid : ℕ) (cs : List Change) (s : State M Image) → AllByRecursion LoadsUnmarked cs → AreUnmarked s → AreUnmarked (all_applied images mounts pid cs s)

-- and so does each call, from its decoding on
abbrev pub PlainCallsMarkNothing : Type 0
PlainCallsMarkNothing = (table : List Row) (pid : ℕ) (s : State ℕ Image) → AreUnmarked s → AreUnmarked (plain_call table pid s).state

-- ---- stops

-- a watcher at whose stops nothing is marked
pub record MarksNothing {S : Type 0} (w : Watcher S) : Type 0 where
  pub entry : (x : S) (t : Stopped) → AreUnmarked t.state → AreUnmarked (w.entry x t).1.state
  pub exit : (x : S) (t : Stopped) → AreUnmarked t.state → AreUnmarked (w.exit x t).1.state

abbrev pub NobodyMarks : Type 0 → Type 0
NobodyMarks S = MarksNothing {S = S} unwatched

-- the memory of a process at a stop, and what may be done to it there
pub record EditsMarkNothing : Type 0 where
  pub stands : (t : Stopped) → AreUnmarked t.state → HasNoMarks (memory_at t).pages
  pub edit : (regs : Regs) (memory : Memory) (t : Stopped) → HasNoMarks memory.pages → AreUnmarked t.state → AreUnmarked (edited regs memory t).state
  pub register : (k v : ℕ) (t : Stopped) → AreUnmarked t.state → AreUnmarked (with_register k v t).state
  pub peek : (at n : ℕ) (t : Stopped) → AreUnmarked t.state → AreUnmarked (after_peek at n t).state
  pub poke : (at : ℕ) (bytes : List ℕ) (t : Stopped) → AreUnmarked t.state → AreUnmarked (after_poke at bytes t).state
  pub request : (t : Stopped) → AreUnmarked t.state → AreUnmarked (after_request t).state

-- ---- turns and runs of a kernel that keeps no marks

abbrev pub TurnsMarkNothing : Type 0 → Type 0
TurnsMarkNothing S = (w : Watcher S) → MarksNothing w → (table : List Row) (pick fuel : ℕ) (m : Machine S) → AreUnmarked m.state → AreUnmarked (turn w 0 table pick fuel m).state

abbrev pub RunsMarkNothing : Type 0 → Type 0
RunsMarkNothing S =
    (w : Watcher S) → MarksNothing w → (table : List Row) (slots : ℕ → Slot) (turns : ℕ) (m : Machine S)
    → AreUnmarked m.state → AreUnmarked (run w 0 table slots turns m).machine.state

-- and of its loose ones
abbrev pub StepsMarkNothing : Type 0 → Type 0
StepsMarkNothing S =
    (w : Watcher S) → MarksNothing w → (table : List Row) (pick fuel : ℕ) (l : Loose S) → AreUnmarked l.machine.state → AreUnmarked (step w 0 table pick fuel l).machine.state

abbrev pub LooseRunsMarkNothing : Type 0 → Type 0
LooseRunsMarkNothing S =
    (w : Watcher S) → MarksNothing w → (table : List Row) (slots : ℕ → Slot) (steps : ℕ) (m : Machine S)
    → AreUnmarked m.state → AreUnmarked (loose_run w 0 table slots steps m).left.machine.state
