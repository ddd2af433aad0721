-- A quiet loose run comes to what the run by turns comes to for which it stands.
use Rattle.std.specs.Prelude.{◌≡◌, ◌≤◌, ℕ, Bool, false, List, [], ◌∷◌, ◌++◌, length, Some}
use Rattle.kr_loose.specs.kr_view.View.{Row}
use Rattle.kr_loose.specs.kr_model.State.{Image, Process, State}
use Rattle.kr_loose.specs.kr_stops.Stopped.{Stopped}
use Rattle.kr_loose.specs.kr_stops.Watching.{Watcher}
use Rattle.kr_loose.specs.kr_turns.Run.{Put, Ran, Slot, run}
use Rattle.kr_loose.specs.kr_turns.Steps.{picked_process}
use Rattle.kr_loose.specs.kr_turns.Turn.{Machine}
use Rattle.kr_loose.specs.kr_core.Between.{between_of}
use Rattle.kr_loose.specs.kr_core.Moving.{Moved, moved}
use Rattle.kr_loose.specs.LooseRun.{Loose, LooseRan, Step, after_bytes, loose_run, noted}
use Rattle.kr_loose.specs.Marks.{MarksNothing}
use Rattle.kr_loose.specs.Quiet.{IsQuiet, IsUndisturbed, met_by}
use Rattle.kr_loose.specs.Slots.{slot_of_turn, slots_of_kind, slots_of_steps}
use Rattle.kr_loose.specs.Local.{IsLocal, Locality}
use Rattle.law_beside.specs.Beside.{laid}
use Rattle.law_loose.specs.Lagging.{Lags, stays_in}
use Rattle.law_loose.specs.Staying.{StaysBeside, behind_turns, puts_of_turns}

-- all bytes that were put out, and to err, in their order
abbrev pub all_out : List Put → List ℕ
all_out [] = []
all_out (put ∷ puts) = put.out ++ all_out puts

abbrev pub all_err : List Put → List ℕ
all_err [] = []
all_err (put ∷ puts) = put.err ++ all_err puts

-- no bytes wait to be taken
pub record IsCleared (s : State ℕ Image) : Type 0 where
  pub out : s.out ≡ []
  pub err : s.err ≡ []

-- a watcher with all that the laws rest on
pub record IsScene {S Part Kept : Type 0} (f : Watcher S) (asks : S → Stopped → Bool) (l : Locality S Part Kept) (fits : S → Type 0)
    (Stays : Bool → ℕ → State ℕ Image → State ℕ Image → Type 0) (Good Tame : Machine S → Type 0) (table : List Row) : Type 0 where
  pub local : IsLocal f asks l fits Stays
  pub marks : MarksNothing f
  pub stays : StaysBeside f table Good Tame Stays

-- ---- a step

-- a step's turns keep the machines beside each other, and put its bytes
pub record StepLags {S Part Kept : Type 0} (f : Watcher S) (asks : S → Stopped → Bool) (l : Locality S Part Kept) (fits : S → Type 0) (Tame : Machine S → Type 0) (table : List Row)
    (n : Machine S) (slots : List Slot) (x : Loose S) : Type 0 where
  pub lags : Lags f asks l fits (behind_turns f table slots n) (after_bytes x)
  pub tame : Tame (behind_turns f table slots n)
  pub out : x.machine.state.out ≡ all_out (puts_of_turns f table slots n)
  pub err : x.machine.state.err ≡ all_err (puts_of_turns f table slots n)

module _ {S Part Kept : Type 0} (f : Watcher S) (asks : S → Stopped → Bool) (l : Locality S Part Kept) (fits : S → Type 0) (Good Tame : Machine S → Type 0) (table : List Row) where
  -- each step of the process that is picked does, where it is quiet
  abbrev pub StepsLag : Type 0
  StepsLag =
      (pick fuel : ℕ) (n : Machine S) (x : Loose S) (p : Process ℕ Image) → picked_process x.machine.state pick ≡ Some p → Lags f asks l fits n x → IsCleared n.state → Good n → Tame n
      → (let made : Moved S = moved f 0 table fuel p (between_of p.pid x.paused) x.machine x.paused in
      let step : Step S = record { pick = pick; pid = p.pid; kind = made.kind; before = x.machine; after = made.machine } in
      let slots : List Slot = slots_of_kind pick made.kind in
      met_by asks 0 table made.kind step ≡ false → IsUndisturbed p.pid made.kind x.steps → Good (behind_turns f table slots n)
      → StepLags f asks l fits Tame table n slots (noted pick p.pid made x))

-- ---- a run

-- how a run by turns and a loose one came to the same: the bytes, the end, the status, and the state but for registers and bytes of processes
pub record ComeToSame {S : Type 0} (turns : Ran S) (steps : LooseRan S) : Type 0 where
  pub out : all_out steps.puts ≡ all_out turns.puts
  pub err : all_err steps.puts ≡ all_err turns.puts
  pub ending : steps.ending ≡ turns.ending
  pub status : steps.left.machine.tally.status ≡ turns.machine.tally.status
  pub state : laid turns.machine.state ≡ laid steps.left.machine.state
  pub tree : steps.left.machine.state.tree ≡ turns.machine.state.tree

-- the machine with which both begin: nothing was put, and no process stays at a call
pub record CanBegin {S : Type 0} (fits : S → Type 0) (Tame : Machine S → Type 0) (m : Machine S) : Type 0 where
  pub cleared : IsCleared m.state
  pub go : (pid : ℕ) → stays_in pid m.state ≡ false
  pub fits_watcher : fits m.watcher
  pub tame : Tame m

module _ {S Part Kept : Type 0} (f : Watcher S) (asks : S → Stopped → Bool) (l : Locality S Part Kept) (fits : S → Type 0) (Good Tame : Machine S → Type 0) (table : List Row) where
  -- the run for which a quiet one stands makes as many turns as it has slots, and `Good` holds of its machine behind each number of them
  abbrev pub LooseRunsAreTheirImages : Type 0
  LooseRunsAreTheirImages =
      (slots : ℕ → Slot) (steps : ℕ) (met : Bool) (m : Machine S) → CanBegin fits Tame m
      → (let loose : LooseRan S = loose_run f 0 table slots steps m in
      let image : List Slot = slots_of_steps loose.left.steps in
      IsQuiet asks 0 table met loose.left.steps → ((turns : ℕ) → turns ≤ length image → Good (run f 0 table (slot_of_turn image) turns m).machine)
      → ComeToSame (run f 0 table (slot_of_turn image) (length image) m) loose)
