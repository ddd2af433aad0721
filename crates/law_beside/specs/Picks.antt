-- Which process goes on is the same in states that are equal but for what processes compute on, where those that stay at a call have the same
-- registers.
use Rattle.std.specs.Prelude.{◌≡◌, ℕ, true, map as map_list, Some, None}
use Rattle.std.specs.Option.{option_map}
use Rattle.kr_core.specs.kr_model.Lawful.{ArePids}
use Rattle.kr_core.specs.kr_model.State.{Image, Process, State, process}
use Rattle.kr_core.specs.kr_steps.Waiting.{picked_process, ready_processes}
use Rattle.kr_core.specs.kr_stops.Stopped.{image_in}
use Rattle.kr_core.specs.kr_turns.Run.{ending_of}
use Rattle.kr_core.specs.kr_turns.Turn.{Machine}
use Rattle.law_beside.specs.Beside.{laid, laid_process}

-- who stays at a call has the same registers in both: by them it is told whether it has to wait still
pub record GoAlike (s t : State ℕ Image) : Type 0 where
  pub pids : ArePids s
  pub same : laid s ≡ laid t
  pub waiters : (pid : ℕ) (p : Process ℕ Image) → process pid s ≡ Some p → p.waits ≡ true → (image_in pid s).regs ≡ (image_in pid t).regs

pub record PicksAreBeside (S : Type 0) : Type 0 where
  pub ready : (s t : State ℕ Image) → GoAlike s t → map_list laid_process (ready_processes s) ≡ map_list laid_process (ready_processes t)
  pub picked : (s t : State ℕ Image) → GoAlike s t → (pick : ℕ) → option_map laid_process (picked_process s pick) ≡ option_map laid_process (picked_process t pick)
  -- a process that is picked in one of them is picked in the other, and where none is none is
  pub one : (s t : State ℕ Image) → GoAlike s t → (pick : ℕ) (p : Process ℕ Image) → picked_process s pick ≡ Some p
      → (q : Process ℕ Image) × (picked_process t pick ≡ Some q) × (laid_process p ≡ laid_process q)
  pub other : (s t : State ℕ Image) → GoAlike s t → (pick : ℕ) (q : Process ℕ Image) → picked_process t pick ≡ Some q
      → (p : Process ℕ Image) × (picked_process s pick ≡ Some p) × (laid_process p ≡ laid_process q)
  pub none : (s t : State ℕ Image) → GoAlike s t → (pick : ℕ) → picked_process s pick ≡ None → picked_process t pick ≡ None
  -- who is picked lives, and its number is its own
  pub lives : (s : State ℕ Image) → ArePids s → (pick : ℕ) (p : Process ℕ Image) → picked_process s pick ≡ Some p → process p.pid s ≡ Some p
  -- a run that stands in them ends alike
  pub ending : (m n : Machine S) → GoAlike m.state n.state → ending_of m ≡ ending_of n
