-- What changes make of states that are equal but for what some processes compute on, and what else is done between calls.
use Rattle.std.specs.Prelude.{◌≡◌, ◌≢◌, ℕ, Bool, true, not, ◌&&◌, ◌||◌, ◌==◌, List, IsSome}
use Rattle.std.specs.List.{AllByRecursion}
use Rattle.kr_core.specs.rv_mem.Memory.{Memory}
use Rattle.kr_core.specs.rv_mem.declared.regs.Regs.{Regs}
use Rattle.kr_core.specs.kr_view.View.{Row}
use Rattle.kr_core.specs.kr_model.Applied.{Mounts, all_applied, images, layouts}
use Rattle.kr_core.specs.kr_model.Change.{Change, Fork}
use Rattle.kr_core.specs.kr_model.Lawful.{ArePids}
use Rattle.kr_core.specs.kr_model.State.{Image, State, process}
use Rattle.kr_core.specs.kr_steps.Answering.{waiting}
use Rattle.kr_core.specs.kr_stops.Stopped.{IsEdited, IsThere, Stopped, computed, image_in}
use Rattle.kr_core.specs.kr_turns.PlainCall.{plain_call}
use Rattle.kr_core.specs.kr_turns.Run.{cleared}
use Rattle.kr_core.specs.kr_turns.Turn.{killed}
use Rattle.law_beside.specs.Beside.{AreBeside, laid}

-- ---- by themselves

-- as an equality is: both ways, and from one to the next; and of fewer processes, and of one more of which it is seen
pub record BesideIsAnEquality (M : Type 0) : Type 0 where
  pub itself : (among : ℕ → Bool) (s : State M Image) → AreBeside among s s
  pub turned : (among : ℕ → Bool) (s t : State M Image) → AreBeside among s t → AreBeside among t s
  pub joined : (among : ℕ → Bool) (s t u : State M Image) → AreBeside among s t → AreBeside among t u → AreBeside among s u
  pub fewer : (among other : ℕ → Bool) (s t : State M Image) → ((pid : ℕ) → other pid ≡ true → among pid ≡ true) → AreBeside among s t → AreBeside other s t
  pub one_more : (among : ℕ → Bool) (pid : ℕ) (s t : State M Image) → image_in pid s ≡ image_in pid t → AreBeside among s t → AreBeside (λ q. among q || (q == pid)) s t
  -- the same processes live, with the same numbers
  pub lives : (pid : ℕ) (s t : State M Image) → laid s ≡ laid t → IsSome (process pid s) → IsSome (process pid t)
  pub pids : (s t : State M Image) → laid s ≡ laid t → ArePids s → ArePids t

-- ---- changes

-- a child that is born has the next number
abbrev pub BearsNext : ℕ → Change → Type 0
BearsNext next (Fork b) = b.pid ≡ next
BearsNext next _ = Unit {0}

abbrev pub BearNext : ℕ → List Change → Type 0
BearNext next cs = AllByRecursion (BearsNext next) cs

-- changes do on layouts what they do on what processes compute on
abbrev pub ChangesAreLaid : Type 0 → Type 0
ChangesAreLaid M =
    (mounts : Mounts M) (pid : ℕ) (cs : List Change) (s : State M Image) → laid (all_applied images mounts pid cs s) ≡ all_applied layouts mounts pid cs (laid s)

-- and where their caller computes on the same, so does each process that did, and a child of the caller
abbrev pub ChangesComeBeside : Type 0 → Type 0
ChangesComeBeside M =
    (among : ℕ → Bool) (mounts : Mounts M) (pid : ℕ) (cs : List Change) (s t : State M Image) → ArePids s → BearNext s.next_pid cs → among pid ≡ true → AreBeside among s t
    → AreBeside (λ q. among q || (q == s.next_pid)) (all_applied images mounts pid cs s) (all_applied images mounts pid cs t)

-- ---- others

-- who lives computes on what it computed on, whatever another one does
pub record OthersKeepImages : Type 0 where
  pub changes : (mounts : Mounts ℕ) (pid q : ℕ) (cs : List Change) (s : State ℕ Image) → q ≢ pid → IsSome (process q s) → image_in q (all_applied images mounts pid cs s) ≡ image_in q s
  pub call : (table : List Row) (pid q : ℕ) (s : State ℕ Image) → q ≢ pid → IsSome (process q s) → image_in q (plain_call table pid s).state ≡ image_in q s
  pub killed : (pid q signal : ℕ) (s : State ℕ Image) → q ≢ pid → IsSome (process q s) → image_in q (killed pid signal s) ≡ image_in q s
  pub computed : (pid q : ℕ) (regs : Regs) (memory : Memory) (s : State ℕ Image) → q ≢ pid → image_in q (computed pid regs memory s) ≡ image_in q s

-- ---- what is done between calls

-- a process dies, computes, stays at its call, and what was put out is taken away
pub record EndsComeBeside : Type 0 where
  pub killed : (among : ℕ → Bool) (pid signal : ℕ) (s t : State ℕ Image) → ArePids s → AreBeside among s t → AreBeside among (killed pid signal s) (killed pid signal t)
  pub computed : (among : ℕ → Bool) (pid : ℕ) (regs : Regs) (memory : Memory) (s t : State ℕ Image) → AreBeside among s t
      → AreBeside (λ q. among q || (q == pid)) (computed pid regs memory s) (computed pid regs memory t)
  pub waiting : (among : ℕ → Bool) (pid : ℕ) (s t : State ℕ Image) → AreBeside among s t → AreBeside among (waiting pid s) (waiting pid t)
  pub cleared : (among : ℕ → Bool) (s t : State ℕ Image) → AreBeside among s t → AreBeside among (cleared s) (cleared t)

-- ---- stops

-- a process is edited at a stop in one of the two states: all others compute on the same still
pub record EditsStayBeside : Type 0 where
  pub first : (among : ℕ → Bool) (t u : Stopped) (s : State ℕ Image) → IsThere t → IsEdited t u → AreBeside among t.state s → AreBeside (λ q. among q && not (q == t.pid)) u.state s
  pub second : (among : ℕ → Bool) (s : State ℕ Image) (t u : Stopped) → IsThere t → IsEdited t u → AreBeside among s t.state → AreBeside (λ q. among q && not (q == t.pid)) s u.state
