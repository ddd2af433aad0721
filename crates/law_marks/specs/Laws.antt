-- What is done, known and told is the same with and without marks.
use Rattle.std.specs.Prelude.{◌≡◌, ℕ, List, map as map_list}
use Rattle.kr_turns.specs.rv_cpu.Run.{ran}
use Rattle.kr_turns.specs.kr_model.rv_mem.Actions.{Action, carried_out}
use Rattle.kr_turns.specs.kr_model.rv_mem.Layout.{layout_of}
use Rattle.kr_turns.specs.kr_model.rv_mem.Memory.{Memory}
use Rattle.kr_turns.specs.kr_model.rv_mem.Pages.{Pages, marked}
use Rattle.kr_turns.specs.kr_model.rv_mem.declared.regs.Regs.{Regs}
use Rattle.kr_turns.specs.kr_model.kr_calls.declared.request.Request.{Request}
use Rattle.kr_turns.specs.kr_model.kr_view.View.{Row}
use Rattle.kr_turns.specs.kr_model.Applied.{Mounts, all_applied, images}
use Rattle.kr_turns.specs.kr_model.Change.{Change}
use Rattle.kr_turns.specs.kr_model.Known.{known}
use Rattle.kr_turns.specs.kr_model.ProcessDirectory.{around_of}
use Rattle.kr_turns.specs.kr_model.State.{Image, State, image_layout}
use Rattle.kr_turns.specs.kr_model.Walks.{seen, targets_of}
use Rattle.law_marks.specs.Unmarked.{unmarked, unmarked_change, unmarked_done, unmarked_end, unmarked_in, unmarked_pages}

-- ---- memories

-- marks that are set are all that a mark changes, and the layout has none
pub record MarksAreApart : Type 0 where
  pub marked : (m : Pages) (at n : ℕ) → unmarked_pages (marked m at n) ≡ unmarked_pages m
  pub layout : (m : Pages) → layout_of (unmarked_pages m) ≡ layout_of m
  pub twice : (m : Memory) → unmarked (unmarked m) ≡ unmarked m

-- an action gives the same on a memory without its marks, and leaves it without marks
abbrev pub ActionsSeeNoMarks : Type 0 → Type 0
ActionsSeeNoMarks A = (action : Action A) (m : Memory) → carried_out action (unmarked m) ≡ unmarked_done (carried_out action m)

-- and so do instructions
abbrev pub InstructionsSeeNoMarks : Type 0
InstructionsSeeNoMarks = (fuel : ℕ) (s : Regs) (m : Memory) → ran fuel s (unmarked m) ≡ unmarked_end (ran fuel s m)

-- ---- calls

-- what a call knows, and what it is told of its paths
pub record CallsSeeNoMarks : Type 0 where
  pub known : (pid : ℕ) (s : State ℕ Image) → known image_layout pid (unmarked_in s) ≡ known image_layout pid s
  pub around : (table : List Row) (caller : ℕ) (s : State ℕ Image) → around_of table caller (unmarked_in s) ≡ around_of table caller s
  pub targets : (table : List Row) (pid : ℕ) (s : State ℕ Image) (r : Request) → targets_of table pid (unmarked_in s) r ≡ targets_of table pid s r
  pub seen : (table : List Row) (pid : ℕ) (s : State ℕ Image) (r : Request) → seen table pid (unmarked_in s) r ≡ seen table pid s r

-- changes do on a state without its marks what they do on the state
abbrev pub ChangesSeeNoMarks : Type 0 → Type 0
ChangesSeeNoMarks M =
    (mounts : Mounts M) (pid : ℕ) (cs : List Change) (s : State M Image)
    → all_applied images mounts pid (map_list unmarked_change cs) (unmarked_in s) ≡ unmarked_in (all_applied images mounts pid cs s)
