-- Calls come to the same with and without marks.
use Rattle.std.specs.Prelude.{◌≡◌, ℕ, List}
use Rattle.kr_turns.specs.kr_calm.Shelf.{shelved_by}
use Rattle.kr_turns.specs.kr_execve.Execution.{execution}
use Rattle.kr_turns.specs.kr_model.State.{Image, State}
use Rattle.kr_turns.specs.kr_stops.Watching.{Watcher}
use Rattle.kr_turns.specs.kr_stops.Stopped.{Stopped}
use Rattle.kr_turns.specs.kr_view.View.{Row}
use Rattle.kr_turns.specs.rv_mem.Memory.{Memory}
use Rattle.kr_turns.specs.rv_mem.declared.regs.Regs.{Regs}
use Rattle.kr_turns.specs.PlainCall.{plain_call, row_on}
use Rattle.kr_turns.specs.kr_model.kr_calls.declared.request.Request.{Request}
use Rattle.law_marks.specs.Unmarked.{unmarked, unmarked_done, unmarked_in}
use Rattle.law_marks.specs.Unjudged.{unmarked_came, unmarked_stop}

-- marks are all that a shelf leaves
abbrev pub ShelvesAreMarks : Type 0
ShelvesAreMarks = (marks : ℕ) (regs : Regs) (m : Memory) → unmarked (shelved_by marks regs m) ≡ unmarked m

-- a row, a new program, and any call from its decoding on
pub record PlainCallsSeeNoMarks : Type 0 where
  pub row : (table : List Row) (pid : ℕ) (r : Request) (s : State ℕ Image) → row_on table pid r (unmarked_in s) ≡ unmarked_done (row_on table pid r s)
  pub execution : (table : List Row) (pid : ℕ) (s : State ℕ Image) (path : List ℕ) (args env : ℕ) → execution table pid (unmarked_in s) path args env ≡ execution table pid s path args env
  pub call : (table : List Row) (pid : ℕ) (s : State ℕ Image) → unmarked_came (plain_call table pid (unmarked_in s)) ≡ unmarked_came (plain_call table pid s)

-- a watcher that, at a stop without marks, keeps what it keeps else, and leaves what it leaves else without marks
pub record SeesNoMarks {S : Type 0} (w : Watcher S) : Type 0 where
  pub entry : (x : S) (t : Stopped) → w.entry x (unmarked_stop t) ≡ ((w.entry x t).0, unmarked_stop (w.entry x t).1)
  pub exit : (x : S) (t : Stopped) → w.exit x (unmarked_stop t) ≡ ((w.exit x t).0, unmarked_stop (w.exit x t).1)
