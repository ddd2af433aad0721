-- Calls leave a state that has bytes.
use Rattle.std.specs.Prelude.{ℕ, List}
use Rattle.kr_first.specs.rv_mem.Actions.{CarriedOut}
use Rattle.kr_first.specs.rv_mem.Pages.{HoldsBytes}
use Rattle.kr_first.specs.kr_calls.declared.request.Request.{Request}
use Rattle.kr_first.specs.kr_tree.Lawful.{AreBytes}
use Rattle.kr_first.specs.kr_view.View.{Row}
use Rattle.kr_first.specs.kr_model.Applied.{Mounts}
use Rattle.kr_first.specs.kr_model.Operation.{IsNoExec}
use Rattle.kr_first.specs.kr_model.Reply.{Reply}
use Rattle.kr_first.specs.kr_model.State.{Image, State}
use Rattle.kr_first.specs.kr_model.Walks.{targets_of}
use Rattle.kr_first.specs.law_allowed.Told.{mounts_walked}
use Rattle.kr_turns.specs.kr_seen.Carrying.{after_row}
use Rattle.kr_turns.specs.PlainCall.{executed, operated, plain_call, row_on}
use Rattle.law_kept.specs.Bringing.{BringBytes}
use Rattle.law_kept.specs.Bytes.{GivesBytes, HasBytes, TableHasBytes}

-- the memory behind a row, what its changes bring, and the state behind them
pub record LeavesBytes (mounts : Mounts ℕ) (pid : ℕ) (s : State ℕ Image) (done : CarriedOut Reply) : Type 0 where
  pub memory : HoldsBytes done.memory.pages
  pub changes : BringBytes done.reply.changes
  pub state : HasBytes (after_row mounts pid done s)

-- any call but execve, whatever its walks come to
pub record CallsKeepBytes : Type 0 where
  pub row : (table : List Row) (pid : ℕ) (r : Request) (s : State ℕ Image) → IsNoExec r → TableHasBytes table → GivesBytes r → HasBytes s → LeavesBytes (mounts_walked (targets_of table pid s r)) pid s (row_on table pid r s)
  pub call : (table : List Row) (pid : ℕ) (r : Request) (s : State ℕ Image) → IsNoExec r → TableHasBytes table → GivesBytes r → HasBytes s → HasBytes (operated table pid r s).state

-- a new program, or the error in place of one
abbrev pub ExecutionsKeepBytes : Type 0
ExecutionsKeepBytes = (table : List Row) (pid : ℕ) (path : List ℕ) (args env : ℕ) (s : State ℕ Image) → TableHasBytes table → AreBytes path → HasBytes s → HasBytes (executed table pid path args env s).state

-- a call from its decoding on
abbrev pub PlainCallsKeepBytes : Type 0
PlainCallsKeepBytes = (table : List Row) (pid : ℕ) (s : State ℕ Image) → TableHasBytes table → HasBytes s → HasBytes (plain_call table pid s).state
