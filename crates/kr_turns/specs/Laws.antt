-- A turn whose watcher is a function is one; a call is its three steps; the target of a call; and which calls leave the shape of the tree.
use Rattle.std.specs.Prelude.{◌≡◌, ℕ, false, List, Some, None}
use Rattle.kr_execve.specs.kr_view.View.{Row}
use Rattle.kr_execve.specs.kr_calls.CallTable.{line}
use Rattle.kr_execve.specs.kr_calls.declared.request.Request.{Request}
use Rattle.kr_execve.specs.kr_tree.Lawful.{IsKept}
use Rattle.kr_steps.specs.kr_model.Judged.{HasShape}
use Rattle.kr_steps.specs.kr_model.Known.{known}
use Rattle.kr_steps.specs.kr_model.State.{Image, Process, State, image_layout}
use Rattle.kr_steps.specs.kr_model.Walks.{seen}
use Rattle.kr_steps.specs.Waiting.{picked_process}
use Rattle.kr_turns.specs.CallSteps.{AreThreeSteps, three_steps}
use Rattle.kr_turns.specs.PlainCall.{operated, plain_call}
use Rattle.kr_turns.specs.Target.{IsLookedAt, instead_of, target_by}
use Rattle.kr_turns.specs.Turn.{IsTurnOf, IsWatchedCall, Machine, turn, watched_call, with_part}
use Rattle.kr_steps.specs.kr_stops.Remembering.{can_alter_shape}
use Rattle.kr_steps.specs.kr_stops.Stopped.{image_in}
use Rattle.kr_steps.specs.kr_stops.Watching.{IsGraph, Watcher, Watching}

-- where the relations of a watcher are the graphs of functions on a part of what it keeps, a turn by the relations is the turn by the
-- functions on that part; and where no process is ready nothing changes
pub record TurnsAreFunctions {S Q : Type 0} (part : S → Q) (w : Watching S) : Type 0 where
  pub turns : (f : Watcher Q) (marks : ℕ) (table : List Row) (pick fuel : ℕ) (p : Process ℕ Image) (old new : Machine S) → IsGraph part w f
      → picked_process old.state pick ≡ Some p → IsTurnOf w marks table fuel p old new → with_part part new ≡ turn f marks table pick fuel (with_part part old)
  pub rests : (f : Watcher Q) (marks : ℕ) (table : List Row) (pick fuel : ℕ) (m : Machine Q) → picked_process m.state pick ≡ None → turn f marks table pick fuel m ≡ m

-- the call of a turn is its three steps, made one after the other
abbrev pub CallsAreThreeSteps : Type 0 → Type 0
CallsAreThreeSteps S = (watcher : Watcher S) (marks : ℕ) (table : List Row) (pid : ℕ) (m : Machine S) → watched_call watcher marks table pid m ≡ three_steps watcher marks table pid m

-- and so it is where the watcher is a relation
pub record WatchedCallsAreThreeSteps {S : Type 0} (w : Watching S) : Type 0 where
  pub parted : (marks : ℕ) (table : List Row) (pid : ℕ) (old new : Machine S) → IsWatchedCall w marks table pid old new → AreThreeSteps w marks table pid old new
  pub joined : (marks : ℕ) (table : List Row) (pid : ℕ) (old new : Machine S) → AreThreeSteps w marks table pid old new → IsWatchedCall w marks table pid old new

-- the target of a call that looks up one path, or has none, is a function of what it is told and knows
abbrev pub TargetsAreTold : Type 0
TargetsAreTold =
    (table : List Row) (pid : ℕ) (r : Request) (s : State ℕ Image) → IsLookedAt (line r).told
    → (operated table pid r s).handed.target ≡ target_by (instead_of r) (seen table pid s r) (known image_layout pid s)

-- a call leaves the shape of the tree, and the user, where its caller's registers hold none that can alter the shape
abbrev pub PlainCallsLeaveShape : Type 0
PlainCallsLeaveShape =
    (table : List Row) (pid : ℕ) (s : State ℕ Image) → IsKept s.tree → can_alter_shape (image_in pid s).regs ≡ false
    → HasShape s.tree (plain_call table pid s).state.tree × ((plain_call table pid s).state.user ≡ s.user)
