-- What a call altered, the shape of the tree and the bytes of files, and what is told of that before it is carried out.
use Rattle.std.specs.Prelude.{◌≡◌, ◌↔◌, ◌&&◌, ℕ, false, List, Option}
use Rattle.law_allowed.specs.kr_calls.declared.request.Request.{Request}
use Rattle.law_allowed.specs.kr_tree.Tree.{Tree}
use Rattle.law_allowed.specs.kr_view.View.{Row}
use Rattle.law_allowed.specs.kr_view.declared.target.Target.{Target}
use Rattle.law_allowed.specs.kr_model.Judged.{HasShape}
use Rattle.law_allowed.specs.kr_model.Known.{known}
use Rattle.law_allowed.specs.kr_model.Operation.{operation}
use Rattle.law_allowed.specs.kr_model.State.{image_layout}
use Rattle.law_allowed.specs.kr_model.Walks.{told}
use Rattle.law_allowed.specs.kr_model.declared.outcome.Outcome.{Outcome}
use Rattle.law_steady.specs.Ahead.{bytes_ahead, is_answered, shape_ahead}
use Rattle.law_steady.specs.Along.{passes_along}
use Rattle.law_steady.specs.Bytes.{HasBytes, alters_bytes_of}
use Rattle.law_steady.specs.Exact.{alters_shape_of}
use Rattle.kr_rows.specs.kr_ops.declared.state.State.{State}
use Rattle.kr_rows.specs.kr_ops.Meaning.{meaning}
use Rattle.kr_transfer.specs.kr_seen.Carrying.{carried, with_memory_of}
use Rattle.kr_transfer.specs.kr_seen.Numbered.{state_numbered}
use Rattle.kr_perform.specs.Operating.{mounts_at, placed_targets}
use Rattle.kr_perform.specs.declared.altering.Altered.{Altered}

-- what is told is exactly what a call made other: it tells neither where the tree behind it has the shape that it had, and its files their bytes
pub record IsAltered (a : Altered) (old new : Tree) : Type 0 where
  pub shape : (a.shape ≡ false) ↔ HasShape old new
  pub bytes : (a.bytes ≡ false) ↔ HasBytes old new

-- neither
abbrev pub nothing_altered : Altered
nothing_altered = record { shape = false; bytes = false }

-- what is told ahead of a call that answers a number, of the targets of its paths
pub record IsAhead {T : Type 0} {M : ℕ} (number : T → ℕ) (table : List Row) (pid : ℕ) (request : Request) (first second : Option (Target T)) (s : State T M) (a : Altered) : Type 0 where
  pub shape : a.shape ≡ shape_ahead s.tree request (told table pid (state_numbered number (meaning s)) request (placed_targets number first second)) (known image_layout pid (meaning s))
  pub bytes : a.bytes ≡ bytes_ahead s.tree request (told table pid (state_numbered number (meaning s)) request (placed_targets number first second)) (known image_layout pid (meaning s))

-- what the changes of a call's reply alter, one behind the other
pub record IsToldOf {T : Type 0} {M : ℕ} (number : T → ℕ) (table : List Row) (pid : ℕ) (request : Request) (first second : Option (Target T)) (s : State T M) (a : Altered) : Type 0 where
  pub shape :
      let done = carried pid (operation pid request (told table pid (state_numbered number (meaning s)) request (placed_targets number first second)) (known image_layout pid (meaning s))) (meaning s) in
      a.shape ≡ passes_along alters_shape_of (mounts_at first) pid (with_memory_of pid done.memory (meaning s)) done.reply.changes
  pub bytes :
      let done = carried pid (operation pid request (told table pid (state_numbered number (meaning s)) request (placed_targets number first second)) (known image_layout pid (meaning s))) (meaning s) in
      a.bytes ≡ passes_along alters_bytes_of (mounts_at first) pid (with_memory_of pid done.memory (meaning s)) done.reply.changes

-- a call that answers no number alters neither
abbrev pub where_answered : Outcome → Altered → Altered
where_answered outcome a = record { shape = is_answered outcome && a.shape; bytes = is_answered outcome && a.bytes }
