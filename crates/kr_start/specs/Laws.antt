-- What pinning the sources of mounts leaves, and what lasts from the start on.
use Rattle.std.specs.Prelude.{◌≡◌, ℕ, List}
use Rattle.kr_text.specs.kr_inode.declared.user.User.{User}
use Rattle.kr_text.specs.kr_tree.Tree.{Tree}
use Rattle.kr_text.specs.kr_tree.Holds.{holds_at}
use Rattle.law_walks.specs.kr_view.View.{Row, StandsIn}
use Rattle.law_walks.specs.kr_model.Bare.{pins_of}
use Rattle.law_walks.specs.kr_model.State.{Image, State}
use Rattle.law_allowed.specs.Lasting.{Lasts}
use Rattle.kr_start.specs.Beginning.{CanLast}
use Rattle.kr_start.specs.Start.{pinned, started, without_processes, First, HasNoHolds, IsIdle}

abbrev pub SourcesAreHeld : Type 0
SourcesAreHeld = (table : List Row) (t : Tree) → StandsIn t table → HasNoHolds t → (i : ℕ) → holds_at (pinned table t) i ≡ pins_of table i

pub record StartsLast (T : Type 0) : Type 0 where
  -- before a process lives, whatever mounts are pinned
  pub before : (table : List Row) (t : Tree) (user : User) (input : List ℕ) → CanLast t user → Lasts {M = T} {X = Image} 0 (without_processes (pinned table t) user input)
  -- with the first process and the console
  pub begun : (first : First T) (s : State T Image) → IsIdle s → Lasts 0 s → Lasts 0 (started first s)
