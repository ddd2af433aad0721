-- Where bytes come from: a start has them, and so have tables of mounts.
use Rattle.std.specs.Prelude.{◌≡◌, ℕ, List, length, Ok}
use Rattle.kr_first.specs.rv_mem.Pages.{HoldsBytes}
use Rattle.kr_first.specs.kr_inode.declared.user.User.{User}
use Rattle.kr_first.specs.kr_tree.Lawful.{AreBytes, HasBytes as TreeHasBytes}
use Rattle.kr_first.specs.kr_tree.Tree.{Tree}
use Rattle.kr_first.specs.kr_view.View.{Row, plain}
use Rattle.kr_first.specs.kr_mounts.Standing.{IsSettledIn}
use Rattle.kr_first.specs.kr_model.State.{Image, State}
use Rattle.kr_first.specs.kr_start.Start.{First, pinned, started, without_processes}
use Rattle.kr_first.specs.Starting.{start_of}
use Rattle.kr_first.specs.declared.starting.First as asked
use Rattle.law_kept.specs.Bytes.{AreAllBytes, HasBytes, TableHasBytes}

-- ---- tables of mounts

-- the host's own view has bytes, and so has a table that was settled in a tree of bytes: its locations are names of entries, and so are
-- the names of its sources
pub record TablesHaveBytes : Type 0 where
  pub plain_view : TableHasBytes plain
  pub settled : (t : Tree) (user : User) (table : List Row) → TreeHasBytes t → IsSettledIn t user table → TableHasBytes table

-- ---- starts

pub record StartsHaveBytes (M : Type 0) : Type 0 where
  -- before a process lives
  pub idle : (table : List Row) (tree : Tree) (user : User) (input : List ℕ) → TreeHasBytes tree → AreBytes input → HasBytes {M = M} (without_processes (pinned table tree) user input)
  -- with the first process
  pub begun : (first : First M) (s : State M Image) → HoldsBytes first.image.memory.pages → length first.image.regs.x ≡ 32 → AreBytes first.exe_name → HasBytes s → HasBytes (started first s)

-- the state of a start that isn't refused, of a tree, an input and words of bytes
abbrev pub BeginningsHaveBytes : Type 0
BeginningsHaveBytes =
    (table : List Row) (tree : Tree) (user : User) (input : List ℕ) (first : asked.First) (s : State ℕ Image) → TableHasBytes table → TreeHasBytes tree → AreBytes input
    → AreBytes first.path → AreAllBytes first.args → AreAllBytes first.env → start_of table tree user input first ≡ Ok s → HasBytes s
