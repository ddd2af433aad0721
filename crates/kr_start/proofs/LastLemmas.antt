-- A run begins with what lasts.
use Rattle.std.proofs.Common.{◌≡◌, ℕ, ◌<◌, ◌^◌, Bool, true, false, List, [], ◌∷◌, ap, arith}
use Rattle.std.specs.Prelude.{◌==◌}
use Rattle.std.specs.Bool.{if◌then◌else◌}
use Rattle.kr_text.specs.kr_tree.Changes.{held}
use Rattle.kr_text.specs.kr_tree.Holds.{holds_at}
use Rattle.kr_text.specs.kr_tree.Tree.{Tree}
use Rattle.law_walks.specs.kr_view.View.{Row}
use Rattle.law_walks.specs.kr_files.Files.{Table}
use Rattle.law_walks.specs.kr_model.State.{Image, State, inode_of}
use Rattle.law_allowed.specs.Lasting.{Lasts}
use Rattle.law_allowed.proofs.TreeLemmas.{TreeLasts, held-lasts}
use Rattle.kr_start.specs.Beginning.{CanLast}
use Rattle.kr_start.proofs.TreeLemmas.{lasts-of, can-last}
use Rattle.kr_start.specs.Laws.{StartsLast}
use Rattle.kr_start.specs.Start.{held_once, pinned, started, without_processes}

once-lasts : (i : ℕ) (t : Tree) → TreeLasts 0 t → TreeLasts 0 (held_once i t)
once-lasts i t lasts = by (holds_at t i == 0)
  where
    by : (b : Bool) → TreeLasts 0 (if b then held i t else t)
    by true = held-lasts 0 t lasts i
    by false = lasts

pinned-lasts : (rows : List Row) (t : Tree) → TreeLasts 0 t → TreeLasts 0 (pinned rows t)
pinned-lasts [] t lasts = lasts
pinned-lasts (r ∷ rows) t lasts = pinned-lasts rows (held_once r.source t) (once-lasts r.source t lasts)

module _ {T : Type 0} where
  -- the tree's part of it
  tree-can : (s : State T Image) → Lasts 0 s → CanLast s.tree s.user
  tree-can s lasts = record {
    texts = lasts.texts;
    owners = lasts.owners;
    user = lasts.user;
    inodes = let few = lasts.drawn.inodes in omega arith;
    serials = λ i x at. let few = lasts.drawn.serials i x at in omega arith;
  }

  -- and the whole, where few open files, pipes and processes were drawn
  all-last : (s : State T Image) → TreeLasts 0 s.tree → (s.user.uid < 2 ^ 32) × (s.user.gid < 2 ^ 32) → s.files.last_file < 2 ^ 31 → s.files.last_pipe < 2 ^ 31 → s.next_pid < 2 ^ 31 → Lasts 0 s
  all-last s tree small files pipes pids =
      let can = can-last s.tree s.user (0, tree) small (let few = tree.next in omega arith) (λ i x at. let few = (tree.inodes i x at).serials in omega arith) in
      record {
        texts = can.texts;
        owners = can.owners;
        user = small;
        drawn = record {
          inodes = tree.next;
          serials = λ i x at. (tree.inodes i x at).serials;
          files = omega arith;
          pipes = omega arith;
          pids = omega arith;
        };
      }

pub starts-last : (T : Type 0) → StartsLast T
starts-last T = record {
  before = λ table t user input can.
      all-last (without_processes (pinned table t) user input) (pinned-lasts table t (lasts-of t user can)) can.user (omega arith) (omega arith) (omega arith);
  begun = λ first s idle lasts.
      let stood : Tree = held (inode_of first.cwd.host) s.tree in
      let files : s.files.last_file ≡ 0 = ap (λ (f : Table T). f.last_file) idle.files in
      let pipes : s.files.last_pipe ≡ 0 = ap (λ (f : Table T). f.last_pipe) idle.files in
      let pids : s.next_pid ≡ 2 = idle.next_pid in
      all-last (started first s)
      (held-lasts 0 stood (held-lasts 0 s.tree (lasts-of s.tree s.user (tree-can s lasts)) (inode_of first.cwd.host)) (inode_of first.exe.host))
      lasts.user (omega arith) (omega arith) (omega arith);
}
