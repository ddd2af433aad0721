-- Modest changes keep what lasts, where they can be made.
use Rattle.std.proofs.Common.{◌≡◌, ℕ, zero, suc, ◌+◌, ◌<◌, ◌^◌, List, [], ◌∷◌, refl, sym, subst, ap, ◌∙◌, arith, Option, Some, None}
use Rattle.std.specs.Prelude.{IfSome}
use Rattle.std.specs.List.{AllByRecursion}
use Rattle.std.specs.Option.{option_map, option_map_or}
use Rattle.law_lawful.specs.kr_inode.declared.user.User.{User}
use Rattle.law_lawful.specs.kr_tree.Tree.{Tree, Body, Directory, RegularFile, SymbolicLink, ProcessDirectory, Inode, inode}
use Rattle.law_lawful.specs.kr_tree.Changes as tree
use Rattle.law_lawful.proofs.kr_tree.NameLemmas.{some_is}
use Rattle.law_lawful.specs.kr_view.View.{Row}
use Rattle.law_lawful.specs.kr_files.Descriptors.{Named}
use Rattle.law_lawful.specs.kr_files.Files.{with_opened}
use Rattle.law_lawful.specs.kr_files.declared.opened.Opened.{Opened}
use Rattle.law_lawful.specs.kr_model.State.{Image, Process, State, process, named}
use Rattle.law_lawful.specs.kr_model.Change.{Change, AddNode, LinkNode, RemoveName, MoveName, SetMode, SetOwner, SetSize, WriteFile, OpenFile, CopyDescriptor, CloseDescriptor, SetCloexec, Seek, SetAppend, MakePipe, TakeFromPipe, PutIntoPipe, TakeInput, WriteOut, WriteErr, ChangePages, SetBreak, SetUmask, ChangeDirectory, Fork, End, Reap, ReplaceImage, ReplaceExecutable, CloseOnExec}
use Rattle.law_lawful.specs.kr_model.Applied.{Mounts, applied, all_applied, images, mount_of, with_tree, with_files, on_opened_of, open_in, copy_over, moved_to, forked_from, executed}
use Rattle.law_lawful.specs.kr_model.Conditions.{CanBeMade, CanFork}
use Rattle.law_lawful.specs.Laws.{CanAllBeMade}
use Rattle.law_allowed.specs.Texts.{IsText}
use Rattle.law_allowed.specs.Drawing.{names_drawn, files_drawn, pids_drawn, drawn_by}
use Rattle.law_allowed.specs.Lasting.{HasText, Lasts, IsOfUser, ModestChangesLast}
use Rattle.law_allowed.proofs.TreeLemmas.{TreeLasts, added-lasts, linked-lasts, removed-lasts, renamed-lasts, mode_set-lasts, owner_set-lasts, bytes_set-lasts}
use Rattle.law_allowed.proofs.StateLemmas.{Drawn, StateLasts, state-later, read-last, write-last, open-lasts, close-lasts, copy_over-lasts, moved_to-lasts, executed-lasts, forked-lasts, close_on_exec-lasts, end-lasts}

-- the sum of `more` and n, computed step by step
abbrev further : ℕ → ℕ → ℕ
further zero n = n
further (suc more) n = suc (further more n)

further-is : (more n : ℕ) → further more n ≡ more + n
further-is zero n = omega arith
further-is (suc more) n = let rest = further-is more n in omega arith

-- with what a change draws
abbrev with_change : Change → Drawn → Drawn
with_change c d = record { names = further (names_drawn c) d.names; files = further (files_drawn c) d.files; pids = further (pids_drawn c) d.pids }

-- and with what changes draw
abbrev with_changes : List Change → Drawn → Drawn
with_changes cs d = record { names = drawn_by names_drawn cs + d.names; files = drawn_by files_drawn cs + d.files; pids = drawn_by pids_drawn cs + d.pids }

module _ {M : Type 0} (number : M → ℕ) (table : List Row) (mounts : Mounts M) (pid : ℕ) (user : User) (small : (user.uid < 2 ^ 32) × (user.gid < 2 ^ 32)) where
  -- ---- one change

  module _ (d : Drawn) (s : State M Image) (lasts : StateLasts user d s) where
    -- another tree, which drew `names` names
    on-tree : (names : ℕ) (f : Tree → Tree) → TreeLasts names (f s.tree) → StateLasts user (record { names = names; files = d.files; pids = d.pids }) (with_tree f s)
    on-tree names f last = record { user = lasts.user; tree = last; files = lasts.files; pids = lasts.pids }

    opened-lasts : (fd : ℕ) (f : Opened M → Opened M) → StateLasts user d (on_opened_of pid fd f s)
    opened-lasts fd f = by (named pid fd s)
      where
        by : (o : Option Named) → StateLasts user d (option_map_or (λ x. with_files (with_opened x.number f) s) o s)
        by None = lasts
        by (Some x) = record { user = lasts.user; tree = lasts.tree; files = record { files = lasts.files.files; pipes = lasts.files.pipes }; pids = lasts.pids }

    abbrev After : Change → Type 0
    After c = StateLasts user (with_change c d) (applied images mounts pid c s)

    change-lasts : (c : Change) → CanBeMade number table mounts pid s c → IsOfUser user c → After c
    change-lasts (AddNode dir name mode uid gid b) can of =
        on-tree (suc d.names) (tree.added dir name mode uid gid b)
        (added-lasts d.names s.tree lasts.tree dir name mode uid gid b
        (let own = of.0 in let bound = small.0 in omega arith, let own = of.1 in let bound = small.1 in omega arith) of.2)
    change-lasts (LinkNode dir name i) can of = on-tree (suc d.names) (tree.linked dir name i) (linked-lasts d.names s.tree lasts.tree dir name i)
    change-lasts (RemoveName dir name) can of = record {
      user = lasts.user;
      tree = removed-lasts d.names s.tree lasts.tree dir name;
      files = record { files = lasts.files.files; pipes = lasts.files.pipes };
      pids = lasts.pids;
    }
    change-lasts (MoveName dir name to new) can of = record {
      user = lasts.user;
      tree = renamed-lasts d.names s.tree lasts.tree dir name to new;
      files = record { files = lasts.files.files; pipes = lasts.files.pipes };
      pids = lasts.pids;
    }
    change-lasts (SetMode i mode) can of = on-tree d.names (tree.mode_set i mode) (mode_set-lasts d.names s.tree lasts.tree i mode)
    change-lasts (SetOwner i uid gid) can of = on-tree d.names (tree.owner_set i uid gid) (owner_set-lasts d.names s.tree lasts.tree i uid gid (can.1, can.2))
    change-lasts (SetSize i size) can of = on-tree d.names (tree.bytes_set i (tree.sized size)) (bytes_set-lasts d.names s.tree lasts.tree i (tree.sized size))
    change-lasts (WriteFile i at bytes) can of = on-tree d.names (tree.bytes_set i (tree.overwritten at bytes)) (bytes_set-lasts d.names s.tree lasts.tree i (tree.overwritten at bytes))
    change-lasts (OpenFile fd cloexec from o) can of =
        subst (λ m. StateLasts user (with_change (OpenFile fd cloexec from o) d) (option_map_or (λ m. open_in pid fd cloexec o m s) m s)) (sym can.taken)
        (open-lasts user d pid fd cloexec o can.mount s lasts)
    change-lasts (CopyDescriptor fd to cloexec) can of = by (named pid fd s)
      where
        by : (o : Option Named) → StateLasts user d (option_map_or (λ x. copy_over pid to cloexec x (named pid to s) s) o s)
        by None = lasts
        by (Some x) = copy_over-lasts user d pid to cloexec x (named pid to s) s lasts
    change-lasts (CloseDescriptor fd) can of = close-lasts user d pid fd s lasts
    change-lasts (SetCloexec fd on) can of = record { user = lasts.user; tree = lasts.tree; files = lasts.files; pids = lasts.pids }
    change-lasts (Seek fd at) can of = opened-lasts fd _
    change-lasts (SetAppend fd on) can of = opened-lasts fd _
    change-lasts (MakePipe first second cloexec) can of = record {
      user = lasts.user;
      tree = lasts.tree;
      files = record { files = let before = lasts.files.files in omega arith; pipes = let before = lasts.files.pipes in omega arith };
      pids = lasts.pids;
    }
    change-lasts (TakeFromPipe pipe count) can of = record { user = lasts.user; tree = lasts.tree; files = read-last d.files s.files lasts.files pipe count; pids = lasts.pids }
    change-lasts (PutIntoPipe pipe bytes) can of = record { user = lasts.user; tree = lasts.tree; files = write-last d.files s.files lasts.files pipe bytes; pids = lasts.pids }
    change-lasts (TakeInput count) can of = record { user = lasts.user; tree = lasts.tree; files = lasts.files; pids = lasts.pids }
    change-lasts (WriteOut bytes) can of = record { user = lasts.user; tree = lasts.tree; files = lasts.files; pids = lasts.pids }
    change-lasts (WriteErr bytes) can of = record { user = lasts.user; tree = lasts.tree; files = lasts.files; pids = lasts.pids }
    change-lasts (ChangePages c) can of = record { user = lasts.user; tree = lasts.tree; files = lasts.files; pids = lasts.pids }
    change-lasts (SetBreak brk) can of = record { user = lasts.user; tree = lasts.tree; files = lasts.files; pids = lasts.pids }
    change-lasts (SetUmask umask) can of = record { user = lasts.user; tree = lasts.tree; files = lasts.files; pids = lasts.pids }
    change-lasts (ChangeDirectory from host) can of = by (mount_of mounts pid s from)
      where
        by : (o : Option M) → StateLasts user d (option_map_or (λ m. moved_to pid host m s) o s)
        by None = lasts
        by (Some m) = moved_to-lasts user d pid host m s lasts
    change-lasts (Fork b) can of = by (process pid s) can
      where
        by : (o : Option (Process M Image)) → IfSome o (CanFork b s) → StateLasts user (with_change (Fork b) d) (option_map_or (λ p. forked_from images b p s) o s)
        by None can = state-later user d (with_change (Fork b) d) (record { names = omega arith; files = omega arith; pids = omega arith }) s lasts
        by (Some p) can = forked-lasts user d images b p s can.next lasts
    change-lasts (End status) can of = end-lasts user d pid status s lasts
    change-lasts (Reap child) can of = record { user = lasts.user; tree = lasts.tree; files = lasts.files; pids = lasts.pids }
    change-lasts (ReplaceImage image brk) can of = record { user = lasts.user; tree = lasts.tree; files = lasts.files; pids = lasts.pids }
    change-lasts (ReplaceExecutable from host dir name) can of = by (mount_of mounts pid s from)
      where
        by : (o : Option M) → StateLasts user d (option_map_or (λ m. executed pid host dir name m s) o s)
        by None = lasts
        by (Some m) = executed-lasts user d pid host dir name m s lasts
    change-lasts CloseOnExec can of = close_on_exec-lasts user d pid 1024 s lasts

  -- ---- one behind the other

  all-last : (cs : List Change) (d : Drawn) (s : State M Image) → CanAllBeMade number table mounts pid s cs → AllByRecursion (IsOfUser user) cs
      → StateLasts user d s → StateLasts user (with_changes cs d) (all_applied images mounts pid cs s)
  all-last [] d s can of lasts = state-later user d (with_changes [] d) (record { names = omega arith; files = omega arith; pids = omega arith }) s lasts
  all-last (c ∷ cs) d s can of lasts =
      state-later user (with_changes cs (with_change c d)) (with_changes (c ∷ cs) d)
      (record {
        names = let e = further-is (names_drawn c) d.names in omega arith;
        files = let e = further-is (files_drawn c) d.files in omega arith;
        pids = let e = further-is (pids_drawn c) d.pids in omega arith;
      })
      (all_applied images mounts pid (c ∷ cs) s)
      (all-last cs (with_change c d) (applied images mounts pid c s) can.2 of.1 (change-lasts d s lasts c can.1 of.0))

-- ---- a call

-- `calls` draws of each kind
abbrev each_so_often : ℕ → Drawn
each_so_often calls = record { names = calls; files = calls; pids = calls }

module _ {M : Type 0} where
  before-call : (calls : ℕ) (s : State M Image) → Lasts calls s → StateLasts s.user (each_so_often calls) s
  before-call calls s lasts = record {
    user = refl;
    tree = record {
      next = lasts.drawn.inodes;
      inodes = λ i x at. record { text = has-text i x at x.node.body refl; owners = lasts.owners i x at; serials = lasts.drawn.serials i x at };
    };
    files = record { files = lasts.drawn.files; pipes = lasts.drawn.pipes };
    pids = lasts.drawn.pids;
  }
    where
      has-text : (i : ℕ) (x : Inode) → inode s.tree i ≡ Some x → (b : Body) → x.node.body ≡ b → HasText b
      has-text i x at (Directory entries standing) is = tt
      has-text i x at (RegularFile bytes) is = tt
      has-text i x at (SymbolicLink text) is = lasts.texts i text (ap (option_map (λ (x : Inode). x.node.body)) at ∙ ap Some is)
      has-text i x at (ProcessDirectory standing) is = tt

  after-call : (calls : ℕ) (user : User) (s : State M Image) → (user.uid < 2 ^ 32) × (user.gid < 2 ^ 32) → StateLasts user (each_so_often calls) s → Lasts calls s
  after-call calls user s small lasts = record {
    texts = λ i text at. text-of text (inode s.tree i) (λ x is. (lasts.tree.inodes i x is).text) at;
    owners = λ i x at. (lasts.tree.inodes i x at).owners;
    user = subst (λ (u : User). (u.uid < 2 ^ 32) × (u.gid < 2 ^ 32)) (sym lasts.user) small;
    drawn = record {
      inodes = lasts.tree.next;
      serials = λ i x at. (lasts.tree.inodes i x at).serials;
      files = lasts.files.files;
      pipes = lasts.files.pipes;
      pids = lasts.pids;
    };
  }
    where
      text-of : (text : List ℕ) (o : Option Inode) → ((x : Inode) → o ≡ Some x → HasText x.node.body) → option_map (λ (x : Inode). x.node.body) o ≡ Some (SymbolicLink text) → IsText text
      text-of text None has at = absurd cc
      text-of text (Some x) has at = subst HasText (some_is x.node.body (SymbolicLink text) at) (has x refl)

pub modest-last : (M : Type 0) → ModestChangesLast M
modest-last M number table mounts pid calls cs s lawful can modest lasts =
    let draws = modest.drawn in
    after-call (suc calls) s.user (all_applied images mounts pid cs s) lasts.user
    (state-later s.user (with_changes cs (each_so_often calls)) (each_so_often (suc calls))
    (record {
      names = let once = draws.names in omega arith;
      files = let once = draws.files in omega arith;
      pids = let once = draws.pids in omega arith;
    })
    (all_applied images mounts pid cs s)
    (all-last number table mounts pid s.user lasts.user cs (each_so_often calls) s can modest.users (before-call calls s lasts)))
