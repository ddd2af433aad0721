-- What has a name keeps one, where no name is taken away.
use Rattle.std.specs.FinMap as map
use Rattle.std.proofs.Common.{◌≡◌, ℕ, ◌+◌, ◌<◌, false, List, refl, ap, arith, Option, Some, None}
use Rattle.std.specs.Option.{option_map, option_map_or}
use Rattle.kr_calls.proofs.pr_base.MapLemmas.{by_key, get-insert_same, get-insert_other, get-changed_same, get-changed_other}
use Rattle.kr_files.specs.kr_tree.Tree.{Tree, Inode, Inodes, Node, Body, is_directory}
use Rattle.kr_files.specs.kr_tree.Changes as tree
use Rattle.kr_files.specs.kr_tree.Holds.{names_at}
use Rattle.kr_files.proofs.kr_tree.InodesLemmas.{stays-names}
use Rattle.kr_model.specs.State.{State}
use Rattle.kr_model.specs.Change.{Change, AddNode, LinkNode, RemoveName, MoveName, SetMode, SetOwner, SetSize, WriteFile, OpenFile, CopyDescriptor, CloseDescriptor, SetCloexec, Seek, SetAppend, MakePipe, TakeFromPipe, PutIntoPipe, TakeInput, WriteOut, WriteErr, ChangePages, SetBreak, SetUmask, ChangeDirectory, Fork, End, Reap, ReplaceImage, ReplaceExecutable, CloseOnExec}
use Rattle.kr_model.specs.Applied.{Computing, Mounts, applied}
use Rattle.kr_model.specs.Judged.{alters_shape, takes_name}
use Rattle.kr_model.proofs.StayLemmas.{Stay}
use Rattle.kr_model.proofs.ShapeLemmas.{stays}

-- what f tells of a node doesn't matter here
abbrev nothing : Node → Unit {0}
nothing n = tt

by_stay : (m n : Inodes) → Stay nothing m n → (i : ℕ) → 0 < option_map_or (λ (x : Inode). x.names) (map.get m i) 0 → 0 < option_map_or (λ (x : Inode). x.names) (map.get n i) 0
by_stay m n stay i l = at (map.get m i) refl l
  where
    at : (o : Option Inode) → map.get m i ≡ o → 0 < option_map_or (λ (x : Inode). x.names) o 0 → 0 < option_map_or (λ (x : Inode). x.names) (map.get n i) 0
    at None is some = absurd (omega arith)
    at (Some x) is some =
        let y = stay.each i x is some in
        let same = ap (λ o. option_map_or (λ (x : Inode). x.names) o 0) y.1 in
        let names = y.3 in
        omega arith

-- an inode more, and a name more
added : (dir : ℕ) (name : List ℕ) (mode uid gid : ℕ) (body : Body) (t : Tree) (i : ℕ) → 0 < names_at t i → 0 < names_at (tree.added dir name mode uid gid body t) i
added dir name mode uid gid body t i l =
    let m : Inodes = tree.with_inode dir (tree.with_entry name t.next (is_directory body)) t.inodes in
    let new : Inode = tree.fresh mode uid gid (tree.with_standing (tree.next_standing t dir) body) in
    let before = stays-names t.inodes dir (tree.with_entry name t.next (is_directory body)) i (λ x. refl) in
    by_key (λ q. 0 < option_map_or (λ (x : Inode). x.names) (map.get m q) 0 → 0 < option_map_or (λ (x : Inode). x.names) (map.get (map.insert m t.next new) q) 0) t.next
    (λ l. let is = ap (λ o. option_map_or (λ (x : Inode). x.names) o 0) (get-insert_same m t.next new) in omega arith)
    (λ q d l. let is = ap (λ o. option_map_or (λ (x : Inode). x.names) o 0) (get-insert_other m t.next new q d) in omega arith)
    i (omega arith)

linked : (dir : ℕ) (name : List ℕ) (file : ℕ) (t : Tree) (i : ℕ) → 0 < names_at t i → 0 < names_at (tree.linked dir name file t) i
linked dir name file t i l =
    let m : Inodes = tree.with_inode dir (tree.with_entry name file false) t.inodes in
    let before = stays-names t.inodes dir (tree.with_entry name file false) i (λ x. refl) in
    by_key (λ q. 0 < option_map_or (λ (x : Inode). x.names) (map.get m q) 0 → 0 < option_map_or (λ (x : Inode). x.names) (map.get (tree.with_inode file (tree.with_names (λ n. n + 1)) m) q) 0) file
    (λ l. let is = ap (λ o. option_map_or (λ (x : Inode). x.names) o 0) (get-changed_same m file (tree.with_names (λ n. n + 1))) in let more = one_more (map.get m file) l in omega arith)
    (λ q d l. let is = ap (λ o. option_map_or (λ (x : Inode). x.names) o 0) (get-changed_other m file (tree.with_names (λ n. n + 1)) q d) in omega arith)
    i (omega arith)
  where
    one_more : (o : Option Inode) → 0 < option_map_or (λ (x : Inode). x.names) o 0 → 0 < option_map_or (λ (x : Inode). x.names) (option_map (tree.with_names (λ n. n + 1)) o) 0
    one_more None l = absurd (omega arith)
    one_more (Some x) l = omega arith

module _ {M X : Type 0} (computing : Computing X) (mounts : Mounts M) (pid : ℕ) where
  unshaped : (c : Change) (s : State M X) → alters_shape c ≡ false → (i : ℕ) → 0 < names_at s.tree i → 0 < names_at (applied computing mounts pid c s).tree i
  unshaped c s h i l = by_stay s.tree.inodes (applied computing mounts pid c s).tree.inodes (stays nothing computing mounts pid s c h (λ is g n. refl)) i l

  same_names : (k : ℕ) (g : Inode → Inode) → ((x : Inode) → (g x).names ≡ x.names) → (s : State M X) (i : ℕ) → 0 < names_at s.tree i → 0 < option_map_or (λ (x : Inode). x.names) (map.get (tree.with_inode k g s.tree.inodes) i) 0
  same_names k g same s i l = let is = stays-names s.tree.inodes k g i same in omega arith

  pub names_stay : (c : Change) (s : State M X) → takes_name c ≡ false → (i : ℕ) → 0 < names_at s.tree i → 0 < names_at (applied computing mounts pid c s).tree i
  names_stay (AddNode dir name mode uid gid body) s h i l = added dir name mode uid gid body s.tree i l
  names_stay (LinkNode dir name file) s h i l = linked dir name file s.tree i l
  names_stay (RemoveName dir name) s h i l = absurd cc
  names_stay (MoveName dir name to new) s h i l = absurd cc
  names_stay (SetMode k mode) s h i l = same_names k (tree.with_mode mode) (λ x. refl) s i l
  names_stay (SetOwner k uid gid) s h i l = same_names k (tree.with_owner uid gid) (λ x. refl) s i l
  names_stay (SetSize k size) s h i l = unshaped (SetSize k size) s refl i l
  names_stay (WriteFile k at bytes) s h i l = unshaped (WriteFile k at bytes) s refl i l
  names_stay (OpenFile fd cloexec from o) s h i l = unshaped (OpenFile fd cloexec from o) s refl i l
  names_stay (CopyDescriptor fd to cloexec) s h i l = unshaped (CopyDescriptor fd to cloexec) s refl i l
  names_stay (CloseDescriptor fd) s h i l = unshaped (CloseDescriptor fd) s refl i l
  names_stay (SetCloexec fd on) s h i l = unshaped (SetCloexec fd on) s refl i l
  names_stay (Seek fd at) s h i l = unshaped (Seek fd at) s refl i l
  names_stay (SetAppend fd on) s h i l = unshaped (SetAppend fd on) s refl i l
  names_stay (MakePipe first second cloexec) s h i l = unshaped (MakePipe first second cloexec) s refl i l
  names_stay (TakeFromPipe pipe count) s h i l = unshaped (TakeFromPipe pipe count) s refl i l
  names_stay (PutIntoPipe pipe bytes) s h i l = unshaped (PutIntoPipe pipe bytes) s refl i l
  names_stay (TakeInput count) s h i l = unshaped (TakeInput count) s refl i l
  names_stay (WriteOut bytes) s h i l = unshaped (WriteOut bytes) s refl i l
  names_stay (WriteErr bytes) s h i l = unshaped (WriteErr bytes) s refl i l
  names_stay (ChangePages c) s h i l = unshaped (ChangePages c) s refl i l
  names_stay (SetBreak brk) s h i l = unshaped (SetBreak brk) s refl i l
  names_stay (SetUmask umask) s h i l = unshaped (SetUmask umask) s refl i l
  names_stay (ChangeDirectory from host) s h i l = unshaped (ChangeDirectory from host) s refl i l
  names_stay (Fork b) s h i l = unshaped (Fork b) s refl i l
  names_stay (End status) s h i l = unshaped (End status) s refl i l
  names_stay (Reap child) s h i l = unshaped (Reap child) s refl i l
  names_stay (ReplaceImage image brk) s h i l = unshaped (ReplaceImage image brk) s refl i l
  names_stay (ReplaceExecutable from host dir name) s h i l = unshaped (ReplaceExecutable from host dir name) s refl i l
  names_stay CloseOnExec s h i l = unshaped CloseOnExec s refl i l
