-- What is reached from the root stays where what has a name does.
use Rattle.std.proofs.Common.{◌≡◌, ℕ, ◌<◌, Bool, true, false, List, [], ◌∷◌, refl, sym, ap, ◌∙◌, subst, arith, Option, Some, None}
use Rattle.std.specs.Option.{option_map, option_map_or, option_and_then}
use Rattle.kr_files.specs.kr_tree.Tree.{Tree, Inode, Node, Entry, Body, Directory, RegularFile, SymbolicLink, ProcessDirectory, root, inode, entry, entries, entries_of, entry_named, body_without_bytes}
use Rattle.kr_files.specs.kr_tree.Changes as tree
use Rattle.kr_files.specs.kr_tree.Lawful.{IsKept, count_in, names_of}
use Rattle.kr_files.specs.kr_tree.Names.{named}
use Rattle.kr_files.proofs.kr_tree.CountLemmas.{sum-at, in-counted, entries_there}
use Rattle.kr_files.proofs.kr_tree.EntryLemmas.{entered}
use Rattle.kr_files.specs.Descriptors.{Named}
use Rattle.kr_model.specs.State.{Process, State, process, named as descriptor}
use Rattle.kr_model.specs.Change.{Change, AddNode, LinkNode, RemoveName, MoveName, SetMode, SetOwner, SetSize, WriteFile, OpenFile, CopyDescriptor, CloseDescriptor, SetCloexec, Seek, SetAppend, MakePipe, TakeFromPipe, PutIntoPipe, TakeInput, WriteOut, WriteErr, ChangePages, SetBreak, SetUmask, ChangeDirectory, Fork, End, Reap, ReplaceImage, ReplaceExecutable, CloseOnExec}
use Rattle.kr_model.specs.Applied.{Computing, Mounts, applied, mount_of, open_in, copy_over, moved_to, forked_from, executed}
use Rattle.kr_model.specs.Judged.{alters_shape, alters_bytes, without_bytes, IsReachedStill}
use Rattle.kr_model.proofs.StayLemmas.{Stay, stay, stay_with, stay_open, stay_close, stay_copy_over, stay_moved, stay_executed, stay_forked, stay_close_on_exec, stay_end}

-- ---- each change

-- f tells nothing of the bytes of files
abbrev pub Blind : {A : Type 0} → (Node → A) → Type 0
Blind f = (g : List ℕ → List ℕ) (n : Node) → f (record { mode = n.mode; uid = n.uid; gid = n.gid; body = tree.with_bytes g n.body }) ≡ f n

module _ {A : Type 0} (f : Node → A) {M X : Type 0} (computing : Computing X) (mounts : Mounts M) (pid : ℕ) (s : State M X) where
  by_mount : (o : Option M) (g : M → State M X) → ((m : M) → Stay f s.tree.inodes (g m).tree.inodes) → Stay f s.tree.inodes (option_map_or g o s).tree.inodes
  by_mount None g each = stay f s.tree.inodes
  by_mount (Some m) g each = each m

  by_name : (o : Option Named) (g : Named → State M X) → ((x : Named) → Stay f s.tree.inodes (g x).tree.inodes) → Stay f s.tree.inodes (option_map_or g o s).tree.inodes
  by_name None g each = stay f s.tree.inodes
  by_name (Some x) g each = each x

  by_process : (o : Option (Process M X)) (g : Process M X → State M X) → ((p : Process M X) → Stay f s.tree.inodes (g p).tree.inodes) → Stay f s.tree.inodes (option_map_or g o s).tree.inodes
  by_process None g each = stay f s.tree.inodes
  by_process (Some p) g each = each p

  resized : (i : ℕ) (g : List ℕ → List ℕ) → Blind f → Stay f s.tree.inodes (tree.bytes_set i g s.tree).inodes
  resized i g blind = stay_with f i (tree.with_body (tree.with_bytes g)) (λ x. blind g x.node) (λ x. refl) s.tree.inodes

  pub stays : (c : Change) → alters_shape c ≡ false → (alters_bytes c ≡ true → Blind f) → Stay f s.tree.inodes (applied computing mounts pid c s).tree.inodes
  stays (AddNode dir name mode uid gid body) h blind = absurd cc
  stays (LinkNode dir name i) h blind = absurd cc
  stays (RemoveName dir name) h blind = absurd cc
  stays (MoveName dir name to new) h blind = absurd cc
  stays (SetMode i mode) h blind = absurd cc
  stays (SetOwner i uid gid) h blind = absurd cc
  stays (SetSize i size) h blind = resized i (tree.sized size) (blind refl)
  stays (WriteFile i at bytes) h blind = resized i (tree.overwritten at bytes) (blind refl)
  stays (OpenFile fd cloexec from o) h blind = by_mount (mount_of mounts pid s from) (λ m. open_in pid fd cloexec o m s) (λ m. stay_open f pid fd cloexec o m s)
  stays (CopyDescriptor fd to cloexec) h blind = by_name (descriptor pid fd s) (λ x. copy_over pid to cloexec x (descriptor pid to s) s) (λ x. stay_copy_over f pid to cloexec x (descriptor pid to s) s)
  stays (CloseDescriptor fd) h blind = stay_close f pid fd s
  stays (SetCloexec fd on) h blind = stay f s.tree.inodes
  stays (Seek fd at) h blind = by_name (descriptor pid fd s) _ (λ x. stay f s.tree.inodes)
  stays (SetAppend fd on) h blind = by_name (descriptor pid fd s) _ (λ x. stay f s.tree.inodes)
  stays (MakePipe first second cloexec) h blind = stay f s.tree.inodes
  stays (TakeFromPipe pipe count) h blind = stay f s.tree.inodes
  stays (PutIntoPipe pipe bytes) h blind = stay f s.tree.inodes
  stays (TakeInput count) h blind = stay f s.tree.inodes
  stays (WriteOut bytes) h blind = stay f s.tree.inodes
  stays (WriteErr bytes) h blind = stay f s.tree.inodes
  stays (ChangePages c) h blind = stay f s.tree.inodes
  stays (SetBreak brk) h blind = stay f s.tree.inodes
  stays (SetUmask umask) h blind = stay f s.tree.inodes
  stays (ChangeDirectory from host) h blind = by_mount (mount_of mounts pid s from) (λ m. moved_to pid host m s) (λ m. stay_moved f pid host m s)
  stays (Fork b) h blind = by_process (process pid s) (λ p. forked_from computing b p s) (λ p. stay_forked f computing b p s)
  stays (End status) h blind = stay_end f pid status s
  stays (Reap child) h blind = stay f s.tree.inodes
  stays (ReplaceImage image brk) h blind = stay f s.tree.inodes
  stays (ReplaceExecutable from host dir name) h blind = by_mount (mount_of mounts pid s from) (λ m. executed pid host dir name m s) (λ m. stay_executed f pid host dir name m s)
  stays CloseOnExec h blind = stay_close_on_exec f pid 1024 s

-- ---- what is reached has a name

pub record HasName (t : Tree) (i : ℕ) : Type 0 where
  pub own : Inode
  pub there : inode t i ≡ Some own
  pub some : 0 < own.names

module _ (t : Tree) (kept : IsKept t) where
  counted_there : (i : ℕ) → 0 < names_of t i → HasName t i
  counted_there i l = at (inode t i) refl (let is = kept.counted.names i in omega arith)
    where
      at : (o : Option Inode) → inode t i ≡ o → 0 < option_map_or (λ (x : Inode). x.names) o 0 → HasName t i
      at None is some = absurd (omega arith)
      at (Some x) is some = record { own = x; there = is; some = some }

  entered_named : (dir : ℕ) (name : List ℕ) (i : ℕ) → entry t dir name ≡ Some i → HasName t i
  entered_named dir name i h =
      let e = entered t dir name i h in
      let at = entries_there t dir e.own e.inside in
      let below : dir < t.next = (kept.sound.numbered dir at.0 at.1).1 in
      let one : 0 < count_in i (entries t dir) = subst (λ j. 0 < count_in j (entries t dir)) e.leads (in-counted e.own (entries t dir) e.inside) in
      let here = counts (inode t dir) in
      let sum = sum-at (λ x. count_in i (entries_of x.node.body)) t.inodes dir t.next below in
      counted_there i (omega arith)
    where
      counts : (o : Option Inode) → option_map_or (λ (x : Inode). count_in i (entries_of x.node.body)) o 0 ≡ count_in i (option_map_or (λ (x : Inode). entries_of x.node.body) o [])
      counts None = refl
      counts (Some x) = refl

  pub reached_named : (text : List (List ℕ)) (i : ℕ) → named t text ≡ Some i → HasName t i
  reached_named [] i h = let is : root ≡ i = cc in subst (HasName t) is (counted_there root (omega arith))
  reached_named (name ∷ text) i h = at (named t text) h
    where
      at : (o : Option ℕ) → option_and_then (λ dir. entry t dir name) o ≡ Some i → HasName t i
      at None h = absurd cc
      at (Some dir) h = entered_named dir name i h

-- ---- what is reached stays

-- f tells the entries of a directory
abbrev pub Tells : {A : Type 0} → (Node → A) → Type 0
Tells f = (n k : Node) → f n ≡ f k → entries_of n.body ≡ entries_of k.body

module _ {A : Type 0} (f : Node → A) (tells : Tells f) (t u : Tree) (kept : IsKept t) (stays : Stay f t.inodes u.inodes) where
  same_entries : (dir : ℕ) → HasName t dir → entries u dir ≡ entries t dir
  same_entries dir x =
      let y = stays.each dir x.own x.there x.some in
      ap (λ o. option_map_or (λ (x : Inode). entries_of x.node.body) o []) y.1 ∙ tells y.0.node x.own.node y.2
      ∙ sym (ap (λ o. option_map_or (λ (x : Inode). entries_of x.node.body) o []) x.there)

  same_named : (text : List (List ℕ)) → named u text ≡ named t text
  same_named [] = refl
  same_named (name ∷ text) = ap (option_and_then (λ dir. entry u dir name)) (same_named text) ∙ at (named t text) refl
    where
      at : (o : Option ℕ) → named t text ≡ o → option_and_then (λ dir. entry u dir name) o ≡ option_and_then (λ dir. entry t dir name) o
      at None is = refl
      at (Some dir) is = ap (λ es. option_map (λ (e : Entry). e.inode) (entry_named name es)) (same_entries dir (reached_named t kept text dir is))

  same_node : (text : List (List ℕ)) (i : ℕ) → named t text ≡ Some i → option_map f (option_map (λ x. x.node) (inode u i)) ≡ option_map f (option_map (λ x. x.node) (inode t i))
  same_node text i h =
      let x = reached_named t kept text i h in
      let y = stays.each i x.own x.there x.some in
      ap (λ o. option_map f (option_map (λ (x : Inode). x.node) o)) y.1 ∙ ap Some y.2 ∙ sym (ap (λ o. option_map f (option_map (λ (x : Inode). x.node) o)) x.there)

  pub reached_still : IsReachedStill f t u
  reached_still = record { names = same_named; nodes = same_node }

-- ---- the two laws

tells_all : Tells {A = Node} (λ n. n)
tells_all n k same = ap (λ (n : Node). entries_of n.body) same

without_entries : (b : Body) → entries_of (body_without_bytes b) ≡ entries_of b
without_entries (Directory es standing) = refl
without_entries (RegularFile bytes) = refl
without_entries (SymbolicLink text) = refl
without_entries (ProcessDirectory standing) = refl

tells_shape : Tells without_bytes
tells_shape n k same = sym (without_entries n.body) ∙ ap (λ (n : Node). entries_of n.body) same ∙ without_entries k.body

blind_body : (g : List ℕ → List ℕ) (b : Body) → body_without_bytes (tree.with_bytes g b) ≡ body_without_bytes b
blind_body g (Directory es standing) = refl
blind_body g (RegularFile bytes) = refl
blind_body g (SymbolicLink text) = refl
blind_body g (ProcessDirectory standing) = refl

blind_shape : Blind without_bytes
blind_shape g n = ap (λ b. record { mode = n.mode; uid = n.uid; gid = n.gid; body = b }) (blind_body g n.body)

not_both : {A : Type 0} (b : Bool) → b ≡ false → b ≡ true → A
not_both true h is = absurd cc
not_both false h is = absurd cc

module _ {M X : Type 0} (computing : Computing X) (mounts : Mounts M) (pid : ℕ) (c : Change) (s : State M X) (kept : IsKept s.tree) where
  pub shape_stays : alters_shape c ≡ false → IsReachedStill without_bytes s.tree (applied computing mounts pid c s).tree
  shape_stays h = reached_still without_bytes tells_shape s.tree (applied computing mounts pid c s).tree kept (stays without_bytes computing mounts pid s c h (λ is. blind_shape))

  pub bytes_stay : alters_shape c ≡ false → alters_bytes c ≡ false → IsReachedStill (λ n. n) s.tree (applied computing mounts pid c s).tree
  bytes_stay h b = reached_still (λ n. n) tells_all s.tree (applied computing mounts pid c s).tree kept (stays (λ n. n) computing mounts pid s c h (λ is. not_both (alters_bytes c) b is))
