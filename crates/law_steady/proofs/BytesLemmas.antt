-- What each change leaves of the bytes of what is there, and which alter them, exactly.
use Rattle.std.specs.FinMap as map
use Rattle.std.proofs.Common.{◌≡◌, ℕ, zero, suc, ◌+◌, ◌-◌, ◌<◌, ◌≤◌, Bool, true, false, not, cond, nat_eq, List, [], ◌++◌, Option, Some, None, refl, sym, ap, ◌∙◌, arith}
use Rattle.std.proofs.Math.Seq.{take-length}
use Rattle.std.proofs.lemmas.List.{append-nil}
use Rattle.std.proofs.lemmas.Bool.{eq-eqb, eqb-true, not-false}
use Rattle.std.proofs.lemmas.Slice.Eq.{bytes_eq-Decides}
use Rattle.std.specs.Prelude.{length, take, replicate, bytes_eq}
use Rattle.std.specs.Option.{option_map, option_map_or, option_and_then}
use Rattle.law_lawful.proofs.kr_inode.BytesLemmas.{length-sized}
use Rattle.law_lawful.proofs.pr_base.MapLemmas.{by_key, get-changed_other, get-changed_same, get-insert_other, get-remove_other, get-remove_same}
use Rattle.law_lawful.proofs.kr_tree.AddLemmas.{passing}
use Rattle.law_lawful.proofs.kr_tree.NameLemmas.{some_is}
use Rattle.law_lawful.specs.kr_inode.declared.standing.Standing.{Standing}
use Rattle.law_lawful.specs.kr_files.Descriptors.{Meanings, Named}
use Rattle.law_lawful.specs.kr_files.Files.{Table}
use Rattle.law_lawful.specs.kr_tree.Changes as tree
use Rattle.law_lawful.specs.kr_tree.Lawful.{IsSound}
use Rattle.law_lawful.specs.kr_tree.Tree.{Body, Directory, Entry, Inode, Inodes, ProcessDirectory, RegularFile, SymbolicLink, Tree, body_is, bytes_of, entry, inode, is_directory, is_file}
use Rattle.law_lawful.specs.kr_tree.declared.place.Host.{Host}
use Rattle.law_lawful.specs.kr_tree.declared.place.Place.{Place}
use Rattle.law_lawful.specs.kr_model.Applied.{Computing, Mounts, applied, close, close_below, close_named, close_on_exec_below, copy_named, copy_over, end, executed, exe_of, cwd_of, forked_from, gone, held_at, held_for, images, is_closed_on_exec, mount_of, moved_to, open_in, released_at}
use Rattle.law_lawful.specs.kr_model.Change.{AddNode, Birth, Change, ChangeDirectory, CloseDescriptor, CloseOnExec, CopyDescriptor, End, Fork, LinkNode, MoveName, OpenFile, RemoveName, ReplaceExecutable, Seek, SetAppend, SetMode, SetOwner, SetSize, WriteFile}
use Rattle.law_lawful.specs.kr_model.Conditions.{CanBeMade}
use Rattle.law_lawful.specs.kr_model.State.{Process, State, inode_of, named, place_of, process}
use Rattle.law_steady.specs.Bytes.{BytesAreTold, HasBytes, alters_bytes_of, bytes_at}

-- ---- inodes

-- what has a number below this one was there before, with the same bytes
pub record AreOld (low : ℕ) (m n : Inodes) : Type 0 where
  pub each : (i : ℕ) (y : Inode) → i < low → map.get n i ≡ Some y → (x : Inode) × (map.get m i ≡ Some x) × (bytes_of y.node.body ≡ bytes_of x.node.body)

taken_from : (g : Inode → Inode) (o : Option Inode) (y : Inode) → option_map g o ≡ Some y → (x : Inode) × (o ≡ Some x) × (y ≡ g x)
taken_from g None y h = absurd cc
taken_from g (Some x) y h = (x, refl, sym (ap (λ o. option_map_or (λ s. s) o (g x)) h))

module _ (low : ℕ) where
  pub old : (m : Inodes) → AreOld low m m
  old m = record { each = λ i y below is. (y, is, refl) }

  pub old_on : {l m n : Inodes} → AreOld low l m → AreOld low m n → AreOld low l n
  old_on first second = record {
    each = λ i y below is.
        let two = second.each i y below is in
        let one = first.each i two.0 below two.1 in
        (one.0, one.1, two.2 ∙ one.2);
  }

  -- an inode of which the bytes stay
  old_if : (k : ℕ) (g : Inode → Inode) (m : Inodes) → ((x : Inode) → map.get m k ≡ Some x → bytes_of (g x).node.body ≡ bytes_of x.node.body) → AreOld low m (tree.with_inode k g m)
  old_if k g m same = record {
    each = by_key (λ i. (y : Inode) → i < low → map.get (tree.with_inode k g m) i ≡ Some y → (x : Inode) × (map.get m i ≡ Some x) × (bytes_of y.node.body ≡ bytes_of x.node.body)) k
        (λ y below is.
        let x = taken_from g (map.get m k) y (sym (get-changed_same m k g) ∙ is) in
        (x.0, x.1, ap (λ (z : Inode). bytes_of z.node.body) x.2 ∙ same x.0 x.1))
        (λ q away y below is. (y, sym (get-changed_other m k g q away) ∙ is, refl));
  }

  old_with : (k : ℕ) (g : Inode → Inode) → ((x : Inode) → bytes_of (g x).node.body ≡ bytes_of x.node.body) → (m : Inodes) → AreOld low m (tree.with_inode k g m)
  old_with k g same m = old_if k g m (λ x is. same x)

  old_removed : (k : ℕ) (m : Inodes) → AreOld low m (map.remove m k)
  old_removed k m = record {
    each = by_key (λ i. (y : Inode) → i < low → map.get (map.remove m k) i ≡ Some y → (x : Inode) × (map.get m i ≡ Some x) × (bytes_of y.node.body ≡ bytes_of x.node.body)) k
        (λ y below is. absurd (let clash : None ≡ Some y = sym (get-remove_same m k) ∙ is in cc))
        (λ q away y below is. (y, sym (get-remove_other m k q away) ∙ is, refl));
  }

  old_dropped : (k : ℕ) (m : Inodes) → AreOld low m (tree.without_unused k m)
  old_dropped k m = by (tree.is_unused_at k m)
    where
      by : (b : Bool) → AreOld low m (cond b (map.remove m k) m)
      by true = old_removed k m
      by false = old m

  old_inserted : (k : ℕ) (x : Inode) (m : Inodes) → low ≤ k → AreOld low m (map.insert m k x)
  old_inserted k x m above = record {
    each = by_key (λ i. (y : Inode) → i < low → map.get (map.insert m k x) i ≡ Some y → (x : Inode) × (map.get m i ≡ Some x) × (bytes_of y.node.body ≡ bytes_of x.node.body)) k
        (λ y below is. absurd (omega arith))
        (λ q away y below is. (y, sym (get-insert_other m k x q away) ∙ is, refl));
  }

-- ---- bodies

entries_bytes : (f : List Entry → List Entry) (b : Body) → bytes_of (tree.with_entries f b) ≡ bytes_of b
entries_bytes f (Directory entries standing) = refl
entries_bytes f (RegularFile bytes) = refl
entries_bytes f (SymbolicLink text) = refl
entries_bytes f (ProcessDirectory standing) = refl

standing_bytes : (s : Option Standing) (b : Body) → bytes_of (tree.with_standing s b) ≡ bytes_of b
standing_bytes s (Directory entries standing) = refl
standing_bytes s (RegularFile bytes) = refl
standing_bytes s (SymbolicLink text) = refl
standing_bytes s (ProcessDirectory standing) = refl

set_alike : (f : List ℕ → List ℕ) (b : Body) → f (bytes_of b) ≡ bytes_of b → bytes_of (tree.with_bytes f b) ≡ bytes_of b
set_alike f (Directory entries standing) same = refl
set_alike f (RegularFile bytes) same = same
set_alike f (SymbolicLink text) same = refl
set_alike f (ProcessDirectory standing) same = refl

set_in_file : (f : List ℕ → List ℕ) (b : Body) → is_file b ≡ true → bytes_of (tree.with_bytes f b) ≡ f (bytes_of b)
set_in_file f (RegularFile bytes) file = refl
set_in_file f (Directory entries standing) file = absurd cc
set_in_file f (SymbolicLink text) file = absurd cc
set_in_file f (ProcessDirectory standing) file = absurd cc

-- ---- trees

-- what was there has its bytes, and numbers aren't drawn again
pub record StillHas (t u : Tree) : Type 0 where
  pub bytes : AreOld t.next t.inodes u.inodes
  pub next : t.next ≤ u.next

pub still : (t : Tree) → StillHas t t
still t = record { bytes = old t.next t.inodes; next = omega arith }

pub still_on : {t u v : Tree} → StillHas t u → StillHas u v → StillHas t v
still_on {t} {u} {v} first second = record {
  bytes = old_on t.next first.bytes (record {
    each = λ i y below is. second.bytes.each i y (let more = first.next in omega arith) is;
  });
  next = let one = first.next in let two = second.next in omega arith;
}

pub still_has_bytes : (t u : Tree) → IsSound t → StillHas t u → HasBytes t u
still_has_bytes t u sound has i x y there here =
    let was = has.bytes.each i y (sound.numbered i x there).1 here in
    let same : was.0 ≡ x = some_is was.0 x (sym was.1 ∙ there) in
    was.2 ∙ ap (λ (z : Inode). bytes_of z.node.body) same

still_held : (i : ℕ) (t : Tree) → StillHas t (tree.held i t)
still_held i t = record { bytes = old_with t.next i (tree.with_holds (λ n. n + 1)) (λ x. refl) t.inodes; next = omega arith }

still_released : (i : ℕ) (t : Tree) → StillHas t (tree.released i t)
still_released i t = record {
  bytes = old_on t.next (old_with t.next i (tree.with_holds (λ n. n - 1)) (λ x. refl) t.inodes) (old_dropped t.next i (tree.with_inode i (tree.with_holds (λ n. n - 1)) t.inodes));
  next = omega arith;
}

still_added : (dir : ℕ) (name : List ℕ) (mode uid gid : ℕ) (body : Body) (t : Tree) → StillHas t (tree.added dir name mode uid gid body t)
still_added dir name mode uid gid body t =
    let g = tree.with_entry name t.next (is_directory body) in
    record {
      bytes = old_on t.next (old_with t.next dir g (λ x. entries_bytes _ x.node.body) t.inodes) (old_inserted t.next t.next _ (tree.with_inode dir g t.inodes) (omega arith));
      next = omega arith;
    }

still_linked : (dir : ℕ) (name : List ℕ) (file : ℕ) (t : Tree) → StillHas t (tree.linked dir name file t)
still_linked dir name file t =
    let g = tree.with_entry name file false in
    record {
      bytes = old_on t.next (old_with t.next dir g (λ x. entries_bytes _ x.node.body) t.inodes) (old_with t.next file (tree.with_names (λ n. n + 1)) (λ x. refl) (tree.with_inode dir g t.inodes));
      next = omega arith;
    }

still_unlinked : (dir : ℕ) (name : List ℕ) (i : ℕ) (t : Tree) → StillHas t (tree.unlinked dir name i t)
still_unlinked dir name i t =
    let g = tree.without_entry name (body_is is_directory t i) in
    let less = tree.with_inode dir g t.inodes in
    record {
      bytes = old_on t.next (old_with t.next dir g (λ x. entries_bytes _ x.node.body) t.inodes)
          (old_on t.next (old_with t.next i tree.unnamed (λ x. standing_bytes None x.node.body) less) (old_dropped t.next i (tree.with_inode i tree.unnamed less)));
      next = omega arith;
    }

still_moved : (dir : ℕ) (name : List ℕ) (to : ℕ) (new : List ℕ) (i : ℕ) (t : Tree) → StillHas t (tree.moved dir name to new i t)
still_moved dir name to new i t =
    let is_dir = body_is is_directory t i in
    let g = tree.without_entry name is_dir in
    let h = tree.with_entry new i is_dir in
    let less = tree.with_inode dir g t.inodes in
    record {
      bytes = old_on t.next (old_with t.next dir g (λ x. entries_bytes _ x.node.body) t.inodes)
          (old_on t.next (old_with t.next to h (λ x. entries_bytes _ x.node.body) less)
          (old_with t.next i (tree.with_body (tree.with_standing (tree.next_standing t to))) (λ x. standing_bytes _ x.node.body) (tree.with_inode to h less)));
      next = omega arith;
    }

still_removed : (dir : ℕ) (name : List ℕ) (o : Option ℕ) (t : Tree) → StillHas t (option_map_or (λ i. tree.unlinked dir name i t) o t)
still_removed dir name None t = still t
still_removed dir name (Some i) t = still_unlinked dir name i t

still_renamed : (dir : ℕ) (name : List ℕ) (to : ℕ) (new : List ℕ) (o p : Option ℕ) (t : Tree) → StillHas t (option_map_or (λ i. tree.renamed_onto dir name to new i p t) o t)
still_renamed dir name to new None p t = still t
still_renamed dir name to new (Some i) None t = still_moved dir name to new i t
still_renamed dir name to new (Some i) (Some old) t = by (nat_eq i old)
  where
    by : (b : Bool) → StillHas t (cond b t (tree.moved dir name to new i (tree.unlinked to new old t)))
    by true = still t
    by false = still_on (still_unlinked to new old t) (still_moved dir name to new i (tree.unlinked to new old t))

-- ---- bytes that are set

module _ (t : Tree) (i : ℕ) (f : List ℕ → List ℕ) where
  at_inode : (x : Inode) → inode t i ≡ Some x → bytes_at t i ≡ bytes_of x.node.body
  at_inode x is = ap (λ o. option_map_or (λ (x : Inode). bytes_of x.node.body) o []) is

  still_set : f (bytes_at t i) ≡ bytes_at t i → StillHas t (tree.bytes_set i f t)
  still_set same = record {
    bytes = old_if t.next i (tree.with_body (tree.with_bytes f)) t.inodes
        (λ x is. set_alike f x.node.body (ap f (sym (at_inode x is)) ∙ same ∙ at_inode x is));
    next = omega arith;
  }

  set_is_same : body_is is_file t i ≡ true → HasBytes t (tree.bytes_set i f t) → f (bytes_at t i) ≡ bytes_at t i
  set_is_same file has =
      let x = passing is_file (inode t i) file in
      let g = tree.with_body (tree.with_bytes f) in
      let here : inode (tree.bytes_set i f t) i ≡ Some (g x.0) = get-changed_same t.inodes i g ∙ ap (option_map g) x.1 in
      ap f (at_inode x.0 x.1) ∙ sym (set_in_file f x.0.node.body x.2) ∙ has i x.0 (g x.0) x.1 here ∙ sym (at_inode x.0 x.1)

-- a file cut or filled up to its own size
sized_same : (size : ℕ) (b : List ℕ) → length b ≡ size → tree.sized size b ≡ b
sized_same size b is =
    let none : length b - length b ≡ 0 = omega arith in
    ap (λ n. take n b ++ replicate (n - length b) 0) (sym is) ∙ ap (λ n. take (length b) b ++ replicate n 0) none ∙ append-nil (take (length b) b) ∙ take-length b

module _ (t : Tree) (i : ℕ) where
  size_leaves : (size : ℕ) → not (nat_eq (length (bytes_at t i)) size) ≡ false → StillHas t (tree.bytes_set i (tree.sized size) t)
  size_leaves size h = still_set t i (tree.sized size) (sized_same size (bytes_at t i) (eqb-true (length (bytes_at t i)) size (not-false (nat_eq (length (bytes_at t i)) size) h)))

  size_alters : (size : ℕ) → body_is is_file t i ≡ true → HasBytes t (tree.bytes_set i (tree.sized size) t) → not (nat_eq (length (bytes_at t i)) size) ≡ false
  size_alters size file has =
      let same = set_is_same t i (tree.sized size) file has in
      ap not (eq-eqb (length (bytes_at t i)) size (sym (ap length same) ∙ length-sized size (bytes_at t i)))

  write_leaves : (at : ℕ) (bytes : List ℕ) → not (bytes_eq (tree.overwritten at bytes (bytes_at t i)) (bytes_at t i)) ≡ false → StillHas t (tree.bytes_set i (tree.overwritten at bytes) t)
  write_leaves at bytes h =
      let new = tree.overwritten at bytes (bytes_at t i) in
      still_set t i (tree.overwritten at bytes) ((bytes_eq-Decides new (bytes_at t i)).0 (not-false (bytes_eq new (bytes_at t i)) h))

  write_alters : (at : ℕ) (bytes : List ℕ) → body_is is_file t i ≡ true → HasBytes t (tree.bytes_set i (tree.overwritten at bytes) t) → not (bytes_eq (tree.overwritten at bytes (bytes_at t i)) (bytes_at t i)) ≡ false
  write_alters at bytes file has =
      ap not ((bytes_eq-Decides (tree.overwritten at bytes (bytes_at t i)) (bytes_at t i)).1 (set_is_same t i (tree.overwritten at bytes) file has))

-- ---- states

module _ {M : Type 0} where
  still_held_at : (o : Option (Place M)) (t : Tree) → StillHas t (held_at o t)
  still_held_at None t = still t
  still_held_at (Some p) t = still_held (inode_of p.host) t

  still_released_at : (o : Option (Place M)) (t : Tree) → StillHas t (released_at o t)
  still_released_at None t = still t
  still_released_at (Some p) t = still_released (inode_of p.host) t

  still_held_for : (d : Meanings) (files : Table M) (count : ℕ) (t : Tree) → StillHas t (held_for d files count t)
  unfolding held_for
  still_held_for d files zero t = still t
  still_held_for d files (suc fd) t =
      still_on (still_held_for d files fd t) (still_held_at (option_and_then (λ x. place_of files x.number) (map.get d fd)) (held_for d files fd t))

module _ {M X : Type 0} where
  abbrev StillIn : State M X → State M X → Type 0
  StillIn s t = StillHas s.tree t.tree

  still_close : (pid fd : ℕ) (s : State M X) → StillIn s (close pid fd s)
  unfolding close
  still_close pid fd s = by_name (named pid fd s)
    where
      by_name : (o : Option Named) → StillIn s (option_map_or (λ x. close_named pid fd x s) o s)
      by_name None = still s.tree
      by_name (Some x) = still_released_at (place_of s.files x.number) s.tree

  still_copy_over : (pid to : ℕ) (cloexec : Bool) (x : Named) (y : Option Named) (s : State M X) → StillIn s (copy_over pid to cloexec x y s)
  still_copy_over pid to cloexec x None s = still_held_at (place_of s.files x.number) s.tree
  still_copy_over pid to cloexec x (Some y) s =
      let copied : State M X = copy_named pid to cloexec x s in
      still_on (still_held_at (place_of s.files x.number) s.tree) (still_released_at (place_of copied.files y.number) copied.tree)

  still_moved_to : (pid : ℕ) (host : Host) (m : M) (s : State M X) → StillIn s (moved_to pid host m s)
  still_moved_to pid host m s = still_on (still_held (inode_of host) s.tree) (still_released_at (cwd_of pid s) (tree.held (inode_of host) s.tree))

  still_executed : (pid : ℕ) (host : Host) (dir : ℕ) (name : List ℕ) (m : M) (s : State M X) → StillIn s (executed pid host dir name m s)
  still_executed pid host dir name m s = still_on (still_held (inode_of host) s.tree) (still_released_at (exe_of pid s) (tree.held (inode_of host) s.tree))

  still_forked : (computing : Computing X) (b : Birth) (p : Process M X) (s : State M X) → StillIn s (forked_from computing b p s)
  still_forked computing b p s =
      let t : Tree = held_for p.descs s.files 1024 s.tree in
      still_on (still_held_for p.descs s.files 1024 s.tree) (still_on (still_held_at (Some p.cwd) t) (still_held_at (Some p.exe) (held_at (Some p.cwd) t)))

  still_close_below : (pid count : ℕ) (s : State M X) → StillIn s (close_below pid count s)
  unfolding close_below
  still_close_below pid zero s = still s.tree
  still_close_below pid (suc fd) s = still_on (still_close_below pid fd s) (still_close pid fd (close_below pid fd s))

  still_on_exec : (pid count : ℕ) (s : State M X) → StillIn s (close_on_exec_below pid count s)
  unfolding close_on_exec_below
  still_on_exec pid zero s = still s.tree
  still_on_exec pid (suc fd) s =
      let before : State M X = close_on_exec_below pid fd s in
      still_on (still_on_exec pid fd s) (by_flag before (is_closed_on_exec pid fd before))
    where
      by_flag : (before : State M X) (b : Bool) → StillHas before.tree (cond b (close pid fd before) before).tree
      by_flag before true = still_close pid fd before
      by_flag before false = still before.tree

  still_end : (pid status : ℕ) (s : State M X) → StillIn s (end pid status s)
  still_end pid status s =
      let closed : State M X = close_below pid 1024 s in
      still_on (still_close_below pid 1024 s) (by_process closed (process pid closed))
    where
      by_process : (k : State M X) (o : Option (Process M X)) → StillHas k.tree (option_map_or (λ p. gone pid status p k) o k).tree
      by_process k None = still k.tree
      by_process k (Some p) = still_on (still_released_at (Some p.cwd) k.tree) (still_released_at (Some p.exe) (released_at (Some p.cwd) k.tree))

  by_option : {A : Type 0} (s : State M X) (o : Option A) (g : A → State M X) → ((x : A) → StillIn s (g x)) → StillIn s (option_map_or g o s)
  by_option s None g each = still s.tree
  by_option s (Some x) g each = each x

  -- ---- each change that isn't told to alter bytes

  pub still_after : (computing : Computing X) (mounts : Mounts M) (pid : ℕ) (c : Change) (s : State M X) → alters_bytes_of s.tree c ≡ false → StillIn s (applied computing mounts pid c s)
  still_after computing mounts pid (AddNode dir name mode uid gid body) s none = still_added dir name mode uid gid body s.tree
  still_after computing mounts pid (LinkNode dir name i) s none = still_linked dir name i s.tree
  still_after computing mounts pid (RemoveName dir name) s none = still_removed dir name (entry s.tree dir name) s.tree
  still_after computing mounts pid (MoveName dir name to new) s none = still_renamed dir name to new (entry s.tree dir name) (entry s.tree to new) s.tree
  still_after computing mounts pid (SetMode i mode) s none = record { bytes = old_with s.tree.next i (tree.with_mode mode) (λ x. refl) s.tree.inodes; next = omega arith }
  still_after computing mounts pid (SetOwner i uid gid) s none = record { bytes = old_with s.tree.next i (tree.with_owner uid gid) (λ x. refl) s.tree.inodes; next = omega arith }
  still_after computing mounts pid (SetSize i size) s none = size_leaves s.tree i size none
  still_after computing mounts pid (WriteFile i at bytes) s none = write_leaves s.tree i at bytes none
  still_after computing mounts pid (OpenFile fd cloexec from o) s none = by_option s (mount_of mounts pid s from) (λ m. open_in pid fd cloexec o m s) (λ m. still_held_at o.place s.tree)
  still_after computing mounts pid (CopyDescriptor fd to cloexec) s none = by_option s (named pid fd s) (λ x. copy_over pid to cloexec x (named pid to s) s) (λ x. still_copy_over pid to cloexec x (named pid to s) s)
  still_after computing mounts pid (CloseDescriptor fd) s none = still_close pid fd s
  still_after computing mounts pid (Seek fd at) s none = by_option s (named pid fd s) _ (λ x. still s.tree)
  still_after computing mounts pid (SetAppend fd on) s none = by_option s (named pid fd s) _ (λ x. still s.tree)
  still_after computing mounts pid (ChangeDirectory from host) s none = by_option s (mount_of mounts pid s from) (λ m. moved_to pid host m s) (λ m. still_moved_to pid host m s)
  still_after computing mounts pid (Fork b) s none = by_option s (process pid s) (λ p. forked_from computing b p s) (λ p. still_forked computing b p s)
  still_after computing mounts pid (End status) s none = still_end pid status s
  still_after computing mounts pid (ReplaceExecutable from host dir name) s none = by_option s (mount_of mounts pid s from) (λ m. executed pid host dir name m s) (λ m. still_executed pid host dir name m s)
  still_after computing mounts pid CloseOnExec s none = still_on_exec pid 1024 s
  still_after computing mounts pid c s none = still s.tree

-- ---- each change, both ways

pub bytes_are_told : (M : Type 0) → BytesAreTold M
bytes_are_told M number table mounts pid c s kept can =
    (λ none. still_has_bytes s.tree (applied images mounts pid c s).tree kept.sound (still_after images mounts pid c s none), back c can)
  where
    back : (c : Change) → CanBeMade number table mounts pid s c → HasBytes s.tree (applied images mounts pid c s).tree → alters_bytes_of s.tree c ≡ false
    back (SetSize i size) can has = size_alters s.tree i size can.file has
    back (WriteFile i at bytes) can has = write_alters s.tree i at bytes can.sized.file has
    back c can has = refl
