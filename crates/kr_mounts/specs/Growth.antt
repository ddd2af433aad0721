-- What settling does to the tree: it makes names, one after the other, and nothing else.
use Rattle.std.specs.Prelude.{ℕ, ◌≡◌, ◌≤◌, ◌+◌, Bool, true, List, ◌++◌, Some, None}
use Rattle.pt_bind.specs.pr_base.declared.bind.Bind.{Bind}
use Rattle.kr_walk.specs.kr_inode.declared.user.User.{User}
use Rattle.kr_walk.specs.kr_tree.Changes.{next_serial, with_entries}
use Rattle.kr_walk.specs.kr_tree.Holds.{holds_at}
use Rattle.kr_walk.specs.kr_tree.Lawful.{IsSound, IsCounted}
use Rattle.kr_walk.specs.kr_tree.Tree.{Tree, Entry, Inode, body_is, entry, inode, takes_names}
use Rattle.kr_mounts.specs.Points.{made, may_make}
use Rattle.kr_mounts.specs.MountTable.{settling}

-- a tree in which names were made: free names of directories that weren't removed, which the user may make there
pub data IsGrown (user : User) (t : Tree) : Tree → Type 0 where
  Same : IsGrown user t t
  Made : {u : Tree} (dir : ℕ) (name : List ℕ) (is_dir : Bool) → IsGrown user t u → body_is takes_names u dir ≡ true → entry u dir name ≡ None → may_make u user dir name ≡ true → IsGrown user t (made u user dir name is_dir)

-- whatever it comes to, nothing is changed but by names that are made
abbrev pub SettlingMakesNamesAlone : Type 0
SettlingMakesNamesAlone = (t : Tree) (user : User) (root : List ℕ) (binds : List Bind) → IsGrown user t (settling t user root binds).tree

-- ---- what is left

-- an inode as it was, but that a directory may have more entries behind those that it had
pub record IsAsBefore (x y : Inode) : Type 0 where
  pub mode : y.node.mode ≡ x.node.mode
  pub uid : y.node.uid ≡ x.node.uid
  pub gid : y.node.gid ≡ x.node.gid
  pub more : List Entry
  pub body : y.node.body ≡ with_entries (λ entries. entries ++ more) x.node.body
  pub names : y.names ≡ x.names
  pub holds : y.holds ≡ x.holds

-- a tree in which names were made has all that was there, as it was
pub record HasAllBefore (t u : Tree) : Type 0 where
  pub inodes : (i : ℕ) (x : Inode) → inode t i ≡ Some x → (y : Inode) × (inode u i ≡ Some y) × IsAsBefore x y
  -- an inode number and a name for each that was made, and a serial in its directory
  pub numbers : u.next + t.names ≡ t.next + u.names
  pub more_names : t.names ≤ u.names
  pub serials : (dir : ℕ) → next_serial u dir + t.names ≤ next_serial t dir + 3 + u.names
  pub no_holds : ((i : ℕ) → holds_at t i ≡ 0) → (i : ℕ) → holds_at u i ≡ 0
  pub sound : IsSound u
  pub counted : IsCounted u

abbrev pub GrownTreesHaveAllBefore : Type 0
GrownTreesHaveAllBefore = (user : User) (t u : Tree) → IsSound t → IsCounted t → IsGrown user t u → HasAllBefore t u
