-- What is asked of a call by its changes alone, and what stays where a change isn't judged to alter it.
use Rattle.std.specs.Prelude.{◌≡◌, ◌<◌, ℕ, Bool, true, false, not, List, Some}
use Rattle.std.specs.List.{list_all}
use Rattle.std.specs.Option.{option_map}
use Rattle.kr_files.specs.kr_tree.Tree.{Tree, Node, node, body_without_bytes}
use Rattle.kr_files.specs.kr_tree.Holds.{names_at}
use Rattle.kr_files.specs.kr_tree.Lawful.{IsKept}
use Rattle.kr_files.specs.kr_tree.Names.{named}
use Rattle.kr_model.specs.Applied.{Computing, Mounts, applied, cwd_of, exe_of}
use Rattle.kr_model.specs.Change.{Change, AddNode, LinkNode, RemoveName, MoveName, SetMode, SetOwner, SetSize, WriteFile, OpenFile, CopyDescriptor, CloseDescriptor, MakePipe, ChangeDirectory, Fork, End, ReplaceExecutable, CloseOnExec}
use Rattle.kr_model.specs.State.{State, named as descriptor}

-- ---- tests of changes

-- whether a change can alter the shape of the tree: names, inode numbers, kinds, texts of links, modes, owners and groups
-- of what is reached from the root
abbrev pub alters_shape : Change → Bool
alters_shape (AddNode dir name mode uid gid body) = true
alters_shape (LinkNode dir name inode) = true
alters_shape (RemoveName dir name) = true
alters_shape (MoveName dir name to new) = true
alters_shape (SetMode inode mode) = true
alters_shape (SetOwner inode uid gid) = true
alters_shape _ = false

-- whether it can alter the bytes of a file
abbrev pub alters_bytes : Change → Bool
alters_bytes (SetSize inode size) = true
alters_bytes (WriteFile inode at bytes) = true
alters_bytes _ = false

-- whether it can alter a slot: a working directory, an executable, or what a descriptor names
abbrev pub alters_slots : Change → Bool
alters_slots (OpenFile fd cloexec from o) = true
alters_slots (CopyDescriptor fd to cloexec) = true
alters_slots (CloseDescriptor fd) = true
alters_slots (MakePipe first second cloexec) = true
alters_slots (ChangeDirectory from host) = true
alters_slots (Fork birth) = true
alters_slots (End status) = true
alters_slots (ReplaceExecutable from host dir name) = true
alters_slots CloseOnExec = true
alters_slots _ = false

-- whether it takes nothing away from what has a name, and brings no new place into use. A new name takes nothing away
abbrev pub is_quiet : Change → Bool
is_quiet (RemoveName dir name) = false
is_quiet (MoveName dir name to new) = false
is_quiet (SetMode inode mode) = false
is_quiet (SetOwner inode uid gid) = false
is_quiet (OpenFile fd cloexec from o) = false
is_quiet (ChangeDirectory from host) = false
is_quiet (End status) = false
is_quiet (ReplaceExecutable from host dir name) = false
is_quiet _ = true

-- whether it takes a name away; each other change leaves a name to what has one
abbrev pub takes_name : Change → Bool
takes_name (RemoveName dir name) = true
takes_name (MoveName dir name to new) = true
takes_name _ = false

-- of all changes of a call
abbrev pub leaves_shape : List Change → Bool
leaves_shape cs = list_all (λ c. not (alters_shape c)) cs

abbrev pub leaves_bytes : List Change → Bool
leaves_bytes cs = list_all (λ c. not (alters_bytes c)) cs

abbrev pub leaves_slots : List Change → Bool
leaves_slots cs = list_all (λ c. not (alters_slots c)) cs

abbrev pub are_quiet : List Change → Bool
are_quiet cs = list_all is_quiet cs

-- ---- what stays

-- a node with no bytes in place of a file's
abbrev pub without_bytes : Node → Node
without_bytes n = record { mode = n.mode; uid = n.uid; gid = n.gid; body = body_without_bytes n.body }

-- what is reached from the root has the same names, and f says the same of its nodes
pub record IsReachedStill {A : Type 0} (f : Node → A) (t u : Tree) : Type 0 where
  pub names : (text : List (List ℕ)) → named u text ≡ named t text
  pub nodes : (text : List (List ℕ)) (i : ℕ) → named t text ≡ Some i → option_map f (node u i) ≡ option_map f (node t i)

abbrev pub HasShape : Tree → Tree → Type 0
HasShape t u = IsReachedStill without_bytes t u

-- the slots of the living processes
pub record HasSlots {M X : Type 0} (s t : State M X) : Type 0 where
  pub cwds : (pid : ℕ) → cwd_of pid t ≡ cwd_of pid s
  pub exes : (pid : ℕ) → exe_of pid t ≡ exe_of pid s
  pub descriptors : (pid fd : ℕ) → option_map (λ x. x.number) (descriptor pid fd t) ≡ option_map (λ x. x.number) (descriptor pid fd s)

-- a change that isn't judged to alter the shape, the bytes or the slots leaves them as they are, whatever else it does:
-- an inode that loses its last hold has no name, and isn't reached
pub record ChangesLeave {M X : Type 0} (computing : Computing X) (mounts : Mounts M) (pid : ℕ) (c : Change) (s : State M X) : Type 0 where
  pub shape : IsKept s.tree → alters_shape c ≡ false → HasShape s.tree (applied computing mounts pid c s).tree
  pub bytes : IsKept s.tree → alters_shape c ≡ false → alters_bytes c ≡ false → IsReachedStill (λ n. n) s.tree (applied computing mounts pid c s).tree
  pub slots : alters_slots c ≡ false → HasSlots s (applied computing mounts pid c s)

-- and what has a name keeps one: so the sources of mounts do
abbrev pub NamesStay : Type 0 → Type 0 → Type 0
NamesStay M X =
    (computing : Computing X) (mounts : Mounts M) (pid : ℕ) (c : Change) (s : State M X) → takes_name c ≡ false
    → (i : ℕ) → 0 < names_at s.tree i → 0 < names_at (applied computing mounts pid c s).tree i

abbrev pub ChangesAreJudged : Type 0 → Type 0 → Type 0
ChangesAreJudged M X = (computing : Computing X) (mounts : Mounts M) (pid : ℕ) (c : Change) (s : State M X) → ChangesLeave computing mounts pid c s
