-- Laws of what host texts reach, and of walks along them over the host's own view.
use Rattle.std.specs.Prelude.{ℕ, ◌≡◌, ◌⊎◌, Bool, true, false, List, [], ◌∷◌, ◌++◌, Option, Some, None, Result, Ok, Err, if◌then◌else◌}
use Rattle.std.specs.Option.{option_map}
use Rattle.kr_tree.specs.pr_base.Paths.{Dot, Name, slash, dot, parts_of, has_parts, is_absolute, AreNames, IsPart, below_root, text_of, name_path}
use Rattle.kr_tree.specs.pr_base.Texts.{Text}
use Rattle.kr_tree.specs.pr_base.WalkFrame.{is_followed, wants_directory, target_at, ends_found, ends_missing}
use Rattle.kr_tree.specs.pr_base.declared.errno.Errno.{Errno}
use Rattle.kr_tree.specs.pr_base.declared.errno.Errno.TheVariants.{EACCES, ENAMETOOLONG, ENOTDIR}
use Rattle.kr_tree.specs.pr_base.declared.path.WalkMode.{WalkMode}
use Rattle.kr_tree.specs.pr_base.declared.path.WalkMode.TheVariants as modes
use Rattle.kr_tree.specs.kr_inode.declared.user.User.{User}
use Rattle.kr_tree.specs.declared.place.Host.{Host}
use Rattle.kr_tree.specs.declared.place.Host.TheVariants.{Node, Proc}
use Rattle.kr_tree.specs.declared.place.Place.{Place}
use Rattle.kr_tree.specs.declared.place.ProcAt.{ProcAt}
use Rattle.kr_tree.specs.Tree.{Tree, body_is}
use Rattle.kr_tree.specs.Names.{named, reached, process_names}
use Rattle.kr_tree.specs.Lawful.{IsSound, HasItsInodes}
use Rattle.kr_view.specs.declared.procs.Lead.{Lead}
use Rattle.kr_view.specs.View.{plain}
use Rattle.kr_view.specs.Processes.{LawsOfProcesses}
use Rattle.kr_view.specs.InTree.{IsObjectOf}
use Rattle.kr_view.specs.Component.{Finds, Surroundings, is_processes, is_directory_at, may_search, too_long}
use Rattle.kr_view.specs.Walk.{PlaceTarget, place_walk}
use Rattle.kr_view.specs.HostReach.{is_link_at, host_place, object_in, reaches}

-- ---- what is reached

-- what stands in a process directory is reached through that
pub record IsBelowProcesses (t : Tree) (user : User) (text : Text) (i : ℕ) : Type 0 where
  pub names : Text
  pub top : Text
  pub joined : text ≡ names ++ top
  pub reached_top : reached t user top ≡ Some i
  pub processes : body_is is_processes t i ≡ true

-- what a text reaches over hosts, beside what it reaches and names over inodes
pub record ReachGoesByNames (t : Tree) (user : User) (finds : Finds) (text : Text) : Type 0 where
  pub inode_reached : (i : ℕ) → reached t user text ≡ Some i → reaches t user finds text ≡ Some (Node i)
  pub reached_inode : (i : ℕ) → reaches t user finds text ≡ Some (Node i) → reached t user text ≡ Some i
  -- a text that names an inode reaches nothing else
  pub named_alone : (i : ℕ) (x : Host) → named t text ≡ Some i → reaches t user finds text ≡ Some x → x ≡ Node i
  pub below_processes : (i : ℕ) (at : ProcAt) → reaches t user finds text ≡ Some (Proc i at) → IsBelowProcesses t user text i

abbrev pub ReachesGoByNames : Type 0
ReachesGoByNames = (t : Tree) (user : User) (finds : Finds) (text : Text) → ReachGoesByNames t user finds text

-- what a text reaches in a tree that is kept, and in a process directory that keeps its laws
pub record ReachIsSound (t : Tree) (user : User) (finds : Finds) (leads : ProcAt → Lead ℕ) (text : Text) : Type 0 where
  pub there : (x : Host) → IsSound t → HasItsInodes t → reaches t user finds text ≡ Some x → IsObjectOf t x
  pub names : (x : Host) → IsSound t → LawsOfProcesses finds leads → reaches t user finds text ≡ Some x → AreNames text
  -- what stands in a process directory is reached by its names below the text of that
  pub process_names : (i : ℕ) (at : ProcAt) → LawsOfProcesses finds leads → reaches t user finds text ≡ Some (Proc i at)
      → (top : Text) × (text ≡ process_names at ++ top) × (reached t user top ≡ Some i)
  -- a directory of the tree is reached by one text
  pub once : (other : Text) (i : ℕ) → IsSound t → reaches t user finds text ≡ Some (Node i) → reaches t user finds other ≡ Some (Node i) → is_directory_at t (Node i) ≡ true → text ≡ other

abbrev pub ReachesAreSound : Type 0
ReachesAreSound = (t : Tree) (user : User) (finds : Finds) (leads : ProcAt → Lead ℕ) (text : Text) → ReachIsSound t user finds leads text

-- ---- walks over the host's own view

-- what the user comes to by a host text, in a walk's surroundings
abbrev pub reaches_in : Surroundings → Text → Option Host
reaches_in around text = reaches around.space.tree around.space.user around.space.finds text

-- over the host's own view a text of well-formed names reaches an object of the tree
pub record IsReachedBy (around : Surroundings) (text : Text) (x : Host) : Type 0 where
  pub over_plain : around.space.table ≡ plain
  pub names : AreNames text
  pub way : reaches_in around text ≡ Some x
  pub there : IsObjectOf around.space.tree x

-- a path, with a slash behind it where one is wanted
abbrev pub slashed : Bool → List ℕ → List ℕ
slashed true path = path ++ slash ∷ []
slashed false path = path

-- a path of a text, a slash, and more. The root's text is a slash itself, which may stand or be left out
abbrev pub IsJoined : Text → List ℕ → List ℕ → Type 0
IsJoined text more path = (path ≡ text_of text ++ slash ∷ more) ⊎ (path ≡ below_root text ++ slash ∷ more)

-- a path of a name below a text, with a slash behind it or without
abbrev pub IsNamePath : Text → List ℕ → Bool → List ℕ → Type 0
IsNamePath text name behind path = (path ≡ name_path text name behind) ⊎ (path ≡ text_of text ++ slash ∷ slashed behind name)

-- the walk along a text that reaches an object, and more, goes on from that object, whether it is a
-- directory or not, if it is no link
abbrev pub WalksGoOnBehindTexts : Type 0
WalksGoOnBehindTexts =
    (around : Surroundings) (mode : WalkMode) (base : Place ℕ) (text : Text) (x : Host) (more path : List ℕ) → IsReachedBy around text x → is_link_at around.space.tree x ≡ false
    → is_absolute more ≡ false → has_parts (parts_of more) ≡ true → IsJoined text more path
    → (place_walk around mode base path).answer ≡ (place_walk around mode (host_place x) more).answer

-- what a walk answers at an object that stands for itself: it must be a directory that may be searched
abbrev pub searched : Surroundings → Host → Result PlaceTarget Errno
searched around x =
    if is_directory_at around.space.tree x then (if may_search around.space.tree around.space.user x then Ok (target_at (host_place x) Dot false (Some (host_place x))) else Err EACCES)
    else Err ENOTDIR

-- the walk along a text that is reached, and `.`, tells whether it is a directory that may be searched
abbrev pub DirectoriesAreSearched : Type 0
DirectoriesAreSearched =
    (around : Surroundings) (mode : WalkMode) (base : Place ℕ) (text : Text) (x : Host) (path : List ℕ) → IsReachedBy around text x → is_link_at around.space.tree x ≡ false → IsJoined text dot path
    → (place_walk around mode base path).answer ≡ searched around x

-- an object is no link that a walk in a mode follows
abbrev pub IsUnfollowed : Surroundings → WalkMode → Bool → Host → Type 0
IsUnfollowed around mode slash_behind x = is_followed mode slash_behind ≡ true → is_link_at around.space.tree x ≡ false

-- the target of a name in a directory
abbrev pub name_target : Host → List ℕ → Bool → Option Host → PlaceTarget
name_target dir name slash_behind found = target_at (host_place dir) (Name name) slash_behind (option_map host_place found)

-- how a walk ends with an object under a name: it is found, but where a slash asks for a directory and it is none
abbrev pub ends_with : Surroundings → WalkMode → Host → List ℕ → Bool → Host → Result PlaceTarget Errno
ends_with around mode dir name slash_behind x = (ends_found mode (is_directory_at around.space.tree x) (name_target dir name slash_behind (Some x))).answer

-- a name that isn't too long is looked up in a directory that the user may search
pub record IsLookedUp (around : Surroundings) (dir : Host) (name : List ℕ) : Type 0 where
  pub search : may_search around.space.tree around.space.user dir ≡ true
  pub short : too_long name ≡ false

-- how a walk along a path ends that leads to a name in a directory
pub record EndsAtName (around : Surroundings) (dir : Host) (name : List ℕ) (slash_behind : Bool) (path : List ℕ) : Type 0 where
  pub found : (mode : WalkMode) (base : Place ℕ) (x : Host) → IsLookedUp around dir name → object_in around.space.tree around.space.finds name dir ≡ Some x → IsObjectOf around.space.tree x → IsUnfollowed around mode slash_behind x
      → (place_walk around mode base path).answer ≡ ends_with around mode dir name slash_behind x
  pub free : (mode : WalkMode) (base : Place ℕ) → IsLookedUp around dir name → object_in around.space.tree around.space.finds name dir ≡ None
      → (place_walk around mode base path).answer ≡ (ends_missing mode (host_place dir) (Name name) slash_behind).answer
  pub long : (mode : WalkMode) (base : Place ℕ) → may_search around.space.tree around.space.user dir ≡ true → too_long name ≡ true → (place_walk around mode base path).answer ≡ Err ENAMETOOLONG
  pub closed : (mode : WalkMode) (base : Place ℕ) → may_search around.space.tree around.space.user dir ≡ false → (place_walk around mode base path).answer ≡ Err EACCES
  -- a path that names an entry has that name of the directory, and what stands there
  pub entry : (base : Place ℕ) → IsLookedUp around dir name → ((x : Host) → object_in around.space.tree around.space.finds name dir ≡ Some x → IsObjectOf around.space.tree x)
      → (place_walk around modes.Name base path).answer ≡ Ok (name_target dir name slash_behind (object_in around.space.tree around.space.finds name dir))

-- so ends the walk along a text that reaches a directory, and a name
abbrev pub EntriesAreFound : Type 0
EntriesAreFound =
    (around : Surroundings) (text : Text) (dir : Host) (name : List ℕ) (slash_behind : Bool) (path : List ℕ) → IsReachedBy around text dir → is_directory_at around.space.tree dir ≡ true → IsPart name → IsNamePath text name slash_behind path
    → EndsAtName around dir name slash_behind path

-- the walk along a text, with or without a slash behind it, arrives at the object that the text reaches, a
-- link where it isn't followed
pub record TextsAreFound : Type 0 where
  pub found : (around : Surroundings) (mode : WalkMode) (base : Place ℕ) (text : Text) (x : Host) (slash_behind : Bool) → IsReachedBy around text x → IsUnfollowed around mode slash_behind x
      → (wants_directory mode slash_behind ≡ true → is_directory_at around.space.tree x ≡ true)
      → (t : PlaceTarget) × ((place_walk around mode base (slashed slash_behind (text_of text))).answer ≡ Ok t) × (t.found ≡ Some (host_place x))
  -- with the whole target, and refused where a directory is asked for and it is none
  pub target : (around : Surroundings) (mode : WalkMode) (base : Place ℕ) (name : List ℕ) (text : Text) (x : Host) (slash_behind : Bool) → IsReachedBy around (name ∷ text) x → IsUnfollowed around mode slash_behind x
      → (dir : Host) × (reaches_in around text ≡ Some dir) × ((place_walk around mode base (slashed slash_behind (text_of (name ∷ text)))).answer ≡ ends_with around mode dir name slash_behind x)
