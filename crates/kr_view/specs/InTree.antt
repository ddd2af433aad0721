-- Places of a view in a tree.
use Rattle.std.specs.Prelude.{ℕ, ◌≡◌, ◌≢◌, true, false, List, [], Some, Ok}
use Rattle.kr_tree.specs.pr_base.Paths.{IsName}
use Rattle.kr_tree.specs.pr_base.declared.path.WalkMode.{WalkMode}
use Rattle.kr_tree.specs.declared.place.Host.{Host}
use Rattle.kr_tree.specs.declared.place.Host.TheVariants.{Node, Proc}
use Rattle.kr_tree.specs.declared.place.Place.{Place}
use Rattle.kr_tree.specs.declared.place.ProcAt.{ProcAt}
use Rattle.kr_tree.specs.Tree.{Tree, inode, entry, body_is}
use Rattle.kr_tree.specs.Lawful.{IsSound, HasItsInodes}
use Rattle.kr_view.specs.declared.procs.Lead.{Lead}
use Rattle.kr_view.specs.declared.procs.Lead.TheVariants.{Jump}
use Rattle.kr_view.specs.View.{Row, row, is_there, StandsIn}
use Rattle.kr_view.specs.Component.{Surroundings, is_processes, is_directory_at}
use Rattle.kr_view.specs.Processes.{LawsOfProcesses, no_finds, no_leads}
use Rattle.kr_view.specs.Walk.{PlaceTarget, place_walk}

-- an object of a tree: an inode that is there, or what stands in the process directory of the tree
abbrev pub IsObjectOf : Tree → Host → Type 0
IsObjectOf t (Node i) = is_there (inode t i) ≡ true
IsObjectOf t (Proc i at) = body_is is_processes t i ≡ true

-- a place of a view in a tree: an object of the tree in one of the view's mounts
pub record IsPlaceOf (t : Tree) (table : List Row) (p : Place ℕ) : Type 0 where
  pub mounted : is_there (row table p.mount) ≡ true
  pub object : IsObjectOf t p.host

-- ---- where links of the process directory lead

-- every link that leads on leads to a place of the view in the tree. To a file it leads with the directory and
-- name that its object remembers; that is empty where it has none, as a mount's source can be without. Of a
-- directory there is none to remember
pub record LeadToPlaces (t : Tree) (table : List Row) (leads : ProcAt → Lead ℕ) : Type 0 where
  pub places : (at : ProcAt) (p : Place ℕ) (dir : ℕ) (name : List ℕ) → leads at ≡ Jump p dir name → IsPlaceOf t table p
  pub files : (at : ProcAt) (p : Place ℕ) (dir : ℕ) (name : List ℕ) → leads at ≡ Jump p dir name → is_directory_at t p.host ≡ false → name ≢ [] → IsName name
  pub directories : (at : ProcAt) (p : Place ℕ) (dir : ℕ) (name : List ℕ) → leads at ≡ Jump p dir name → is_directory_at t p.host ≡ true → (dir ≡ 0) × (name ≡ [])

-- what a file remembers is an entry of the tree, and leads to it. So it is as long as that entry stays; but a
-- file that is the source of a mount remembers the entry at which it was settled, and so only while the mounts
-- are as they were settled
abbrev pub LeadToEntries : Tree → (ProcAt → Lead ℕ) → Type 0
LeadToEntries t leads =
    (at : ProcAt) (p : Place ℕ) (dir : ℕ) (name : List ℕ) → leads at ≡ Jump p dir name → is_directory_at t p.host ≡ false → (i : ℕ) × (p.host ≡ Node i) × (entry t dir name ≡ Some i)

-- before a process lives the process directory keeps its laws, and leads nowhere
pub record NoProcessesKeepLaws : Type 0 where
  pub lawful : LawsOfProcesses no_finds no_leads
  pub places : (t : Tree) (table : List Row) → LeadToPlaces t table no_leads
  pub entries : (t : Tree) → LeadToEntries t no_leads

-- ---- walks

-- all that a walk goes through stands, and so does the place where it begins
pub record StandsAround (around : Surroundings) (p : Place ℕ) : Type 0 where
  pub sound : IsSound around.space.tree
  pub inodes : HasItsInodes around.space.tree
  pub mounts : StandsIn around.space.tree around.space.table
  pub leads : LeadToPlaces around.space.tree around.space.table around.leads
  pub begins : IsPlaceOf around.space.tree around.space.table p

-- a target is of places of the view in the tree
pub record IsTargetOfPlaces (around : Surroundings) (t : PlaceTarget) : Type 0 where
  pub found : (p : Place ℕ) → t.found ≡ Some p → IsPlaceOf around.space.tree around.space.table p
  pub directory : t.jumped ≡ false → IsPlaceOf around.space.tree around.space.table t.dir
  -- the directory that a file remembers, to which a link of the process directory led
  pub remembered : LeadToEntries around.space.tree around.leads → IsPlaceOf around.space.tree around.space.table t.dir

-- where all stands a walk comes to places of the view in the tree alone
abbrev pub WalksKeepPlaces : Type 0
WalksKeepPlaces =
    (around : Surroundings) (mode : WalkMode) (base : Place ℕ) (path : List ℕ) (t : PlaceTarget) → StandsAround around base → (place_walk around mode base path).answer ≡ Ok t → IsTargetOfPlaces around t
