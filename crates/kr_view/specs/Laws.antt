-- Laws of views and of walks over them.
use Rattle.std.specs.Prelude.{ℕ, ◌≡◌, ◌≢◌, Bool, true, false, List, [], Some, Ok}
use Rattle.std.specs.Option.{option_map}
use Rattle.kr_tree.specs.pr_base.Paths.{components_of, AreNames, text_of}
use Rattle.kr_tree.specs.pr_base.WalkFrame.{ends_here}
use Rattle.kr_tree.specs.pr_base.WalkLaws.{IsShown}
use Rattle.kr_tree.specs.pr_base.declared.path.Last.TheVariants as last
use Rattle.kr_tree.specs.pr_base.declared.path.WalkMode.{WalkMode}
use Rattle.kr_tree.specs.declared.place.Place.{Place}
use Rattle.kr_tree.specs.Tree.{Tree, Body, Directory, RegularFile, SymbolicLink, ProcessDirectory, node, body, body_is, entry, is_directory, is_listed}
use Rattle.kr_tree.specs.Names.{reached}
use Rattle.kr_tree.specs.Lawful.{IsSound}
use Rattle.kr_view.specs.View.{Row, row, node_in, root_place, root_source, down, up, covered, source, plain, is_there, StandsIn, IsAsSettled}
use Rattle.kr_view.specs.Component.{Surroundings, is_directory_at}
use Rattle.kr_view.specs.Walk.{PlaceTarget, looking, place_walk}

-- ---- views

-- a place is the source of its mount, there and of the kind of which it was settled
pub record IsSettledSource (t : Tree) (table : List Row) (q : Place ℕ) : Type 0 where
  pub settled : Row
  pub there : row table q.mount ≡ Some settled
  pub place : q ≡ node_in q.mount settled.source
  pub kind : option_map is_directory (body t settled.source) ≡ Some settled.is_dir

-- a place is a directory of a mount
pub record IsDirectoryIn (t : Tree) (q : Place ℕ) : Type 0 where
  pub dir : ℕ
  pub place : q ≡ node_in q.mount dir
  pub listed : body_is is_listed t dir ≡ true

-- the laws of the mounts of a view that stands in a tree
pub record LawsOfPlaces (t : Tree) (table : List Row) : Type 0 where
  -- where paths begin is a directory
  pub root_stands : IsSettledSource t table (root_place table)
  pub root_kind : option_map is_directory (body t (root_source table)) ≡ Some true
  -- a mount point leads to the source of the mount that stands there, and from that source one comes
  -- back to its directory
  pub down_stands : (mount dir : ℕ) (name : List ℕ) (q : Place ℕ) → down table mount dir name ≡ Some q → IsSettledSource t table q
  pub down_up : (mount dir : ℕ) (name : List ℕ) (k i : ℕ) → down table mount dir name ≡ Some (node_in k i) → up table k i ≡ Some (node_in mount dir)
  pub up_stands : (mount dir : ℕ) (q : Place ℕ) → up table mount dir ≡ Some q → IsDirectoryIn t q
  -- a name to which a mount leads is covered, and a covered name is an entry of a directory
  pub down_covered : (mount dir : ℕ) (name : List ℕ) → is_there (down table mount dir name) ≡ true → covered table dir name ≡ true
  pub covered_there : (dir : ℕ) (name : List ℕ) → covered table dir name ≡ true → (body_is is_listed t dir ≡ true) × (is_there (entry t dir name) ≡ true)

abbrev pub PlacesHaveTheirLaws : Type 0
PlacesHaveTheirLaws = (t : Tree) (table : List Row) → StandsIn t table → LawsOfPlaces t table

abbrev pub PlainStands : Type 0
PlainStands = (t : Tree) → IsSound t → StandsIn t plain × IsAsSettled t plain

-- what a call is told of the source of a mount is the entry that leads to it, while the table is as it was
-- settled
abbrev pub SettledSourcesAreEntries : Type 0
SettledSourcesAreEntries = (t : Tree) (table : List Row) (k : ℕ) (r : Row) (e : ℕ × List ℕ) → IsAsSettled t table → row table k ≡ Some r → source table k ≡ Some e → entry t e.0 e.1 ≡ Some r.source

-- ---- walks

-- a walk that ends with a component, and not with where a process link leads, found what that component
-- shows; so its directory is one
pub record FoundIsShown : Type 0 where
  pub shown : (around : Surroundings) (mode : WalkMode) (base : Place ℕ) (path : List ℕ) (t : PlaceTarget) → (place_walk around mode base path).answer ≡ Ok t → t.jumped ≡ false → t.last ≢ last.Root
      → IsShown (looking around) t
  pub in_directory : (around : Surroundings) (mode : WalkMode) (base : Place ℕ) (path : List ℕ) (t : PlaceTarget) → (place_walk around mode base path).answer ≡ Ok t → t.jumped ≡ false → t.last ≢ last.Root
      → is_directory_at around.space.tree t.dir.host ≡ true

-- where walks end is a directory. What a process link led to is apart, since it isn't looked at again
pub record WalksEndInDirectories : Type 0 where
  -- the directory of a target is one: where its last component was looked up, and where no component was
  -- left, the root place or the directory of the link whose text has none
  pub directory : (around : Surroundings) (mode : WalkMode) (base : Place ℕ) (path : List ℕ) (t : PlaceTarget) → StandsIn around.space.tree around.space.table → path ≢ [] → (place_walk around mode base path).answer ≡ Ok t → t.jumped ≡ false
      → is_directory_at around.space.tree t.dir.host ≡ true
  -- where no component was left, the directory itself is found
  pub itself : (around : Surroundings) (mode : WalkMode) (base : Place ℕ) (path : List ℕ) (t : PlaceTarget) → (place_walk around mode base path).answer ≡ Ok t → t.last ≡ last.Root → t.found ≡ Some t.dir
  -- the table must stand, since slashes alone end at the root place, whatever stands there
  pub slashes : (around : Surroundings) (mode : WalkMode) (base : Place ℕ) (path : List ℕ) → path ≢ [] → components_of path ≡ [] → place_walk around mode base path ≡ ends_here (looking around) (root_place around.space.table) false
  -- the path mustn't be empty, since the empty one ends at its base, whatever stands there
  pub empty : (around : Surroundings) (mode : WalkMode) (base : Place ℕ) → place_walk around mode base [] ≡ ends_here (looking around) base false
  -- a directory to which a process link led is its own; of a file the link tells the directory
  pub jumped : (around : Surroundings) (mode : WalkMode) (base : Place ℕ) (path : List ℕ) (t : PlaceTarget) → (place_walk around mode base path).answer ≡ Ok t → t.jumped ≡ true
      → (p : Place ℕ) × (t.found ≡ Some p) × (is_directory_at around.space.tree p.host ≡ true → t.dir ≡ p)

-- whether a body is a link
abbrev pub is_link : Body → Bool
is_link (Directory entries standing) = false
is_link (RegularFile bytes) = false
is_link (SymbolicLink text) = true
is_link (ProcessDirectory standing) = false

-- over the host's own view a walk along a text arrives at the inode that the text reaches with search on
-- the way, where that is there and no link
abbrev pub ReachedIsFound : Type 0
ReachedIsFound = (around : Surroundings) (mode : WalkMode) (base : Place ℕ) (text : List (List ℕ)) (i : ℕ) → around.space.table ≡ plain → AreNames text → reached around.space.tree around.space.user text ≡ Some i
    → option_map is_link (body around.space.tree i) ≡ Some false → (t : PlaceTarget) × ((place_walk around mode base (text_of text)).answer ≡ Ok t) × (t.found ≡ Some (node_in 0 i))

-- the same surroundings with another tree
abbrev pub with_tree : Tree → Surroundings → Surroundings
with_tree t around = record { space = record { table = around.space.table; tree = t; user = around.space.user; finds = around.space.finds }; leads = around.leads }

-- a walk reads of a tree the nodes of numbers alone, and so no holds and no counts
abbrev pub WalksReadNodes : Type 0
WalksReadNodes = (around : Surroundings) (t : Tree) → ((i : ℕ) → node around.space.tree i ≡ node t i) → (mode : WalkMode) (base : Place ℕ) (path : List ℕ) → place_walk around mode base path ≡ place_walk (with_tree t around) mode base path
