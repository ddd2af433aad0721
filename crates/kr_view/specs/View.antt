-- A view as plain data: one table of mounts, each row with the inodes that a kernel reads and the texts
-- that a tracer reads, and what is asked of it. A mount's number is its place in the table, the root's
-- is 0; its index is that of the binding which it settles.
use Rattle.std.specs.Prelude.{ℕ, suc, ◌≡◌, ◌<◌, Bool, true, false, ◌&&◌, List, [], ◌∷◌, slice_get, position, Option, Some, None, nat_eq, bytes_eq, if◌then◌else◌}
use Rattle.std.specs.Option.{option_map, option_map_or, option_and_then}
use Rattle.kr_tree.specs.pr_base.MountText.{MountText}
use Rattle.kr_tree.specs.pr_base.Paths.{text_of, IsName, AreNames}
use Rattle.kr_tree.specs.declared.place.Host.{Host}
use Rattle.kr_tree.specs.declared.place.Host.TheVariants.{Node, Proc}
use Rattle.kr_tree.specs.declared.place.Place.{Place}
use Rattle.kr_tree.specs.Tree.{Tree, root, body, body_is, entry, is_directory, is_listed}

-- a mount point: a name in a directory of the mount that it stands in
pub record Point : Type 0 where
  pub mount : ℕ
  pub dir : ℕ
  pub name : List ℕ

-- a mount as it was settled: its texts, its source with the host directory and name at which that was
-- found, whether the source is a directory, and its mount point, which the root's mount hasn't
pub record Row : Type 0 where
  pub text : MountText
  pub source : ℕ
  pub source_dir : ℕ
  pub source_name : List ℕ
  pub is_dir : Bool
  pub point : Option Point

-- a row as a caller is told it: 0 and an empty name stand for what isn't there
pub record Shown : Type 0 where
  pub source : ℕ
  pub source_dir : ℕ
  pub source_name : List ℕ
  pub point_dir : ℕ
  pub point_name : List ℕ

abbrev pub shown : Row → Shown
shown r = record {
  source = r.source;
  source_dir = r.source_dir;
  source_name = r.source_name;
  point_dir = option_map_or (λ p. p.dir) r.point 0;
  point_name = option_map_or (λ p. p.name) r.point [];
}

-- the mount of a number
abbrev pub row : List Row → ℕ → Option Row
row table k = slice_get table k

-- an inode, seen in a mount
abbrev pub node_in : ℕ → ℕ → Place ℕ
node_in mount i = record { mount = mount; host = Node i }

-- the first row is the root's. A table without rows stands for none; its root is the host's
abbrev pub root_source : List Row → ℕ
root_source [] = root
root_source (r ∷ rows) = r.source

abbrev pub root_place : List Row → Place ℕ
root_place table = node_in 0 (root_source table)

abbrev pub is_node : Host → ℕ → Bool
is_node (Node i) j = nat_eq i j
is_node (Proc i at) j = false

abbrev pub is_root_place : List Row → Place ℕ → Bool
is_root_place table p = nat_eq p.mount 0 && is_node p.host (root_source table)

-- the place at which a mount begins
abbrev pub source_place : List Row → ℕ → Option (Place ℕ)
source_place table k = option_map (λ r. node_in k r.source) (row table k)

-- whether a point is this name of a directory, whatever the mount
abbrev pub is_name_at : ℕ → List ℕ → Point → Bool
is_name_at dir name p = nat_eq p.dir dir && bytes_eq p.name name

abbrev pub is_point : ℕ → ℕ → List ℕ → Point → Bool
is_point mount dir name p = nat_eq p.mount mount && is_name_at dir name p

-- whether a row's mount stands at a point that passes a test
abbrev pub stands_at : (Point → Bool) → Row → Bool
stands_at test r = option_map_or test r.point false

-- the place that a name in a directory of a mount enters, where a mount stands there
abbrev pub down : List Row → ℕ → ℕ → List ℕ → Option (Place ℕ)
down table mount dir name = option_and_then (source_place table) (position (stands_at (is_point mount dir name)) table)

-- the directory that holds the point at which a row's mount stands
abbrev pub point_place : Row → Option (Place ℕ)
point_place r = option_map (λ p. node_in p.mount p.dir) r.point

-- the place above a directory that is the source of its mount: the one that holds the mount point
abbrev pub up : List Row → ℕ → ℕ → Option (Place ℕ)
up table mount dir = option_and_then (λ r. if nat_eq r.source dir then point_place r else None) (row table mount)

abbrev pub is_there : {A : Type 0} → Option A → Bool
is_there (Some x) = true
is_there None = false

-- whether a mount stands at a name in a directory, in whatever mount
abbrev pub covered : List Row → ℕ → List ℕ → Bool
covered table dir name = is_there (position (stands_at (is_name_at dir name)) table)

-- the host directory and name of a mount's source that is no directory
abbrev pub source_entry : Row → Option (ℕ × List ℕ)
source_entry r = if r.is_dir then None else Some (r.source_dir, r.source_name)

abbrev pub source : List Row → ℕ → Option (ℕ × List ℕ)
source table mount = option_and_then source_entry (row table mount)

-- the bytes of the guest text where a mount is located; none where there is no such mount
abbrev pub location : List Row → ℕ → List ℕ
location table mount = option_map_or (λ r. text_of r.text.location) (row table mount) []

-- ---- the host's own view

-- one mount, whose source is the root of the host
abbrev pub plain_row : Row
plain_row = record {
  text = record { index = 0; location = []; source = []; point = None };
  source = root;
  source_dir = 0;
  source_name = [];
  is_dir = true;
  point = None;
}

abbrev pub plain : List Row
plain = plain_row ∷ []

-- ---- a table and a tree

-- what every table keeps, whatever the tree: locations are texts of well-formed names; the first mount is the
-- root's, located at the root and without a mount point, and each later one has one; no two stand at one
-- mount point, and none has the index or the location of another
pub record IsTable (table : List Row) : Type 0 where
  pub root_location : (r : Row) → row table 0 ≡ Some r → r.text.location ≡ []
  pub location_names : (k : ℕ) (r : Row) → row table k ≡ Some r → AreNames r.text.location
  pub root_point : (r : Row) → row table 0 ≡ Some r → r.point ≡ None
  pub text_point : (k : ℕ) (r : Row) → row table k ≡ Some r → is_there r.text.point ≡ is_there r.point
  pub later_point : (k : ℕ) (r : Row) → row table (suc k) ≡ Some r → (p : Point) × (r.point ≡ Some p)
  pub own_point : (j k : ℕ) (q r : Row) (p : Point) → row table j ≡ Some q → row table k ≡ Some r → q.point ≡ Some p → r.point ≡ Some p → j ≡ k
  pub own_index : (j k : ℕ) (q r : Row) → row table j ≡ Some q → row table k ≡ Some r → q.text.index ≡ r.text.index → j ≡ k
  pub own_location : (j k : ℕ) (q r : Row) → row table j ≡ Some q → row table k ≡ Some r → q.text.location ≡ r.text.location → j ≡ k

-- a mount point stands in a tree: an entry of a directory by a well-formed name, in a mount that comes
-- before the one that stands there
pub record PointStands (t : Tree) (k : ℕ) (p : Point) : Type 0 where
  pub before : p.mount < k
  pub named : IsName p.name
  pub listed : body_is is_listed t p.dir ≡ true
  pub there : is_there (entry t p.dir p.name) ≡ true

-- a table stands in a tree: its first mount is a directory; each source is there, and a directory where it
-- was one; and each mount point stands
pub record StandsIn (t : Tree) (table : List Row) : Type 0 where
  pub lawful : IsTable table
  pub rooted : (r : Row) × (row table 0 ≡ Some r) × (r.is_dir ≡ true)
  pub sources : (k : ℕ) (r : Row) → row table k ≡ Some r → option_map is_directory (body t r.source) ≡ Some r.is_dir
  pub points : (k : ℕ) (r : Row) (p : Point) → row table k ≡ Some r → r.point ≡ Some p → PointStands t k p

-- a table is as it was settled: a source that is no directory is still the entry at which it was found. A
-- table stands without this, since that entry may be renamed or removed
pub record IsAsSettled (t : Tree) (table : List Row) : Type 0 where
  pub named : (k : ℕ) (r : Row) → row table k ≡ Some r → r.is_dir ≡ false → IsName r.source_name
  pub entered : (k : ℕ) (r : Row) → row table k ≡ Some r → r.is_dir ≡ false → entry t r.source_dir r.source_name ≡ Some r.source

-- the inode of an object: its own, or that of the process directory
abbrev pub ino_of : Host → ℕ
ino_of (Node i) = i
ino_of (Proc i at) = i
