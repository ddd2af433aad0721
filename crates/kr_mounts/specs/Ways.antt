-- What is proved of the ways of locations in code. Of this module the public clauses cite what settling leaves, and `HasNumbers`, which it asks of a tree.
use Rattle.std.specs.Prelude.{◌≡◌, ◌≤◌, ◌+◌, ◌*◌, ◌^◌, ℕ, Bool, true, false, List, [], ◌∷◌, Option, Some, None, Result, Ok, Err, if◌then◌else◌}
use Rattle.kr_walk.specs.kr_inode.declared.user.User.{User}
use Rattle.kr_walk.specs.kr_tree.Changes.{has_no_room, next_serial}
use Rattle.kr_walk.specs.kr_tree.Tree.{Tree, body_is, takes_names}
use Rattle.kr_walk.specs.kr_tree.declared.place.Host.TheVariants.{Node, Proc}
use Rattle.kr_walk.specs.kr_tree.declared.place.Place.{Place}
use Rattle.kr_walk.specs.kr_tree.declared.place.ProcAt.{ProcAt}
use Rattle.kr_walk.specs.kr_view.View.{Point, Row, down, root_source}
use Rattle.kr_mounts.specs.Points.{Left, Wanted, made, may_make, refused, through, way}
use Rattle.kr_mounts.specs.Stored.{point_told}
use Rattle.kr_mounts.specs.declared.fault.BindWhy.TheVariants.{NoPoint, AtRoot}
use Rattle.kr_mounts.specs.declared.location.Stop.{Stop}
use Rattle.kr_mounts.specs.declared.location.Stop.TheVariants as stop
use Rattle.kr_mounts.specs.declared.mount.MountPoint.{MountPoint}
use Rattle.kr_mounts.specs.declared.mounted.MountNumber.{MountNumber}
use Rattle.kr_mounts.specs.declared.point.Foot.{Foot}
use Rattle.kr_mounts.specs.declared.point.Wanted.{Wanted as KeptWanted}

-- so few inode numbers and serials were drawn that as many names can be made as a tree has room for
pub record HasNumbers (t : Tree) : Type 0 where
  pub numbers : t.next ≤ 2 ^ 30 + t.names
  pub serials : (dir : ℕ) → next_serial t dir ≤ 2 ^ 62 + 4 * t.names

abbrev pub wanted_of : KeptWanted → Wanted
wanted_of w = record { is_dir = w.is_dir; keep = w.keep }

-- the way along names from the guest's root
abbrev pub way_of : User → List Row → Wanted → Tree → List (List ℕ) → Left Point
way_of user table wanted t [] = refused t AtRoot
way_of user table wanted t (name ∷ names) = way user table wanted t 0 (root_source table) name names

-- through a name behind which others come, with what comes then
abbrev pub entering : User → List Row → Tree → ℕ → ℕ → List ℕ → (Tree → ℕ → ℕ → Left Point) → Left Point
entering user table t mount dir name go = if body_is takes_names t dir then through t user mount dir name (down table mount dir name) go else refused t NoPoint

-- ---- what functions answer

abbrev pub IsSpotOf : Place MountNumber → Option Foot → Type 0
IsSpotOf place None = (i : ℕ) × (at : ProcAt) × (place.host ≡ Proc i at)
IsSpotOf place (Some foot) = (place.host ≡ Node foot.inode) × (place.mount ≡ foot.mount)

abbrev pub IsMade : User → Tree → ℕ → List ℕ → Bool → Tree → Result ℕ Stop → Type 0
IsMade user t dir name is_dir new (Ok i) = (may_make t user dir name ≡ true) × (new ≡ made t user dir name is_dir) × (i ≡ t.next)
IsMade user t dir name is_dir new (Err (stop.Bad why)) = (may_make t user dir name ≡ false) × (new ≡ t) × (why ≡ NoPoint)
IsMade user t dir name is_dir new (Err stop.NoMemory) = new ≡ t

abbrev pub IsEntered : ((Tree → ℕ → ℕ → Left Point) → Left Point) → Tree → Result Foot Stop → Type 0
IsEntered step new (Ok foot) = (go : Tree → ℕ → ℕ → Left Point) → step go ≡ go new foot.mount.number foot.inode
IsEntered step new (Err (stop.Bad why)) = (go : Tree → ℕ → ℕ → Left Point) → step go ≡ refused new why
IsEntered step new (Err stop.NoMemory) = Unit {0}

abbrev pub IsEnded : Left Point → Tree → Result MountPoint Stop → Type 0
IsEnded left new (Ok p) = (left.tree ≡ new) × (left.answer ≡ Ok (point_told p))
IsEnded left new (Err (stop.Bad why)) = (left.tree ≡ new) × (left.answer ≡ Err why)
IsEnded left new (Err stop.NoMemory) = Unit {0}

abbrev pub IsReached : {A : Type 0} → Left Point → Point → Tree → Result A Stop → Type 0
IsReached left p new (Ok done) = (left.tree ≡ new) × (left.answer ≡ Ok p)
IsReached left p new (Err (stop.Bad why)) = (left.tree ≡ new) × (left.answer ≡ Err why)
IsReached left p new (Err stop.NoMemory) = Unit {0}

abbrev pub IsPut : User → Tree → ℕ → List ℕ → Bool → Tree → Result ℕ Stop → Type 0
IsPut user t dir name is_dir new (Ok i) = (has_no_room 0 t ≡ false) × (new ≡ made t user dir name is_dir) × (i ≡ t.next)
IsPut user t dir name is_dir new (Err (stop.Bad why)) = (has_no_room 0 t ≡ true) × (new ≡ t) × (why ≡ NoPoint)
IsPut user t dir name is_dir new (Err stop.NoMemory) = new ≡ t
