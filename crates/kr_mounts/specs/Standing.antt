-- Where names alone lead through the mounts of a table, and what holds of a table that was settled.
use Rattle.std.specs.Prelude.{◌≡◌, ℕ, false, List, [], ◌∷◌, map, Option, Some, None, Ok}
use Rattle.std.specs.Option.{option_map, option_and_then}
use Rattle.pt_bind.specs.pr_base.MountText.{MountText}
use Rattle.pt_bind.specs.pr_base.Paths.{AreNames}
use Rattle.pt_bind.specs.pr_base.Texts.{Text}
use Rattle.pt_bind.specs.pr_base.declared.bind.Bind.{Bind}
use Rattle.pt_bind.specs.Binding.{host_of, owner}
use Rattle.kr_walk.specs.kr_inode.declared.user.User.{User}
use Rattle.kr_walk.specs.kr_tree.declared.place.Host.{Host}
use Rattle.kr_walk.specs.kr_tree.declared.place.Host.TheVariants.{Node, Proc}
use Rattle.kr_walk.specs.kr_tree.declared.place.Place.{Place}
use Rattle.kr_walk.specs.kr_tree.Lawful.{IsSound, IsCounted, HasItsInodes}
use Rattle.kr_walk.specs.kr_tree.Names.{named, reached}
use Rattle.kr_walk.specs.kr_tree.Tree.{Tree, entry}
use Rattle.kr_walk.specs.kr_view.View.{IsAsSettled, Point, Row, StandsIn, down, node_in, root_place, row}
use Rattle.kr_mounts.specs.Bounds.{AreNumbered}
use Rattle.kr_mounts.specs.MountTable.{settling}

-- behind a name in a directory of a mount: the mount that stands there, and else the entry
abbrev pub behind : ℕ → Option ℕ → Option (Place ℕ) → Option (Place ℕ)
behind mount o (Some p) = Some p
behind mount o None = option_map (node_in mount) o

abbrev pub next_by_name : List Row → Tree → List ℕ → ℕ → Host → Option (Place ℕ)
next_by_name table t name mount (Node dir) = behind mount (entry t dir name) (down table mount dir name)
next_by_name table t name mount (Proc i at) = None

-- the place to which the names of a text lead from the guest's root, whatever the rights on the way; no link is followed
abbrev pub led : List Row → Tree → Text → Option (Place ℕ)
led table t [] = Some (root_place table)
led table t (name ∷ text) = option_and_then (λ (p : Place ℕ). next_by_name table t name p.mount p.host) (led table t text)

-- ---- laws of settled tables

-- the texts of a table, as a tracer has them
abbrev pub texts_of : List Row → List MountText
texts_of table = map (λ (r : Row). r.text) table

-- the user reaches a source by its host text, and what is no directory has its name below the text of its directory
pub record IsSourceTold (t : Tree) (user : User) (r : Row) : Type 0 where
  pub way : reached t user r.text.source ≡ Some r.source
  pub names : AreNames r.text.source
  pub above : r.is_dir ≡ false → (text : Text) × (r.text.source ≡ r.source_name ∷ text) × (reached t user text ≡ Some r.source_dir)

-- a mount is located at its point's name below the guest text of the point's directory, which belongs to the mount of the
-- point; and its point has its name below the host text of that directory
pub record IsPointTold (t : Tree) (table : List Row) (r : Row) (p : Point) : Type 0 where
  pub up : Text
  pub location : r.text.location ≡ p.name ∷ up
  pub way : led table t up ≡ Some (node_in p.mount p.dir)
  pub mount : p.mount ≡ owner (texts_of table) up
  pub dir : named t (host_of (texts_of table) up) ≡ Some p.dir
  pub text : r.text.point ≡ Some (p.name ∷ host_of (texts_of table) up)

pub record IsSettledIn (t : Tree) (user : User) (table : List Row) : Type 0 where
  pub stands : StandsIn t table
  pub as_settled : IsAsSettled t table
  -- the names of each location lead to the source of its mount
  pub leads : (k : ℕ) (r : Row) → row table k ≡ Some r → led table t r.text.location ≡ Some (node_in k r.source)
  pub sources : (k : ℕ) (r : Row) → row table k ≡ Some r → IsSourceTold t user r
  pub points : (k : ℕ) (r : Row) (p : Point) → row table k ≡ Some r → r.point ≡ Some p → IsPointTold t table r p

-- settled mounts stand in the tree that is left
abbrev pub SettledMountsStand : Type 0
SettledMountsStand = (t : Tree) (user : User) (root : List ℕ) (binds : List Bind) (table : List Row) → IsSound t → IsCounted t → HasItsInodes t → AreNumbered binds
    → (settling t user root binds).answer ≡ Ok table → IsSettledIn (settling t user root binds).tree user table
