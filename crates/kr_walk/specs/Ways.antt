-- How a walk comes from a place to what a component shows, and what that says of host names.
use Rattle.std.specs.Prelude.{ℕ, ◌≡◌, Bool, true, false, List, Option, Some, None}
use Rattle.kr_view.specs.kr_tree.pr_base.Paths.{Component, Name}
use Rattle.kr_view.specs.kr_tree.declared.place.Host.{Host}
use Rattle.kr_view.specs.kr_tree.declared.place.Host.TheVariants.{Node, Proc}
use Rattle.kr_view.specs.kr_tree.declared.place.Place.{Place}
use Rattle.kr_view.specs.kr_tree.Tree.{entry, above as node_above, body_is, is_directory}
use Rattle.kr_view.specs.kr_tree.Names.{host_name}
use Rattle.kr_walk.specs.declared.surroundings.Way.{Way}
use Rattle.kr_walk.specs.declared.surroundings.Way.TheVariants.{Stays, Rises, CrossesUp, CrossesDown, Enters}
use Rattle.kr_walk.specs.declared.surroundings.Spot.{Spot}
use Rattle.kr_walk.specs.declared.surroundings.Sight.{Sight}
use Rattle.kr_walk.specs.declared.surroundings.Sight.TheVariants.{Fails, Missing, Leads, Links, Jumps}
use Rattle.kr_view.specs.View.{Row, row, node_in, ino_of}
use Rattle.kr_view.specs.Leads.{numbered}
use Rattle.kr_view.specs.Component.{Namespace, is_directory_at}
use Rattle.kr_view.specs.Names.{Text, below, directory_name, component_name, source_name}

-- a place is the source of its mount, which has this name
pub record IsSource (space : Namespace) (q : Place ℕ) (name : Option Text) : Type 0 where
  pub mount_row : Row
  pub there : row space.table q.mount ≡ Some mount_row
  pub place : q ≡ node_in q.mount mount_row.source
  pub called : source_name space mount_row ≡ name

-- a place is an entry of another, and so called
pub record IsEntered (space : Namespace) (p q : Place ℕ) (c : Component) (name : Option Text) : Type 0 where
  pub part : List ℕ
  pub named : c ≡ Name part
  pub there : entry space.tree (ino_of p.host) part ≡ Some (ino_of q.host)
  pub place : q ≡ node_in q.mount (ino_of q.host)
  pub called : below part (host_name space.tree (ino_of p.host)) ≡ name

abbrev pub IsWayTo : Namespace → Place ℕ → Component → Place ℕ → Option Text → Way → Type 0
IsWayTo space p c q name Stays = (ino_of p.host ≡ ino_of q.host) × (directory_name space q.host ≡ name)
IsWayTo space p c q name Rises =
    (node_above space.tree (ino_of p.host) ≡ Some (ino_of q.host)) × (q ≡ node_in q.mount (ino_of q.host)) × (directory_name space q.host ≡ name)
IsWayTo space p c q name CrossesUp = directory_name space q.host ≡ name
IsWayTo space p c q name CrossesDown = IsSource space q name
IsWayTo space p c q name Enters = IsEntered space p q c name

-- the way from a place to what a component shows there
abbrev pub IsWay : Namespace → Place ℕ → Component → Place ℕ → Way → Type 0
IsWay space p c q way = IsWayTo space p c q (component_name space p c) way

abbrev pub spot_of : {M : Type 0} → Sight M → Option (Spot M)
spot_of (Fails e) = None
spot_of Missing = None
spot_of (Leads spot is_dir) = Some spot
spot_of (Links spot text) = Some spot
spot_of (Jumps spot at) = Some spot

-- where a sight shows something, it is at a spot of which a fact holds
abbrev pub AtSpot : {M : Type 0} → (Spot M → Type 0) → Sight M → Type 0
AtSpot P (Fails e) = Unit {0}
AtSpot P Missing = Unit {0}
AtSpot P (Leads spot is_dir) = P spot
AtSpot P (Links spot text) = P spot
AtSpot P (Jumps spot at) = P spot

abbrev pub IsSightAt : {M : Type 0} → Spot M → Sight M → Type 0
IsSightAt spot sight = AtSpot (λ s. s ≡ spot) sight

-- the way from a place to what a sight shows there, which has this name
abbrev pub IsSightCalled : {M : Type 0} → (M → ℕ) → Namespace → Place ℕ → Component → Option Text → Sight M → Type 0
IsSightCalled number space p c name sight = AtSpot (λ spot. IsWayTo space p c (numbered number spot.place) name spot.way) sight

abbrev pub IsSightWay : {M : Type 0} → (M → ℕ) → Namespace → Place ℕ → Component → Sight M → Type 0
IsSightWay number space p c sight = IsSightCalled number space p c (component_name space p c) sight

-- whether what is no link is a directory: it is one where an entry was taken for one, and it isn't where it
-- wasn't taken for one
abbrev pub IsKind : Namespace → Host → Way → Bool → Type 0
IsKind space host way true = way ≡ Enters → is_directory_at space.tree host ≡ true
IsKind space host way false = body_is is_directory space.tree (ino_of host) ≡ false

abbrev pub HasKind : {M : Type 0} → Namespace → Sight M → Type 0
HasKind space (Fails e) = Unit {0}
HasKind space Missing = Unit {0}
HasKind space (Leads spot is_dir) = IsKind space spot.place.host spot.way is_dir
HasKind space (Links spot text) = Unit {0}
HasKind space (Jumps spot at) = Unit {0}
