-- The walk of a kernel: the rules of a walk, over looking at places in a view.
use Rattle.std.specs.Prelude.{ℕ, List}
use Rattle.kr_tree.specs.pr_base.WalkFrame.{Looking, Trail, Target, walk}
use Rattle.kr_tree.specs.pr_base.declared.path.WalkMode.{WalkMode}
use Rattle.kr_tree.specs.declared.place.Place.{Place}
use Rattle.kr_tree.specs.kr_inode.declared.user.User.{User}
use Rattle.kr_tree.specs.declared.place.ProcAt.{ProcAt}
use Rattle.kr_tree.specs.Tree.{Tree}
use Rattle.kr_view.specs.declared.procs.Lead.{Lead}
use Rattle.kr_view.specs.Leads.{lead_numbered}
use Rattle.kr_view.specs.View.{Row, root_place}
use Rattle.kr_view.specs.Component.{Finds, Surroundings, look_up}

abbrev pub PlaceTrail : Type 0
PlaceTrail = Trail (Place ℕ) (Place ℕ)

abbrev pub PlaceTarget : Type 0
PlaceTarget = Target (Place ℕ) (Place ℕ)

abbrev pub looking : Surroundings → Looking (Place ℕ) (Place ℕ)
looking around = record { root = root_place around.space.table; here = λ p. p; look = look_up around }

-- the walk from a base along a path
abbrev pub place_walk : Surroundings → WalkMode → Place ℕ → List ℕ → PlaceTrail
place_walk around mode base path = walk (looking around) mode base path

-- what a view, a tree and the processes show to a caller, with the numbers of the mounts
abbrev pub surroundings : {M : Type 0} → (M → ℕ) → List Row → Tree → User → Finds → (ProcAt → Lead M) → Surroundings
surroundings number table tree user finds leads = record {
  space = record { table = table; tree = tree; user = user; finds = finds };
  leads = λ at. lead_numbered number (leads at);
}
