-- Where bindings are located: their guest paths, resolved in the guest's root alone.
use Rattle.std.specs.Prelude.{ℕ, Bool, true, false, List, [], ◌∷◌, drop, Option, Some, None, Result, Ok, Err, if◌then◌else◌}
use Rattle.pt_bind.specs.pr_base.Paths.{Component, Dot, DotDot, Name, is_walked}
use Rattle.pt_bind.specs.pr_base.Texts.{Text}
use Rattle.pt_bind.specs.pr_base.WalkFrame.{Looking, Seen, Fails, Missing, Leads, Links, Jumps, Target, walk}
use Rattle.pt_bind.specs.pr_base.declared.errno.Errno.{Errno}
use Rattle.pt_bind.specs.pr_base.declared.path.WalkMode.{WalkMode}
use Rattle.pt_bind.specs.pr_base.declared.path.WalkMode.TheVariants.{Look, LookLink}
use Rattle.kr_walk.specs.kr_inode.declared.user.User.{User}
use Rattle.kr_walk.specs.kr_tree.declared.place.Place.{Place}
use Rattle.kr_walk.specs.kr_tree.Tree.{Tree}
use Rattle.kr_walk.specs.kr_view.Component.{SeenPlace, is_directory_at, look_up}
use Rattle.kr_walk.specs.kr_view.View.{Row, plain_row, root_place}
use Rattle.kr_mounts.specs.Sources.{around_table}
use Rattle.kr_mounts.specs.declared.fault.BindWhy.{BindWhy}
use Rattle.kr_mounts.specs.declared.fault.BindWhy.TheVariants.{NoPoint, AtRoot}

-- where a walk along a location stands: at the guest text so far, and while all of it was found, at a place
pub record Spot : Type 0 where
  pub text : Text
  pub place : Option (Place ℕ)

-- a text with a component more: `.` is dropped, `..` drops a name
abbrev pub stepped : Text → Component → Text
stepped text Dot = text
stepped text DotDot = drop 1 text
stepped text (Name name) = name ∷ text

-- from the first component that is missing, or looked up in no directory, the text alone is kept
abbrev pub by_text : Spot → Component → Spot
by_text spot c = record { text = stepped spot.text c; place = None }

abbrev pub SeenSpot : Type 0
SeenSpot = Seen Spot Spot

abbrev pub leads_to : Spot → SeenSpot
leads_to spot = Leads true spot spot

-- what a component shows, whatever stands there: a location may end with any object
abbrev pub spotted : Spot → Component → SeenPlace → SeenSpot
spotted spot c (Fails e) = Fails e
spotted spot c Missing = leads_to (by_text spot c)
spotted spot c (Leads is_dir place found) = leads_to (record { text = stepped spot.text c; place = Some place })
spotted spot c (Links found text) = Links (record { text = stepped spot.text c; place = Some found }) text
spotted spot c (Jumps found lead) = Jumps (by_text spot c) None

abbrev pub look_from : Tree → User → List Row → Spot → Component → Option (Place ℕ) → SeenSpot
look_from t user table spot c None = leads_to (by_text spot c)
look_from t user table spot c (Some p) =
    if is_directory_at t p.host then spotted spot c (look_up (around_table table t user) p c) else leads_to (by_text spot c)

-- the guest's root alone: the one mount whose source is an inode
abbrev pub alone : ℕ → List Row
alone i = record {
  text = plain_row.text;
  source = i;
  source_dir = 0;
  source_name = [];
  is_dir = true;
  point = None;
} ∷ []

-- looking along a location, over a view
abbrev pub locating : Tree → User → List Row → Looking Spot Spot
locating t user table = record {
  root = record { text = []; place = Some (root_place table) };
  here = λ spot. spot;
  look = λ spot c. look_from t user table spot c spot.place;
}

-- a last link that is kept isn't followed
abbrev pub location_mode : Bool → WalkMode
location_mode true = LookLink
location_mode false = Look

abbrev pub located_at : Text → Result Text BindWhy
located_at [] = Err AtRoot
located_at (name ∷ text) = Ok (name ∷ text)

abbrev pub location_at : Option Spot → Result Text BindWhy
location_at (Some spot) = located_at spot.text
location_at None = Err NoPoint

abbrev pub location_of : Result (Target Spot Spot) Errno → Result Text BindWhy
location_of (Ok target) = location_at target.found
location_of (Err e) = Err NoPoint

-- where the walk of a guest path ends, by the inode of the guest's root
abbrev pub location_walked : Tree → User → ℕ → Bool → List ℕ → Result Text BindWhy
location_walked t user root keep path =
    let looking = locating t user (alone root) in
    location_of (walk looking (location_mode keep) looking.root path).answer

-- the location of a guest path: an empty one isn't walked, nor one that is too long
abbrev pub location_by : Tree → User → ℕ → Bool → List ℕ → Result Text BindWhy
location_by t user root keep path = if is_walked path then location_walked t user root keep path else Err NoPoint
