-- What is proved of walks along locations in code. No public clause cites this module.
use Rattle.std.specs.Prelude.{◌≡◌, ◌<◌, ℕ, Bool, List, ◌∷◌, Option, Some, None, Result, Ok, Err}
use Rattle.std.specs.Option.{option_map}
use Rattle.pt_bind.specs.pr_base.Paths.{Component, Dot, DotDot, Name, components_of}
use Rattle.pt_bind.specs.pr_base.Texts.{Text}
use Rattle.pt_bind.specs.pr_base.WalkFrame.{Fails, Missing, Leads, Links, walk_on}
use Rattle.pt_bind.specs.pr_base.declared.errno.Errno.{Errno}
use Rattle.pt_bind.specs.pr_base.declared.memory.NoMemory.{NoMemory}
use Rattle.kr_walk.specs.kr_tree.declared.place.Place.{Place}
use Rattle.pt_bind.specs.Binding.{IsWritten, names_of}
use Rattle.kr_walk.specs.kr_view.View.{node_in}
use Rattle.kr_walk.specs.kr_view.Component.{SeenPlace, Surroundings}
use Rattle.kr_mounts.specs.Sources.{around_table}
use Rattle.kr_mounts.specs.Locations.{Spot, SeenSpot, alone, leads_to, located_at, locating, location_mode, location_of, stepped}
use Rattle.kr_mounts.specs.Texts.{IsBelow}
use Rattle.kr_mounts.specs.declared.fault.BindWhy.{BindWhy}
use Rattle.kr_mounts.specs.declared.location.Locating.{Locating}
use Rattle.kr_mounts.specs.declared.location.Part.{Part}
use Rattle.kr_mounts.specs.declared.location.Part.TheVariants as part
use Rattle.kr_mounts.specs.declared.location.Shown.{Shown}
use Rattle.kr_mounts.specs.declared.location.Shown.TheVariants as shown
use Rattle.kr_mounts.specs.declared.location.Spot.{Spot as KeptSpot}
use Rattle.kr_mounts.specs.declared.location.Walk.{Walk}
use Rattle.kr_mounts.specs.declared.location.Step.{Step}
use Rattle.kr_mounts.specs.declared.location.Step.TheVariants.{Goes, Ends}
use Rattle.kr_mounts.specs.declared.location.Stop.{Stop}
use Rattle.kr_mounts.specs.declared.location.Stop.TheVariants as stop

abbrev pub spot_of : KeptSpot → Spot
spot_of s = record { text = names_of s.text; place = option_map (node_in 0) s.place }

-- the host to the user, with the guest's root as the one mount
abbrev pub alone_around : Locating → Surroundings
alone_around l = around_table (alone l.root) l.tree.now l.user

abbrev pub part_data : Part → Component
part_data part.Dot = Dot
part_data part.DotDot = DotDot
part_data (part.Name name) = Name name.now

-- ---- the walk from where it stands

abbrev pub location_on : Locating → ℕ → Spot → List Component → Bool → Result Text BindWhy
location_on l left spot cs slash = location_of (walk_on (locating l.tree.now l.user (alone l.root)) (location_mode l.keep) left spot cs slash).answer

abbrev pub location_from : Locating → ℕ → Spot → Component → List Component → Bool → Result Text BindWhy
location_from l left spot c cs slash = location_on l left spot (c ∷ cs) slash

abbrev pub location_left : Locating → Walk → Result Text BindWhy
location_left l w = location_on l w.left (spot_of w.spot) (components_of w.rest) w.slash

-- ---- what a component shows

abbrev pub IsShownAt : SeenPlace → Shown → Type 0
IsShownAt seen shown.Fails = (e : Errno) × (seen ≡ Fails e)
IsShownAt seen (shown.Leads None) = seen ≡ Missing
IsShownAt seen (shown.Leads (Some i)) = (is_dir : Bool) × (seen ≡ Leads is_dir (node_in 0 i) (node_in 0 i))
IsShownAt seen (shown.Links text) = (p : Place ℕ) × (seen ≡ Links p text.now)

abbrev pub IsSight : SeenSpot → Spot → Component → Shown → Type 0
IsSight seen spot c shown.Fails = (e : Errno) × (seen ≡ Fails e)
IsSight seen spot c (shown.Leads o) = seen ≡ leads_to (record { text = stepped spot.text c; place = option_map (node_in 0) o })
IsSight seen spot c (shown.Links text) = (place : Option (Place ℕ)) × (seen ≡ Links (record { text = stepped spot.text c; place = place }) text.now)

-- ---- what functions answer

abbrev pub IsMoved : Text → Option ℕ → Result KeptSpot NoMemory → Type 0
IsMoved text place (Ok s) = (names_of s.text ≡ text) × (s.place ≡ place) × IsBelow s.text
IsMoved text place (Err e) = Unit {0}

abbrev pub IsFollowed : Spot → List Component → ℕ → Bool → Result Walk NoMemory → Type 0
IsFollowed spot cs left slash (Ok w) = (spot_of w.spot ≡ spot) × (components_of w.rest ≡ cs) × (w.left ≡ left) × (w.slash ≡ slash) × IsBelow w.spot.text
IsFollowed spot cs left slash (Err e) = Unit {0}

-- a step leaves the same to be found, with fewer links, or ends with it
abbrev pub IsStepped : Locating → Result Text BindWhy → ℕ → Result Step Stop → Type 0
IsStepped l answer left (Ok (Goes w)) = (location_left l w ≡ answer) × (w.left < left) × IsBelow w.spot.text
IsStepped l answer left (Ok (Ends text)) = (located_at (names_of text) ≡ answer) × IsBelow text
IsStepped l answer left (Err (stop.Bad why)) = Err why ≡ answer
IsStepped l answer left (Err stop.NoMemory) = Unit {0}

abbrev pub IsLocated : Result Text BindWhy → Result (List ℕ) Stop → Type 0
IsLocated answer (Ok text) = (Ok (names_of text) ≡ answer) × IsWritten text
IsLocated answer (Err (stop.Bad why)) = Err why ≡ answer
IsLocated answer (Err stop.NoMemory) = Unit {0}
