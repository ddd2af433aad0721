-- What a walk reaches: the longest host name of a place or free name, its base included, and whether it
-- looks up a name in the process directory. A place without a name doesn't count.
use Rattle.std.specs.Prelude.{ℕ, ◌≤◌, ◌≡◌, Bool, true, false, ◌||◌, not, List, [], ◌∷◌, length, max, Option, Some, None, Result, Ok, Err, if◌then◌else◌}
use Rattle.std.specs.Option.{option_map}
use Rattle.kr_tree.specs.pr_base.Paths.{Component, text_of, below_root}
use Rattle.kr_tree.specs.pr_base.WalkFrame.{Fails, Missing, Leads, Links, Jumps, Landing, LookedAt}
use Rattle.kr_tree.specs.pr_base.declared.errno.Errno.{Errno}
use Rattle.kr_tree.specs.pr_base.declared.path.Last.{Last}
use Rattle.kr_tree.specs.pr_base.declared.path.Last.TheVariants as last
use Rattle.kr_tree.specs.pr_base.declared.path.WalkMode.{WalkMode}
use Rattle.kr_tree.specs.pr_base.declared.path.WalkMode.TheVariants as modes
use Rattle.kr_tree.specs.declared.place.Host.{Host}
use Rattle.kr_tree.specs.declared.place.Place.{Place}
use Rattle.kr_view.specs.declared.target.Reach.{Reach}
use Rattle.kr_view.specs.Component.{Namespace, Surroundings, SeenPlace, look_up, meets_processes}
use Rattle.kr_view.specs.Names.{Text, directory_name, component_name, entry_name, free_name, landing_name}
use Rattle.kr_view.specs.Walk.{PlaceTrail, PlaceTarget}

-- ---- lengths

abbrev pub text_length : Text → ℕ
text_length names = length (text_of names)

-- how many bytes a text has below the root
abbrev pub bytes_below : Text → ℕ
bytes_below names = length (below_root names)

-- a number, or another where that is there and greater
abbrev pub greater : Option ℕ → ℕ → ℕ
greater (Some k) n = max n k
greater None n = n

-- a length, or that of a name where it is greater
abbrev pub raised : Option Text → ℕ → ℕ
raised name n = greater (option_map text_length name) n

abbrev pub raised_by_all : List (Option Text) → ℕ → ℕ
raised_by_all [] n = n
raised_by_all (name ∷ names) n = raised_by_all names (raised name n)

-- ---- one look-up

-- the name of what is there
abbrev pub seen_name : Option Text → SeenPlace → Option Text
seen_name name (Fails e) = None
seen_name name Missing = None
seen_name name (Leads is_dir p found) = name
seen_name name (Links found text) = name
seen_name name (Jumps found lead) = name

-- whether a walk comes to the entry itself: at the last component of a path that names one
abbrev pub names_entry : WalkMode → Bool → Bool
names_entry modes.Look is_last = false
names_entry modes.LookLink is_last = false
names_entry modes.Name is_last = is_last
names_entry modes.Open is_last = false

abbrev pub named_entry : Namespace → Bool → Host → Component → Option Text
named_entry space by_name dir c = if by_name then entry_name space dir c else None

-- the names that a look-up reaches: its place, what it shows, and, where the path names the entry, that of the entry,
-- which at a mount point is another
abbrev pub look_names : Namespace → Bool → Place ℕ → Component → SeenPlace → List (Option Text)
look_names space by_name p c seen = directory_name space p.host ∷ seen_name (component_name space p c) seen ∷ seen_name (named_entry space by_name p.host c) seen ∷ []

-- what was reached after a look-up, with the entry itself or without
abbrev pub noted : Surroundings → Bool → Place ℕ → Component → Reach → Reach
noted around by_name p c r = record {
  longest = raised_by_all (look_names around.space by_name p c (look_up around p c)) r.longest;
  met_proc = r.met_proc || meets_processes around.space p c;
}

abbrev pub look_reach : Surroundings → WalkMode → LookedAt (Place ℕ) → Reach → Reach
look_reach around mode l r = noted around (names_entry mode l.is_last) l.place l.component r

abbrev pub looks_reach : Surroundings → WalkMode → List (LookedAt (Place ℕ)) → Reach → Reach
looks_reach around mode [] r = r
looks_reach around mode (l ∷ looks) r = looks_reach around mode looks (look_reach around mode l r)

-- ---- process links

-- where a process link leads that is followed is reached
abbrev pub reached_landing : Namespace → Landing (Place ℕ) (Place ℕ) → Reach → Reach
reached_landing space landing r = record { longest = raised (landing_name space landing) r.longest; met_proc = r.met_proc }

abbrev pub landings_reach : Namespace → List (Landing (Place ℕ) (Place ℕ)) → Reach → Reach
landings_reach space [] r = r
landings_reach space (landing ∷ landings) r = landings_reach space landings (reached_landing space landing r)

-- ---- the end

abbrev pub free_target_name : Namespace → PlaceTarget → Option (Place ℕ) → Option Text
free_target_name space target (Some p) = None
free_target_name space target None = free_name space target.dir.host target.name

-- where a path, or the text of a link, has no component, the place where it begins
abbrev pub beginning_name : Namespace → Host → Last → Option Text
beginning_name space host last.Root = directory_name space host
beginning_name space host last.Name = None
beginning_name space host last.Dot = None
beginning_name space host last.DotDot = None

-- the names at the end that no look-up reached
abbrev pub end_names : Namespace → Result PlaceTarget Errno → List (Option Text)
end_names space (Ok target) = beginning_name space target.dir.host target.last ∷ free_target_name space target target.found ∷ []
end_names space (Err e) = []

abbrev pub end_reach : Namespace → Result PlaceTarget Errno → Reach → Reach
end_reach space answer r = record { longest = raised_by_all (end_names space answer) r.longest; met_proc = r.met_proc }

-- ---- a trail

-- what was reached after a walk in a mode
abbrev pub reach_after : Surroundings → WalkMode → PlaceTrail → Reach → Reach
reach_after around mode trail r = end_reach around.space trail.answer (landings_reach around.space trail.landings (looks_reach around mode trail.looks r))

-- one reach has all that another has
pub record Covers (more less : Reach) : Type 0 where
  pub longest : less.longest ≤ more.longest
  pub met_proc : less.met_proc ≡ true → more.met_proc ≡ true

-- ---- steady walks

-- nothing was reached yet
abbrev pub nothing : Reach
nothing = record { longest = 0; met_proc = false }

-- a walk in a mode is steady where it looks up no name in the process directory
abbrev pub is_steady : Surroundings → WalkMode → PlaceTrail → Bool
is_steady around mode trail = not (reach_after around mode trail nothing).met_proc
