-- A walk from an inode that looks up no name in the process directory goes through inodes alone, so it finds no link of that directory.
use Rattle.std.proofs.Common.{◌≡◌, ◌≢◌, ℕ, Bool, true, false, List, [], ◌∷◌, Option, Some, None, Result, Ok, Err, All, nat_eq, refl, sym, subst, ◌∙◌}
use Rattle.std.specs.Bool.{if◌then◌else◌}
use Rattle.std.specs.Option.{option_and_then, option_map}
use Rattle.std.specs.Prelude.{position}
use Rattle.std.proofs.lemmas.Bool.{not-true, or_parts}
use Rattle.std.proofs.lemmas.List.Elements.{All-nil, All-cons}
use Rattle.kr_ops.specs.pr_base.Paths.{Component, Dot, DotDot, Name}
use Rattle.kr_ops.specs.pr_base.WalkFrame.{Fails, Missing, Leads, Links, Jumps, Landing, LookedAt}
use Rattle.kr_ops.specs.pr_base.WalkLaws.{Shows}
use Rattle.kr_ops.specs.pr_base.KeptWalks.{GoesOn}
use Rattle.kr_ops.specs.pr_base.declared.errno.Errno.{Errno}
use Rattle.kr_ops.specs.pr_base.declared.errno.Errno.TheVariants.{EACCES, ENAMETOOLONG, ENOENT, ENOTDIR}
use Rattle.kr_ops.specs.pr_base.declared.path.WalkMode.{WalkMode}
use Rattle.kr_ops.specs.pr_base.declared.path.WalkMode.TheVariants.{LookLink}
use Rattle.kr_ops.specs.pr_base.declared.peeks.PeekKind.TheVariants.{Jump}
use Rattle.kr_walk.specs.kr_inode.GroundLemmas.{path_well}
use Rattle.kr_ops.specs.kr_tree.declared.place.Host.{Host}
use Rattle.kr_ops.specs.kr_tree.declared.place.Host.TheVariants.{Node}
use Rattle.kr_ops.specs.kr_tree.declared.place.Place.{Place}
use Rattle.kr_ops.specs.kr_tree.Tree.{Body, Directory, RegularFile, SymbolicLink, ProcessDirectory, above as node_above, body, body_is, entry}
use Rattle.kr_ops.specs.kr_view.declared.target.Reach.{Reach}
use Rattle.kr_ops.specs.kr_view.Component.{SeenPlace, Surroundings, above_body, above_host, above_node, inside, is_directory_at, is_looked_up, is_processes, look_up, may_search, meets_processes, named_in, seen_at, seen_body, seen_entry, seen_in_processes, shows_directory, through_point, too_long}
use Rattle.kr_ops.specs.kr_view.Reach.{is_steady, landings_reach, look_reach, looks_reach, nothing, reach_after, reached_landing}
use Rattle.kr_ops.specs.kr_view.View.{Point, Row, down, is_point, is_root_place, node_in, point_place, root_place, root_source, row, source_place, stands_at, up}
use Rattle.kr_ops.specs.kr_view.Walk.{PlaceTarget, PlaceTrail, looking, place_walk}
use Rattle.kr_ops.specs.kr_model.Peeks.{at_found, kind_along, kind_of_answer, kind_seen, steady_along}

-- ---- inodes

abbrev pub IsInode : Place ℕ → Type 0
IsInode p = (i : ℕ) × (p.host ≡ Node i)

abbrev pub IsInodeIfAny : Option (Place ℕ) → Type 0
IsInodeIfAny (Some p) = IsInode p
IsInodeIfAny None = Unit {0}

-- what is seen stands at inodes, and is no link of the process directory
abbrev IsInodeSight : SeenPlace → Type 0
IsInodeSight (Fails e) = Unit {0}
IsInodeSight Missing = Unit {0}
IsInodeSight (Leads is_dir q f) = IsInode q × IsInode f
IsInodeSight (Links f text) = IsInode f
IsInodeSight (Jumps f lead) = ⊥

inode_in : (mount i : ℕ) → IsInode (node_in mount i)
inode_in mount i = (i, refl)

body_sight : (p : Place ℕ) (o : Option Body) → IsInode p → IsInodeSight (seen_body p o)
body_sight p None n = tt
body_sight p (Some (Directory entries standing)) n = (n, n)
body_sight p (Some (RegularFile bytes)) n = (n, n)
body_sight p (Some (SymbolicLink text)) n = n
body_sight p (Some (ProcessDirectory standing)) n = (n, n)

-- ---- mounts

point_inode : (o : Option Point) → IsInodeIfAny (option_map (λ p. node_in p.mount p.dir) o)
point_inode None = tt
point_inode (Some p) = inode_in p.mount p.dir

up_inode : (dir : ℕ) (o : Option Row) → IsInodeIfAny (option_and_then (λ r. if nat_eq r.source dir then point_place r else None) o)
up_inode dir None = tt
up_inode dir (Some r) = by (nat_eq r.source dir)
  where
    by : (b : Bool) → IsInodeIfAny (if b then point_place r else None)
    by true = point_inode r.point
    by false = tt

source_inode : (k : ℕ) (o : Option Row) → IsInodeIfAny (option_map (λ r. node_in k r.source) o)
source_inode k None = tt
source_inode k (Some r) = inode_in k r.source

down_inode : (table : List Row) (o : Option ℕ) → IsInodeIfAny (option_and_then (source_place table) o)
down_inode table None = tt
down_inode table (Some k) = source_inode k (row table k)

-- ---- a look

module _ (around : Surroundings) where
  place_sight : (p : Place ℕ) → IsInode p → IsInodeSight (seen_at around p p.host)
  place_sight p n = subst (λ (h : Host). IsInodeSight (seen_at around p h)) (sym n.1) (body_sight p (body around.space.tree n.0) n)

  above_dir : (mount : ℕ) (o : Option ℕ) → IsInodeSight (above_body mount o)
  above_dir mount None = tt
  above_dir mount (Some dir) = (inode_in mount dir, inode_in mount dir)

  above_inode : (mount i : ℕ) (o : Option (Place ℕ)) → IsInodeIfAny o → IsInodeSight (above_node around.space mount i o)
  above_inode mount i None n = above_dir mount (node_above around.space.tree i)
  above_inode mount i (Some p) n = (n, n)

  entry_sight : (mount : ℕ) (o : Option ℕ) → IsInodeSight (seen_entry around mount o)
  entry_sight mount None = tt
  entry_sight mount (Some i) = body_sight (node_in mount i) (body around.space.tree i) (inode_in mount i)

  module _ (mount i : ℕ) where
    above_sight : (b : Bool) → IsInodeSight (if b then shows_directory (node_in mount i) else above_host around.space mount (Node i))
    above_sight true = (inode_in mount i, inode_in mount i)
    above_sight false = above_inode mount i (up around.space.table mount i) (up_inode i (row around.space.table mount))

    -- in what is no process directory
    in_sight : (name : List ℕ) (b : Bool) → b ≡ false → IsInodeSight (if b then seen_in_processes around mount i (around.space.finds None name) else seen_entry around mount (entry around.space.tree i name))
    in_sight name true h = absurd cc
    in_sight name false h = entry_sight mount (entry around.space.tree i name)

    through_sight : (name : List ℕ) (o : Option (Place ℕ)) → IsInodeIfAny o → body_is is_processes around.space.tree i ≡ false → IsInodeSight (through_point around mount i name o)
    through_sight name (Some p) n h = place_sight p n
    through_sight name None n h = in_sight name (body_is is_processes around.space.tree i) h

    name_sight : (name : List ℕ) (b : Bool) → (if (if b then false else true) then body_is is_processes around.space.tree i else false) ≡ false
        → IsInodeSight (if b then Fails ENAMETOOLONG else named_in around mount (Node i) name)
    name_sight name true h = tt
    name_sight name false h = through_sight name (down around.space.table mount i name) (down_inode around.space.table (position (stands_at (is_point mount i name)) around.space.table)) h

    abbrev meets_in : Component → Bool
    meets_in c = if is_looked_up c then body_is is_processes around.space.tree i else false

    inside_sight : (c : Component) → meets_in c ≡ false → IsInodeSight (inside around (node_in mount i) c)
    inside_sight Dot h = (inode_in mount i, inode_in mount i)
    inside_sight DotDot h = above_sight (is_root_place around.space.table (node_in mount i))
    inside_sight (Name name) h = name_sight name (too_long name) h

    node_sight : (c : Component) (is_dir may : Bool) → (if is_dir then (if may then meets_in c else false) else false) ≡ false
        → IsInodeSight (if is_dir then (if may then inside around (node_in mount i) c else Fails EACCES) else Fails ENOTDIR)
    node_sight c true true h = inside_sight c h
    node_sight c true false h = tt
    node_sight c false may h = tt

  -- a look that looks up no name in the process directory
  abbrev pub IsApart : LookedAt (Place ℕ) → Type 0
  IsApart l = meets_processes around.space l.place l.component ≡ false

  look_sight : (p : Place ℕ) (c : Component) → IsInode p → meets_processes around.space p c ≡ false → IsInodeSight (look_up around p c)
  look_sight p c n =
      let at : p ≡ node_in p.mount n.0 = λ j. record { mount = p.mount; host = n.1 j } in
      subst (λ (q : Place ℕ). meets_processes around.space q c ≡ false → IsInodeSight (look_up around q c)) (sym at)
      (node_sight p.mount n.0 c (is_directory_at around.space.tree (Node n.0)) (may_search around.space.tree around.space.user (Node n.0)))

  -- ---- a walk

  pub landings_met : (landings : List (Landing (Place ℕ) (Place ℕ))) (r : Reach) → (landings_reach around.space landings r).met_proc ≡ r.met_proc
  landings_met [] r = refl
  landings_met (l ∷ landings) r = landings_met landings (reached_landing around.space l r)

  module _ (mode : WalkMode) where
    looks_apart : (looks : List (LookedAt (Place ℕ))) (r : Reach) → (looks_reach around mode looks r).met_proc ≡ false → (r.met_proc ≡ false) × All IsApart looks
    looks_apart [] r h = (h, All-nil IsApart)
    looks_apart (l ∷ looks) r h =
        let rest = looks_apart looks (look_reach around mode l r) h in
        let own = or_parts r.met_proc (meets_processes around.space l.place l.component) rest.0 in
        (own.0, All-cons IsApart l looks own.1 rest.1)

    pub apart : (trail : PlaceTrail) → is_steady around mode trail ≡ true → All IsApart trail.looks
    apart trail h =
        (looks_apart trail.looks nothing (sym (landings_met trail.landings (looks_reach around mode trail.looks nothing)) ∙ not-true (reach_after around mode trail nothing).met_proc h)).1

  goes_on : (seen : SeenPlace) → IsInodeSight seen → GoesOn IsInode seen
  goes_on (Fails e) n = tt
  goes_on Missing n = tt
  goes_on (Leads is_dir q f) n = n.0
  goes_on (Links f text) n = tt
  goes_on (Jumps f lead) n = absurd n

  found_inode : (seen : SeenPlace) (found : Option (Place ℕ)) → IsInodeSight seen → Shows seen found → IsInodeIfAny found
  found_inode (Fails e) found n shows = absurd shows
  found_inode Missing found n shows = subst IsInodeIfAny (sym shows) tt
  found_inode (Leads is_dir q f) found n shows = subst IsInodeIfAny (sym shows) n.1
  found_inode (Links f text) found n shows = subst IsInodeIfAny (sym shows) n
  found_inode (Jumps f lead) found n shows = absurd n

  pub steady_finds_inodes : (mode : WalkMode) (base : Place ℕ) (path : List ℕ) → IsInode base → is_steady around mode (place_walk around mode base path) ≡ true
      → (t : PlaceTarget) → (place_walk around mode base path).answer ≡ Ok t → IsInodeIfAny t.found
  steady_finds_inodes mode base path n steady =
      (path_well IsInode IsApart (looking around) (λ (t : PlaceTarget). IsInodeIfAny t.found)
      (record {
        root = inode_in 0 (root_source around.space.table);
        looks = λ l good fine. goes_on (look_up around l.place l.component) (look_sight l.place l.component good fine);
        beginning = λ s slash good. good;
        component = λ l slash found good fine shows. found_inode (look_up around l.place l.component) found (look_sight l.place l.component good fine) shows;
        landing = λ l slash f to good fine looked. absurd (subst IsInodeSight looked (look_sight l.place l.component good fine));
      })
      mode base path n (apart mode (place_walk around mode base path) steady)).target

  -- ---- what is told of it

  seen_kind : (seen : SeenPlace) → IsInodeSight seen → kind_seen seen ≢ Ok Jump
  seen_kind (Fails e) n h = absurd cc
  seen_kind Missing n h = absurd cc
  seen_kind (Leads true p found) n h = absurd cc
  seen_kind (Leads false p found) n h = absurd cc
  seen_kind (Links found text) n h = absurd cc
  seen_kind (Jumps found lead) n h = n

  answer_kind : (answer : Result PlaceTarget Errno) → ((t : PlaceTarget) → answer ≡ Ok t → IsInodeIfAny t.found) → kind_of_answer around answer ≢ Ok Jump
  answer_kind (Err e) each h = absurd cc
  answer_kind (Ok target) each h = by target.found (each target refl) h
    where
      by : (o : Option (Place ℕ)) → IsInodeIfAny o → at_found around (Err ENOENT) kind_seen o ≢ Ok Jump
      by None n h = absurd cc
      by (Some p) n h = seen_kind (seen_at around p p.host) (place_sight p n) h

  -- what stands at a steady path is no link of the process directory
  pub steady_is_no_jump : (path : List ℕ) → steady_along around LookLink path ≡ true → kind_along around path ≢ Ok Jump
  steady_is_no_jump path steady =
      let root = root_place around.space.table in
      answer_kind (place_walk around LookLink root path).answer (steady_finds_inodes LookLink root path (inode_in 0 (root_source around.space.table)) steady)
