-- A walk from an inode that looks up no name in the process directory goes through inodes, and finds one.
use Rattle.std.proofs.Common.{◌≡◌, ℕ, Bool, true, false, List, [], ◌∷◌, cond, Option, Some, None, Ok, All, refl, sym, ap, subst, ◌∙◌}
use Rattle.std.specs.Prelude.{nat_eq, position, IfSome}
use Rattle.std.specs.Option.{option_and_then, option_map}
use Rattle.std.proofs.lemmas.Bool.{or_parts}
use Rattle.std.proofs.lemmas.List.Elements.{All-nil, All-cons}
use Rattle.kr_core.specs.pr_base.KeptWalks.{GoesOn}
use Rattle.kr_core.specs.pr_base.Paths.{Component, Dot, DotDot, Name}
use Rattle.kr_core.specs.pr_base.WalkFrame.{Fails, Missing, Leads, Links, Jumps, Landing, LookedAt}
use Rattle.kr_core.specs.pr_base.WalkLaws.{Shows}
use Rattle.kr_core.specs.pr_base.declared.errno.Errno.TheVariants.{EACCES, ENAMETOOLONG, ENOTDIR}
use Rattle.kr_core.specs.pr_base.declared.path.WalkMode.{WalkMode}
use Rattle.kr_core.specs.kr_tree.Tree.{Body, Directory, ProcessDirectory, RegularFile, SymbolicLink, above as node_above, body, body_is, entry}
use Rattle.kr_core.specs.kr_tree.declared.place.Host.{Host}
use Rattle.kr_core.specs.kr_tree.declared.place.Host.TheVariants.{Node}
use Rattle.kr_core.specs.kr_tree.declared.place.Place.{Place}
use Rattle.kr_core.specs.kr_view.Component.{SeenPlace, Surroundings, above_body, above_host, above_node, in_processes, inside, is_directory_at, is_looked_up, is_processes, look_up, may_search, meets_processes, named_in, seen_at, seen_body, seen_entry, seen_in_processes, shows_directory, through_point, too_long}
use Rattle.kr_core.specs.kr_view.Reach.{landings_reach, look_reach, looks_reach, reach_after, reached_landing}
use Rattle.kr_core.specs.kr_view.View.{Point, Row, down, is_root_place, is_point, node_in, point_place, root_source, row, source_place, stands_at, up}
use Rattle.kr_core.specs.kr_view.Walk.{PlaceTarget, PlaceTrail, looking, place_walk}
use Rattle.kr_core.specs.kr_view.declared.target.Reach.{Reach}
use Rattle.kr_core.proofs.pr_base.KeptWalkLemmas.{path_well}
use Rattle.law_beside.specs.Opened.{IsNode}

abbrev pub AtNode : Place ℕ → Type 0
AtNode p = IsNode p.host

-- where a look comes to
abbrev Sight : SeenPlace → Type 0
Sight (Fails e) = Unit {0}
Sight Missing = Unit {0}
Sight (Leads is_dir p found) = AtNode p × AtNode found
Sight (Links found text) = AtNode found
Sight (Jumps found lead) = ⊥

-- ---- mounts begin and stand at inodes

source-node : (table : List Row) (k : ℕ) → IfSome (source_place table k) AtNode
source-node table k = by (row table k)
  where
    by : (o : Option Row) → IfSome (option_map (λ (r : Row). node_in k r.source) o) AtNode
    by None = tt
    by (Some r) = (r.source, refl)

down-node : (table : List Row) (mount dir : ℕ) (name : List ℕ) → IfSome (down table mount dir name) AtNode
down-node table mount dir name = found (position (stands_at (is_point mount dir name)) table)
  where
    found : (o : Option ℕ) → IfSome (option_and_then (source_place table) o) AtNode
    found None = tt
    found (Some k) = source-node table k

up-node : (table : List Row) (mount dir : ℕ) → IfSome (up table mount dir) AtNode
up-node table mount dir = by (row table mount)
  where
    point : (o : Option Point) → IfSome (option_map (λ (p : Point). node_in p.mount p.dir) o) AtNode
    point None = tt
    point (Some p) = (p.dir, refl)

    here : (r : Row) (b : Bool) → IfSome (cond b (point_place r) None) AtNode
    here r true = point r.point
    here r false = tt

    by : (o : Option Row) → IfSome (option_and_then (λ (r : Row). cond (nat_eq r.source dir) (point_place r) None) o) AtNode
    by None = tt
    by (Some r) = here r (nat_eq r.source dir)

module _ (around : Surroundings) where
  -- ---- what stands at an inode

  body-sight : (p : Place ℕ) → AtNode p → (o : Option Body) → Sight (seen_body p o)
  body-sight p node (Some (Directory entries standing)) = (node, node)
  body-sight p node (Some (ProcessDirectory standing)) = (node, node)
  body-sight p node (Some (RegularFile bytes)) = (node, node)
  body-sight p node (Some (SymbolicLink text)) = node
  body-sight p node None = tt

  place-sight : (p : Place ℕ) → AtNode p → Sight (seen_at around p p.host)
  place-sight p node = subst (λ (h : Host). Sight (seen_at around p h)) (sym node.1) (body-sight p node (body around.space.tree node.0))

  -- ---- one component

  above-sight : (mount i : ℕ) → Sight (above_node around.space mount i (up around.space.table mount i))
  above-sight mount i = by (up around.space.table mount i) (up-node around.space.table mount i)
    where
      body_above : (o : Option ℕ) → Sight (above_body mount o)
      body_above None = tt
      body_above (Some dir) = ((dir, refl), (dir, refl))

      by : (o : Option (Place ℕ)) → IfSome o AtNode → Sight (above_node around.space mount i o)
      by (Some p) node = (node, node)
      by None node = body_above (node_above around.space.tree i)

  entry-sight : (mount : ℕ) (o : Option ℕ) → Sight (seen_entry around mount o)
  entry-sight mount None = tt
  entry-sight mount (Some i) = place-sight (node_in mount i) (i, refl)

  in-node : (mount i : ℕ) (name : List ℕ) (b : Bool) → b ≡ false → Sight (cond b (seen_in_processes around mount i (around.space.finds None name)) (seen_entry around mount (entry around.space.tree i name)))
  in-node mount i name true unmet = absurd cc
  in-node mount i name false unmet = entry-sight mount (entry around.space.tree i name)

  name-sight : (mount i : ℕ) (name : List ℕ) → body_is is_processes around.space.tree i ≡ false → Sight (named_in around mount (Node i) name)
  name-sight mount i name unmet = by (down around.space.table mount i name) (down-node around.space.table mount i name)
    where
      by : (o : Option (Place ℕ)) → IfSome o AtNode → Sight (through_point around mount i name o)
      by (Some p) node = place-sight p node
      by None node = in-node mount i name (body_is is_processes around.space.tree i) unmet

  inside-sight : (p : Place ℕ) → AtNode p → (c : Component) → cond (is_looked_up c) (in_processes around.space p.host) false ≡ false → Sight (inside around p c)
  inside-sight p node Dot unmet = (node, node)
  inside-sight p node DotDot unmet = by (is_root_place around.space.table p)
    where
      by : (b : Bool) → Sight (cond b (shows_directory p) (above_host around.space p.mount p.host))
      by true = (node, node)
      by false = subst (λ (h : Host). Sight (above_host around.space p.mount h)) (sym node.1) (above-sight p.mount node.0)
  inside-sight p node (Name name) unmet = by (too_long name) unmet
    where
      by : (b : Bool) → cond (cond b false true) (in_processes around.space p.host) false ≡ false → Sight (cond b (Fails ENAMETOOLONG) (named_in around p.mount p.host name))
      by true unmet = tt
      by false unmet =
          subst (λ (h : Host). Sight (named_in around p.mount h name)) (sym node.1)
          (name-sight p.mount node.0 name (ap (in_processes around.space) (sym node.1) ∙ unmet))

  look-sight : (p : Place ℕ) → AtNode p → (c : Component) → meets_processes around.space p c ≡ false → Sight (look_up around p c)
  look-sight p node c unmet = by (is_directory_at around.space.tree p.host) (may_search around.space.tree around.space.user p.host) unmet
    where
      by : (d s : Bool) → cond d (cond s (cond (is_looked_up c) (in_processes around.space p.host) false) false) false ≡ false → Sight (cond d (cond s (inside around p c) (Fails EACCES)) (Fails ENOTDIR))
      by true true unmet = inside-sight p node c unmet
      by true false unmet = tt
      by false s unmet = tt

  -- ---- a walk

  abbrev Unmet : LookedAt (Place ℕ) → Type 0
  Unmet l = meets_processes around.space l.place l.component ≡ false

  abbrev EndsAtNode : PlaceTarget → Type 0
  EndsAtNode target = IfSome target.found AtNode

  goes-on : (seen : SeenPlace) → Sight seen → GoesOn AtNode seen
  goes-on (Fails e) sight = tt
  goes-on Missing sight = tt
  goes-on (Leads is_dir p found) sight = sight.0
  goes-on (Links found text) sight = tt
  goes-on (Jumps found lead) sight = absurd sight

  found-node : (seen : SeenPlace) (found : Option (Place ℕ)) → Sight seen → Shows seen found → IfSome found AtNode
  found-node (Fails e) found sight shows = absurd shows
  found-node Missing found sight shows = subst (λ (o : Option (Place ℕ)). IfSome o AtNode) (sym shows) tt
  found-node (Leads is_dir p f) found sight shows = subst (λ (o : Option (Place ℕ)). IfSome o AtNode) (sym shows) sight.1
  found-node (Links f text) found sight shows = subst (λ (o : Option (Place ℕ)). IfSome o AtNode) (sym shows) sight
  found-node (Jumps f lead) found sight shows = absurd sight

  landings-met : (landings : List (Landing (Place ℕ) (Place ℕ))) (r : Reach) → (landings_reach around.space landings r).met_proc ≡ r.met_proc
  landings-met [] r = refl
  landings-met (l ∷ landings) r = landings-met landings (reached_landing around.space l r)

  looks-unmet : (mode : WalkMode) (looks : List (LookedAt (Place ℕ))) (r : Reach) → (looks_reach around mode looks r).met_proc ≡ false → (r.met_proc ≡ false) × All Unmet looks
  looks-unmet mode [] r unmet = (unmet, All-nil Unmet)
  looks-unmet mode (l ∷ looks) r unmet =
      let rest = looks-unmet mode looks (look_reach around mode l r) unmet in
      let own = or_parts r.met_proc (meets_processes around.space l.place l.component) rest.0 in
      (own.0, All-cons Unmet l looks own.1 rest.1)

  -- nor was one met before it
  pub trail-unmet : (mode : WalkMode) (trail : PlaceTrail) (r : Reach) → (reach_after around mode trail r).met_proc ≡ false → (r.met_proc ≡ false) × All Unmet trail.looks
  trail-unmet mode trail r unmet = looks-unmet mode trail.looks r (sym (landings-met trail.landings (looks_reach around mode trail.looks r)) ∙ unmet)

  pub walk-node : (mode : WalkMode) (base : Place ℕ) (path : List ℕ) (r : Reach) → IsNode base.host → (reach_after around mode (place_walk around mode base path) r).met_proc ≡ false
      → (target : PlaceTarget) → (place_walk around mode base path).answer ≡ Ok target → IfSome target.found (λ p. IsNode p.host)
  walk-node mode base path r node unmet target answers =
      (path_well AtNode Unmet (looking around) EndsAtNode
      (record {
        root = (root_source around.space.table, refl);
        looks = λ l good fine. goes-on (look_up around l.place l.component) (look-sight l.place good l.component fine);
        beginning = λ p slash good. good;
        component = λ l slash found good fine shows. found-node (look_up around l.place l.component) found (look-sight l.place good l.component fine) shows;
        landing = λ l slash f to good fine looked. absurd (subst Sight looked (look-sight l.place good l.component fine));
      })
      mode base path node (trail-unmet mode (place_walk around mode base path) r unmet).1).target target answers
