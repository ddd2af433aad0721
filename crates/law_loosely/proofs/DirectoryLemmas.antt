-- The working directory of a start is an inode: before a process lives, no name is found in the process directory.
use Rattle.std.proofs.Common.{◌≡◌, ℕ, Bool, true, false, cond, List, [], ◌∷◌, Option, Some, None, Result, Ok, Err, All, refl, sym, subst, nat_eq}
use Rattle.std.specs.List.{position}
use Rattle.std.specs.Option.{option_and_then, option_map}
use Rattle.std.proofs.lemmas.List.Elements.{All-cons, All-nil}
use Rattle.law_loose.specs.kr_core.pr_base.KeptWalks.{GoesOn, IsKeptByLooks}
use Rattle.law_loose.specs.kr_core.pr_base.Paths.{Component, Dot, DotDot, Name}
use Rattle.law_loose.specs.kr_core.pr_base.WalkFrame.{Fails, Jumps, Leads, Links, LookedAt, Missing}
use Rattle.law_loose.specs.kr_core.pr_base.WalkLaws.{Shows}
use Rattle.law_loose.specs.kr_core.pr_base.declared.errno.Errno.{Errno}
use Rattle.law_loose.specs.kr_core.pr_base.declared.errno.Errno.TheVariants.{EACCES, ENAMETOOLONG, ENOTDIR}
use Rattle.law_loose.specs.kr_core.pr_base.declared.path.WalkMode.TheVariants.{Look}
use Rattle.law_loose.specs.kr_core.kr_inode.declared.user.User.{User}
use Rattle.law_loose.specs.kr_loose.kr_tree.Tree.{Body, Directory, ProcessDirectory, RegularFile, SymbolicLink, Tree, above as node_above, body, body_is, entry}
use Rattle.law_loose.specs.kr_loose.kr_tree.declared.place.Host.{Host}
use Rattle.law_loose.specs.kr_loose.kr_tree.declared.place.Host.TheVariants.{Node}
use Rattle.law_loose.specs.kr_loose.kr_tree.declared.place.Place.{Place}
use Rattle.law_loose.specs.kr_view.Component.{SeenPlace, Surroundings, above_body, above_host, above_node, in_node, inside, is_directory_at, is_processes, look_up, may_search, named_in, seen_at, seen_body, seen_entry, shows_directory, through_point, too_long}
use Rattle.law_loose.specs.kr_view.View.{Point, Row, down, is_point, is_root_place, node_in, point_place, root_place, root_source, row, source_place, stands_at, up}
use Rattle.law_loose.specs.kr_view.Walk.{PlaceTarget, looking}
use Rattle.law_loose.specs.kr_core.kr_first.Starting.{around, directory_at, directory_found, directory_walk, if_directory}
use Rattle.law_loose.proofs.kr_loose.kr_turns.pr_base.KeptWalkLemmas.{path_well}
use Rattle.law_loose.specs.law_beside.Opened.{IsNode}

-- ---- places and what is seen

abbrev pub OnNode : Place ℕ → Type 0
OnNode p = IsNode p.host

abbrev pub IfOnNode : Option (Place ℕ) → Type 0
IfOnNode None = Unit {0}
IfOnNode (Some p) = OnNode p

-- what is seen stands at an inode, and is no link of the process directory
abbrev IsPlainSight : SeenPlace → Type 0
IsPlainSight (Fails e) = Unit {0}
IsPlainSight Missing = Unit {0}
IsPlainSight (Leads is_dir q f) = OnNode q × OnNode f
IsPlainSight (Links f text) = OnNode f
IsPlainSight (Jumps f lead) = ⊥

either : (b : Bool) (x y : SeenPlace) → IsPlainSight x → IsPlainSight y → IsPlainSight (cond b x y)
either true x y p q = p
either false x y p q = q

goes-on : (seen : SeenPlace) → IsPlainSight seen → GoesOn OnNode seen
goes-on (Fails e) n = tt
goes-on Missing n = tt
goes-on (Leads is_dir q f) n = n.0
goes-on (Links f text) n = tt
goes-on (Jumps f lead) n = absurd n

shown : (seen : SeenPlace) (found : Option (Place ℕ)) → IsPlainSight seen → Shows seen found → IfOnNode found
shown (Fails e) found n shows = absurd shows
shown Missing found n shows = subst IfOnNode (sym shows) tt
shown (Leads is_dir q f) found n shows = subst IfOnNode (sym shows) n.1
shown (Links f text) found n shows = subst IfOnNode (sym shows) n
shown (Jumps f lead) found n shows = absurd n

in-sight : (p : Place ℕ) (o : Option Body) → OnNode p → IsPlainSight (seen_body p o)
in-sight p None n = tt
in-sight p (Some (Directory entries standing)) n = (n, n)
in-sight p (Some (RegularFile bytes)) n = (n, n)
in-sight p (Some (SymbolicLink text)) n = n
in-sight p (Some (ProcessDirectory standing)) n = (n, n)

-- ---- mounts

module _ (table : List Row) where
  source-node : (k : ℕ) → IfOnNode (source_place table k)
  source-node k = by (row table k)
    where
      by : (o : Option Row) → IfOnNode (option_map (λ (r : Row). node_in k r.source) o)
      by None = tt
      by (Some r) = (r.source, refl)

  down-node : (mount dir : ℕ) (name : List ℕ) → IfOnNode (down table mount dir name)
  down-node mount dir name = by (position (stands_at (is_point mount dir name)) table)
    where
      by : (o : Option ℕ) → IfOnNode (option_and_then (source_place table) o)
      by None = tt
      by (Some k) = source-node k

  point-node : (r : Row) → IfOnNode (point_place r)
  point-node r = by r.point
    where
      by : (o : Option Point) → IfOnNode (option_map (λ (p : Point). node_in p.mount p.dir) o)
      by None = tt
      by (Some p) = (p.dir, refl)

  up-node : (mount dir : ℕ) → IfOnNode (up table mount dir)
  up-node mount dir = by (row table mount)
    where
      held : (b : Bool) (r : Row) → IfOnNode (cond b (point_place r) None)
      held true r = point-node r
      held false r = tt

      by : (o : Option Row) → IfOnNode (option_and_then (λ (r : Row). cond (nat_eq r.source dir) (point_place r) None) o)
      by None = tt
      by (Some r) = held (nat_eq r.source dir) r

-- ---- looks before a process lives

module _ (table : List Row) (tree : Tree) (user : User) where
  abbrev idle : Surroundings
  idle = around table tree user

  at-node : (m i : ℕ) → OnNode (node_in m i)
  at-node m i = (i, refl)

  in-entry : (m : ℕ) (o : Option ℕ) → IsPlainSight (seen_entry idle m o)
  in-entry m None = tt
  in-entry m (Some j) = in-sight (node_in m j) (body tree j) (at-node m j)

  in-directory : (m i : ℕ) (name : List ℕ) → IsPlainSight (in_node idle m i name)
  in-directory m i name = either (body_is is_processes tree i) Missing (seen_entry idle m (entry tree i name)) tt (in-entry m (entry tree i name))

  at-place : (p : Place ℕ) → OnNode p → IsPlainSight (seen_at idle p p.host)
  at-place p n = subst (λ (h : Host). IsPlainSight (seen_at idle p h)) (sym n.1) (in-sight p (body tree n.0) n)

  through : (m i : ℕ) (name : List ℕ) (o : Option (Place ℕ)) → IfOnNode o → IsPlainSight (through_point idle m i name o)
  through m i name None n = in-directory m i name
  through m i name (Some p) n = at-place p n

  above-directory : (m : ℕ) (o : Option ℕ) → IsPlainSight (above_body m o)
  above-directory m None = tt
  above-directory m (Some dir) = (at-node m dir, at-node m dir)

  above-mount : (m i : ℕ) (o : Option (Place ℕ)) → IfOnNode o → IsPlainSight (above_node idle.space m i o)
  above-mount m i None n = above-directory m (node_above tree i)
  above-mount m i (Some p) n = (n, n)

  in-place : (m i : ℕ) (c : Component) → IsPlainSight (inside idle (node_in m i) c)
  in-place m i Dot = (at-node m i, at-node m i)
  in-place m i DotDot =
      either (is_root_place table (node_in m i)) (shows_directory (node_in m i)) (above_host idle.space m (Node i)) (at-node m i, at-node m i) (above-mount m i (up table m i) (up-node table m i))
  in-place m i (Name name) =
      either (too_long name) (Fails ENAMETOOLONG) (named_in idle m (Node i) name) tt (through m i name (down table m i name) (down-node table m i name))

  from-node : (m i : ℕ) (c : Component) → IsPlainSight (look_up idle (node_in m i) c)
  from-node m i c =
      let entered : SeenPlace = inside idle (node_in m i) c in
      let searched : SeenPlace = cond (may_search tree user (Node i)) entered (Fails EACCES) in
      either (is_directory_at tree (Node i)) searched (Fails ENOTDIR) (either (may_search tree user (Node i)) entered (Fails EACCES) (in-place m i c) tt) tt

  looked : (p : Place ℕ) (c : Component) → OnNode p → IsPlainSight (look_up idle p c)
  looked p c n = subst (λ (h : Host). IsPlainSight (look_up idle (record { mount = p.mount; host = h }) c)) (sym n.1) (from-node p.mount n.0 c)

  -- ---- a walk

  -- each look is fine
  abbrev IsAnyLook : LookedAt (Place ℕ) → Type 0
  IsAnyLook l = Unit {0}

  abbrev EndsOnNode : PlaceTarget → Type 0
  EndsOnNode t = IfOnNode t.found

  any-looks : (looks : List (LookedAt (Place ℕ))) → All IsAnyLook looks
  any-looks [] = All-nil IsAnyLook
  any-looks (l ∷ looks) = All-cons IsAnyLook l looks tt (any-looks looks)

  kept : IsKeptByLooks OnNode IsAnyLook (looking idle) EndsOnNode
  kept = record {
    root = at-node 0 (root_source table);
    looks = λ l good fine. goes-on (look_up idle l.place l.component) (looked l.place l.component good);
    beginning = λ s slash good. good;
    component = λ l slash found good fine shows. shown (look_up idle l.place l.component) found (looked l.place l.component good) shows;
    landing = λ l slash f to good fine is.
        let P : SeenPlace → Type 0 = λ seen. IsPlainSight seen in
        absurd (subst P is (looked l.place l.component good));
  }

  ends : (path : List ℕ) (t : PlaceTarget) → (directory_walk table tree user path).answer ≡ Ok t → EndsOnNode t
  ends path = (path_well OnNode IsAnyLook (looking idle) EndsOnNode kept Look (root_place table) path (at-node 0 (root_source table)) (any-looks (directory_walk table tree user path).looks)).target

  found-node : (o : Option (Place ℕ)) → IfOnNode o → IfOnNode (option_and_then (if_directory tree) o)
  found-node None n = tt
  found-node (Some p) n = by (is_directory_at tree p.host)
    where
      by : (b : Bool) → IfOnNode (cond b (Some p) None)
      by true = n
      by false = tt

  -- the directory to which a path leads is an inode
  pub directory-node : (path : List ℕ) → IfOnNode (directory_at table tree user path)
  directory-node path = by (directory_walk table tree user path).answer (ends path)
    where
      by : (a : Result PlaceTarget Errno) → ((t : PlaceTarget) → a ≡ Ok t → EndsOnNode t) → IfOnNode (directory_found tree a)
      by (Err e) each = tt
      by (Ok target) each = found-node target.found (each target refl)
