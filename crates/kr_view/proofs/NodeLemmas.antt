-- A walk reads of a tree its nodes alone.
use Rattle.std.proofs.Common.{◌≡◌, ℕ, Bool, true, false, List, [], Option, Some, None, refl, sym, ap, ◌∙◌, if◌then◌else◌}
use Rattle.std.specs.Option.{option_map, option_map_or, option_and_then}
use Rattle.kr_tree.specs.pr_base.Paths.{Component, Dot, DotDot, Name}
use Rattle.kr_tree.specs.pr_base.WalkFrame.{Fails, Jumps, walk}
use Rattle.kr_tree.specs.pr_base.declared.errno.Errno.TheVariants.{EACCES, ENOTDIR, ENAMETOOLONG}
use Rattle.kr_tree.specs.pr_base.declared.path.WalkMode.{WalkMode}
use Rattle.kr_tree.specs.kr_inode.declared.user.Right.TheVariants.{Search}
use Rattle.kr_tree.specs.kr_inode.declared.standing.Standing.{Standing}
use Rattle.kr_tree.specs.declared.place.Host.{Host}
use Rattle.kr_tree.specs.declared.place.Host.TheVariants.{Node, Proc}
use Rattle.kr_tree.specs.declared.place.Place.{Place}
use Rattle.kr_tree.specs.declared.place.ProcAt.{ProcAt}
use Rattle.kr_tree.specs.Tree.{Tree, Inode, Entry, Node as NodeWord, Body, inode, node, body, body_is, entry, entry_named, entries_of, standing_of, above as node_above, is_directory}
use Rattle.kr_tree.specs.Rights.{allows}
use Rattle.kr_view.specs.declared.procs.Lead.{Lead}
use Rattle.kr_view.specs.declared.procs.Lead.TheVariants.{Text as TextLead, Jump, Nameless, NoLink}
use Rattle.kr_view.specs.View.{root_place, is_root_place, down, up, node_in}
use Rattle.kr_view.specs.Component.{Surroundings, SeenPlace, is_directory_at, may_search, shows_directory, seen_body, seen_link, seen_at, above_body, above_node, above_host, is_process_directory, is_processes, seen_in_processes, seen_entry, in_node, through_point, named_in, too_long, inside, look_up}
use Rattle.kr_view.specs.Walk.{looking, place_walk}
use Rattle.kr_view.specs.Laws.{with_tree, WalksReadNodes}

-- what a test says of a body, by the node
by_node : (test : Body → Bool) (v : Tree) (i : ℕ) → body_is test v i ≡ option_map_or (λ (n : NodeWord). test n.body) (node v i) false
by_node test v i = elim (inode v i) as (λ o. option_map_or (λ (x : Inode). test x.node.body) o false ≡ option_map_or (λ (n : NodeWord). test n.body) (option_map (λ (x : Inode). x.node) o) false) [ None ↦ refl | Some x ↦ refl ]

module _ (around : Surroundings) (u : Tree) (same : (i : ℕ) → node around.space.tree i ≡ node u i) where
  abbrev t : Tree
  t = around.space.tree

  abbrev other : Surroundings
  other = with_tree u around

  body_is_same : (test : Body → Bool) (i : ℕ) → body_is test t i ≡ body_is test u i
  body_is_same test i = by_node test t i ∙ ap (λ o. option_map_or (λ (n : NodeWord). test n.body) o false) (same i) ∙ sym (by_node test u i)

  body_by : (v : Tree) (i : ℕ) → body v i ≡ option_map (λ (n : NodeWord). n.body) (node v i)
  body_by v i = elim (inode v i) as (λ o. option_map (λ (x : Inode). x.node.body) o ≡ option_map (λ (n : NodeWord). n.body) (option_map (λ (x : Inode). x.node) o)) [ None ↦ refl | Some x ↦ refl ]

  body_same : (i : ℕ) → body t i ≡ body u i
  body_same i = body_by t i ∙ ap (option_map (λ (n : NodeWord). n.body)) (same i) ∙ sym (body_by u i)

  entry_by : (v : Tree) (i : ℕ) (name : List ℕ) → entry v i name ≡ option_map (λ (e : Entry). e.inode) (entry_named name (option_map_or (λ (n : NodeWord). entries_of n.body) (node v i) []))
  entry_by v i name =
      elim (inode v i) as (λ o. option_map (λ (e : Entry). e.inode) (entry_named name (option_map_or (λ (x : Inode). entries_of x.node.body) o [])) ≡ option_map (λ (e : Entry). e.inode) (entry_named name (option_map_or (λ (n : NodeWord). entries_of n.body) (option_map (λ (x : Inode). x.node) o) []))) [
        | None ↦ refl
        | Some x ↦ refl
      ]

  entry_same : (i : ℕ) (name : List ℕ) → entry t i name ≡ entry u i name
  entry_same i name = entry_by t i name ∙ ap (λ o. option_map (λ (e : Entry). e.inode) (entry_named name (option_map_or (λ (n : NodeWord). entries_of n.body) o []))) (same i) ∙ sym (entry_by u i name)

  above_by : (v : Tree) (i : ℕ) → node_above v i ≡ option_map (λ (s : Standing). s.inode) (option_and_then (λ (n : NodeWord). standing_of n.body) (node v i))
  above_by v i =
      elim (inode v i) as (λ o. option_map (λ (s : Standing). s.inode) (option_and_then (λ (x : Inode). standing_of x.node.body) o) ≡ option_map (λ (s : Standing). s.inode) (option_and_then (λ (n : NodeWord). standing_of n.body) (option_map (λ (x : Inode). x.node) o))) [
        | None ↦ refl
        | Some x ↦ refl
      ]

  above_same : (i : ℕ) → node_above t i ≡ node_above u i
  above_same i = above_by t i ∙ ap (λ o. option_map (λ (s : Standing). s.inode) (option_and_then (λ (n : NodeWord). standing_of n.body) o)) (same i) ∙ sym (above_by u i)

  dir_same : (h : Host) → is_directory_at t h ≡ is_directory_at u h
  dir_same (Node i) = body_is_same is_directory i
  dir_same (Proc i at) = refl

  search_same : (h : Host) → may_search t around.space.user h ≡ may_search u around.space.user h
  search_same (Node i) = ap (λ o. option_map_or (λ (n : NodeWord). allows around.space.user n Search) o false) (same i)
  search_same (Proc i at) = refl

  link_same : (p : Place ℕ) (l : Lead ℕ) → seen_link around.space p l ≡ seen_link other.space p l
  link_same p (TextLead text) = refl
  link_same p (Jump to dir name) =
      ap (λ b. seen_link_at b) (dir_same to.host)
    where
      seen_link_at : Bool → SeenPlace
      seen_link_at b = Jumps p (Some (if b then record { place = to; found = to; is_dir = true; dir = to; name = [] } else record { place = to; found = to; is_dir = false; dir = node_in to.mount dir; name = name }))
  link_same p Nameless = refl
  link_same p NoLink = refl

  pub seen_same : (p : Place ℕ) (h : Host) → seen_at around p h ≡ seen_at other p h
  seen_same p (Node i) = ap (seen_body p) (body_same i)
  seen_same p (Proc i at) = ap (λ s. if is_process_directory at then shows_directory p else s) (link_same p (around.leads at))

  found_same : (m i : ℕ) (o : Option ProcAt) → seen_in_processes around m i o ≡ seen_in_processes other m i o
  found_same m i None = refl
  found_same m i (Some at) = seen_same (record { mount = m; host = Proc i at }) (Proc i at)

  entered_same : (m : ℕ) (o : Option ℕ) → seen_entry around m o ≡ seen_entry other m o
  entered_same m None = refl
  entered_same m (Some i) = seen_same (node_in m i) (Node i)

  in_same : (m i : ℕ) (name : List ℕ) → in_node around m i name ≡ in_node other m i name
  in_same m i name =
      ap (λ b. if b then seen_in_processes around m i (around.space.finds None name) else seen_entry around m (entry t i name)) (body_is_same is_processes i)
      ∙ ap (λ s. if body_is is_processes u i then s else seen_entry around m (entry t i name)) (found_same m i (around.space.finds None name))
      ∙ ap (λ s. if body_is is_processes u i then seen_in_processes other m i (around.space.finds None name) else s) (ap (seen_entry around m) (entry_same i name) ∙ entered_same m (entry u i name))

  through_same : (m i : ℕ) (name : List ℕ) (o : Option (Place ℕ)) → through_point around m i name o ≡ through_point other m i name o
  through_same m i name None = in_same m i name
  through_same m i name (Some p) = seen_same p p.host

  named_in_same : (m : ℕ) (h : Host) (name : List ℕ) → named_in around m h name ≡ named_in other m h name
  named_in_same m (Node i) name = through_same m i name (down around.space.table m i name)
  named_in_same m (Proc i at) name = found_same m i (around.space.finds (Some at) name)

  above_node_same : (m i : ℕ) (o : Option (Place ℕ)) → above_node around.space m i o ≡ above_node other.space m i o
  above_node_same m i None = ap (above_body m) (above_same i)
  above_node_same m i (Some p) = refl

  above_host_same : (m : ℕ) (h : Host) → above_host around.space m h ≡ above_host other.space m h
  above_host_same m (Node i) = above_node_same m i (up around.space.table m i)
  above_host_same m (Proc i at) = refl

  inside_same : (p : Place ℕ) (c : Component) → inside around p c ≡ inside other p c
  inside_same p Dot = refl
  inside_same p DotDot = ap (λ s. if is_root_place around.space.table p then shows_directory p else s) (above_host_same p.mount p.host)
  inside_same p (Name name) = ap (λ s. if too_long name then Fails ENAMETOOLONG else s) (named_in_same p.mount p.host name)

  look_same : (p : Place ℕ) (c : Component) → look_up around p c ≡ look_up other p c
  look_same p c =
      ap (λ b. if b then (if may_search t around.space.user p.host then inside around p c else Fails EACCES) else Fails ENOTDIR) (dir_same p.host)
      ∙ ap (λ b. if is_directory_at u p.host then (if b then inside around p c else Fails EACCES) else Fails ENOTDIR) (search_same p.host)
      ∙ ap (λ s. if is_directory_at u p.host then (if may_search u around.space.user p.host then s else Fails EACCES) else Fails ENOTDIR) (inside_same p c)

  looking_same : looking around ≡ looking other
  looking_same = λ j. record { root = root_place around.space.table; here = λ p. p; look = λ p c. (look_same p c) j }

  walk_same : (mode : WalkMode) (base : Place ℕ) (path : List ℕ) → place_walk around mode base path ≡ place_walk other mode base path
  walk_same mode base path = ap (λ l. walk l mode base path) looking_same

pub walks_read_nodes : WalksReadNodes
walks_read_nodes = walk_same
