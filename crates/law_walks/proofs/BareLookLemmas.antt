-- What components show from places is the same over a tree with fewer holds, so walks are.
use Rattle.std.proofs.Common.{◌≡◌, ℕ, true, false, List, [], refl, Option, Some, None}
use Rattle.std.specs.Bool.{if◌then◌else◌}
use Rattle.pt_canon.specs.pr_base.Paths.{Component, Dot, DotDot, Name}
use Rattle.pt_canon.specs.pr_base.WalkFrame.{Fails, Jumps}
use Rattle.pt_canon.specs.pr_base.declared.errno.Errno.TheVariants.{ENOTDIR, EACCES, ENAMETOOLONG}
use Rattle.kr_mounts.specs.kr_inode.declared.user.Right.TheVariants.{Search}
use Rattle.kr_mounts.specs.kr_inode.declared.user.User.{User}
use Rattle.kr_mounts.specs.kr_tree.Holds.{with_fewer}
use Rattle.kr_mounts.specs.kr_tree.Tree.{Tree, is_directory}
use Rattle.kr_mounts.specs.kr_tree.declared.place.Host.{Host}
use Rattle.kr_mounts.specs.kr_tree.declared.place.Host.TheVariants.{Node, Proc}
use Rattle.kr_mounts.specs.kr_tree.declared.place.Place.{Place}
use Rattle.kr_mounts.specs.kr_tree.declared.place.ProcAt.{ProcAt}
use Rattle.kr_mounts.specs.kr_tree.declared.place.ProcAt.TheVariants.{SelfLink, Dir, Cwd, Root, Exe, FdDir, Fd}
use Rattle.kr_mounts.specs.kr_view.Component.{Finds, Namespace, Surroundings, above, above_body, above_host, above_node, above_process, in_node, in_processes, inside, is_directory_at, is_looked_up, is_process_directory, is_processes, landing, look_up, may_search, meets_processes, named, named_in, seen_at, seen_body, seen_entry, seen_in_processes, seen_link, shows_directory, through_point, too_long}
use Rattle.kr_mounts.specs.kr_view.Walk.{looking}
use Rattle.kr_mounts.specs.kr_view.View.{Row, down, is_root_place, node_in, up}
use Rattle.kr_mounts.specs.kr_view.declared.procs.Lead.{Lead}
use Rattle.kr_mounts.specs.kr_view.declared.procs.Lead.TheVariants.{Text, Jump, Nameless, NoLink}
use Rattle.law_walks.proofs.TreeLemmas.{same_above, same_body, same_entry, same_may, same_test}

module _ (less : ℕ → ℕ) (t : Tree) where
  abbrev light : Tree
  light = with_fewer less t

  pub same_directory_at : (x : Host) → is_directory_at light x ≡ is_directory_at t x
  same_directory_at (Node i) = same_test less t is_directory i
  same_directory_at (Proc i at) = refl

  same_search : (user : User) (x : Host) → may_search light user x ≡ may_search t user x
  same_search user (Node i) = same_may less t user i Search
  same_search user (Proc i at) = refl

  module _ (table : List Row) (user : User) (finds : Finds) where
    abbrev space : Tree → Namespace
    space t = record { table = table; tree = t; user = user; finds = finds }

    -- ---- links

    same_landing : (p : Place ℕ) (dir : ℕ) (name : List ℕ) → landing (space light) p dir name ≡ landing (space t) p dir name
    same_landing p dir name =
        λ j. if same_directory_at p.host j then record { place = p; found = p; is_dir = true; dir = p; name = [] }
        else record { place = p; found = p; is_dir = false; dir = node_in p.mount dir; name = name }

    same_link : (p : Place ℕ) (lead : Lead ℕ) → seen_link (space light) p lead ≡ seen_link (space t) p lead
    same_link p (Text text) = refl
    same_link p (Jump to dir name) = λ j. Jumps p (Some (same_landing to dir name j))
    same_link p Nameless = refl
    same_link p NoLink = refl

    -- ---- `..`

    same_above_node : (mount i : ℕ) (up : Option (Place ℕ)) → above_node (space light) mount i up ≡ above_node (space t) mount i up
    same_above_node mount i (Some p) = refl
    same_above_node mount i None = λ j. above_body mount (same_above less t i j)

    same_above_process : (mount i : ℕ) (at : ProcAt) → above_process (space light) mount i at ≡ above_process (space t) mount i at
    same_above_process mount i SelfLink = refl
    same_above_process mount i (Dir pid) = refl
    same_above_process mount i (Cwd pid) = refl
    same_above_process mount i (Root pid) = refl
    same_above_process mount i (Exe pid) = refl
    same_above_process mount i (FdDir pid) = refl
    same_above_process mount i (Fd pid fd) = refl

    same_above_host : (mount : ℕ) (x : Host) → above_host (space light) mount x ≡ above_host (space t) mount x
    same_above_host mount (Node i) = same_above_node mount i (up table mount i)
    same_above_host mount (Proc i at) = same_above_process mount i at

    same_above_place : (p : Place ℕ) → above (space light) p ≡ above (space t) p
    same_above_place p = λ j. if is_root_place table p then shows_directory p else same_above_host p.mount p.host j

    -- ---- what a look-up touches

    same_in_processes : (x : Host) → in_processes (space light) x ≡ in_processes (space t) x
    same_in_processes (Node i) = same_test less t is_processes i
    same_in_processes (Proc i at) = refl

    pub same_met : (p : Place ℕ) (c : Component) → meets_processes (space light) p c ≡ meets_processes (space t) p c
    same_met p c =
        λ j. if same_directory_at p.host j then (if same_search user p.host j then (if is_looked_up c then same_in_processes p.host j else false) else false)
        else false

    -- ---- names

    module _ (leads : ProcAt → Lead ℕ) where
      abbrev around : Tree → Surroundings
      around t = record { space = space t; leads = leads }

      pub same_seen : (p : Place ℕ) (x : Host) → seen_at (around light) p x ≡ seen_at (around t) p x
      same_seen p (Node i) = λ j. seen_body p (same_body less t i j)
      same_seen p (Proc i at) = λ j. if is_process_directory at then shows_directory p else same_link p (leads at) j

      same_found : (mount i : ℕ) (found : Option ProcAt) → seen_in_processes (around light) mount i found ≡ seen_in_processes (around t) mount i found
      same_found mount i (Some at) = same_seen (record { mount = mount; host = Proc i at }) (Proc i at)
      same_found mount i None = refl

      same_seen_entry : (mount : ℕ) (found : Option ℕ) → seen_entry (around light) mount found ≡ seen_entry (around t) mount found
      same_seen_entry mount (Some i) = same_seen (node_in mount i) (Node i)
      same_seen_entry mount None = refl

      same_in_node : (mount i : ℕ) (name : List ℕ) → in_node (around light) mount i name ≡ in_node (around t) mount i name
      same_in_node mount i name =
          λ j. if same_test less t is_processes i j then same_found mount i (finds None name) j
          else same_seen_entry mount (same_entry less t i name j) j

      same_through : (mount i : ℕ) (name : List ℕ) (point : Option (Place ℕ)) → through_point (around light) mount i name point ≡ through_point (around t) mount i name point
      same_through mount i name (Some p) = same_seen p p.host
      same_through mount i name None = same_in_node mount i name

      same_named_in : (mount : ℕ) (x : Host) (name : List ℕ) → named_in (around light) mount x name ≡ named_in (around t) mount x name
      same_named_in mount (Node i) name = same_through mount i name (down table mount i name)
      same_named_in mount (Proc i at) name = same_found mount i (finds (Some at) name)

      same_named : (p : Place ℕ) (name : List ℕ) → named (around light) p name ≡ named (around t) p name
      same_named p name = λ j. if too_long name then Fails ENAMETOOLONG else same_named_in p.mount p.host name j

      same_inside : (p : Place ℕ) (c : Component) → inside (around light) p c ≡ inside (around t) p c
      same_inside p Dot = refl
      same_inside p DotDot = same_above_place p
      same_inside p (Name name) = same_named p name

      same_look : (p : Place ℕ) (c : Component) → look_up (around light) p c ≡ look_up (around t) p c
      same_look p c =
          λ j. if same_directory_at p.host j then (if same_search user p.host j then same_inside p c j else Fails EACCES)
          else Fails ENOTDIR

      pub same_looking : looking (around light) ≡ looking (around t)
      same_looking = λ j. record { root = (looking (around t)).root; here = λ p. p; look = λ p c. same_look p c j }
