-- Before a process lives no link of the process directory leads anywhere, so no walk ends where one leads.
use Rattle.std.proofs.Common.{◌≡◌, ℕ, Bool, true, false, List, Option, Some, None, refl, subst}
use Rattle.std.specs.Bool.{if◌then◌else◌}
use Rattle.pr_start.specs.pr_base.Paths.{Component, Dot, DotDot, Name, components_of, has_slash}
use Rattle.pr_start.specs.pr_base.WalkFrame.{Fails, Jumps, Leads, Links, Missing, begins_at, most_links}
use Rattle.pr_start.specs.pr_base.declared.errno.Errno.TheVariants.{EACCES, ENAMETOOLONG, ENOENT, ENOTDIR}
use Rattle.pr_start.specs.pr_base.declared.path.WalkMode.{WalkMode}
use Rattle.pr_start.proofs.pr_base.EndLemmas.{EndsSo, walk_ends}
use Rattle.pr_start.specs.kr_inode.declared.user.User.{User}
use Rattle.pr_start.specs.kr_tree.Tree.{Body, Directory, ProcessDirectory, RegularFile, SymbolicLink, Tree, above as node_above, body, body_is, entry}
use Rattle.pr_start.specs.kr_tree.declared.place.Host.{Host}
use Rattle.pr_start.specs.kr_tree.declared.place.Host.TheVariants.{Node, Proc}
use Rattle.pr_start.specs.kr_tree.declared.place.Place.{Place}
use Rattle.pr_start.specs.kr_tree.declared.place.ProcAt.{ProcAt}
use Rattle.pr_start.specs.kr_tree.declared.place.ProcAt.TheVariants.{Cwd, Dir, Exe, Fd, FdDir, Root, SelfLink}
use Rattle.pr_start.specs.kr_view.Component.{SeenPlace, Surroundings, above_body, above_host, above_node, above_process, in_node, inside, is_directory_at, is_process_directory, is_processes, is_shown, look_up, may_search, named_in, seen_at, seen_body, seen_entry, seen_in_processes, seen_link, shows_directory, through_point, too_long}
use Rattle.pr_start.specs.kr_view.View.{Row, down, is_root_place, node_in, up}
use Rattle.pr_start.specs.kr_view.Walk.{looking, place_walk}
use Rattle.pr_start.specs.kr_view.declared.procs.Lead.TheVariants.{NoLink}
use Rattle.law_programs.specs.kr_first.Starting.{around}

module _ (table : List Row) (tree : Tree) (user : User) where
  abbrev here : Surroundings
  here = around table tree user

  -- whatever is seen, it doesn't lead on
  abbrev Stays : SeenPlace → Type 0
  Stays (Fails e) = Unit {0}
  Stays Missing = Unit {0}
  Stays (Leads is_dir q f) = Unit {0}
  Stays (Links f text) = Unit {0}
  Stays (Jumps f None) = Unit {0}
  Stays (Jumps f (Some l)) = ⊥

  either : (b : Bool) (x y : SeenPlace) → Stays x → Stays y → Stays (if b then x else y)
  either true x y p q = p
  either false x y p q = q

  body-stays : (p : Place ℕ) (b : Option Body) → Stays (seen_body p b)
  body-stays p None = tt
  body-stays p (Some (Directory entries standing)) = tt
  body-stays p (Some (RegularFile bytes)) = tt
  body-stays p (Some (SymbolicLink text)) = tt
  body-stays p (Some (ProcessDirectory standing)) = tt

  at-stays : (p : Place ℕ) (host : Host) → Stays (seen_at here p host)
  at-stays p (Node i) = body-stays p (body tree i)
  at-stays p (Proc i at) = either (is_process_directory at) (shows_directory p) (seen_link here.space p NoLink) tt tt

  above-body-stays : (mount : ℕ) (dir : Option ℕ) → Stays (above_body mount dir)
  above-body-stays mount None = tt
  above-body-stays mount (Some dir) = tt

  above-node-stays : (mount i : ℕ) (point : Option (Place ℕ)) → Stays (above_node here.space mount i point)
  above-node-stays mount i None = above-body-stays mount (node_above tree i)
  above-node-stays mount i (Some p) = tt

  above-process-stays : (mount i : ℕ) (at : ProcAt) → Stays (above_process here.space mount i at)
  above-process-stays mount i SelfLink = tt
  above-process-stays mount i (Dir pid) = either (is_shown here.space pid) (shows_directory (node_in mount i)) (Fails ENOENT) tt tt
  above-process-stays mount i (Cwd pid) = tt
  above-process-stays mount i (Root pid) = tt
  above-process-stays mount i (Exe pid) = tt
  above-process-stays mount i (FdDir pid) = either (is_shown here.space pid) (shows_directory (record { mount = mount; host = Proc i (Dir pid) })) (Fails ENOENT) tt tt
  above-process-stays mount i (Fd pid fd) = tt

  above-stays : (mount : ℕ) (host : Host) → Stays (above_host here.space mount host)
  above-stays mount (Node i) = above-node-stays mount i (up table mount i)
  above-stays mount (Proc i at) = above-process-stays mount i at

  in-processes-stays : (mount i : ℕ) (found : Option ProcAt) → Stays (seen_in_processes here mount i found)
  in-processes-stays mount i None = tt
  in-processes-stays mount i (Some at) = at-stays (record { mount = mount; host = Proc i at }) (Proc i at)

  entry-stays : (mount : ℕ) (found : Option ℕ) → Stays (seen_entry here mount found)
  entry-stays mount None = tt
  entry-stays mount (Some i) = at-stays (node_in mount i) (Node i)

  in-node-stays : (mount i : ℕ) (name : List ℕ) → Stays (in_node here mount i name)
  in-node-stays mount i name =
      either (body_is is_processes tree i) (seen_in_processes here mount i None) (seen_entry here mount (entry tree i name)) (in-processes-stays mount i None) (entry-stays mount (entry tree i name))

  through-stays : (mount i : ℕ) (name : List ℕ) (source : Option (Place ℕ)) → Stays (through_point here mount i name source)
  through-stays mount i name None = in-node-stays mount i name
  through-stays mount i name (Some p) = at-stays p p.host

  named-stays : (mount : ℕ) (host : Host) (name : List ℕ) → Stays (named_in here mount host name)
  named-stays mount (Node i) name = through-stays mount i name (down table mount i name)
  named-stays mount (Proc i at) name = in-processes-stays mount i None

  inside-stays : (p : Place ℕ) (c : Component) → Stays (inside here p c)
  inside-stays p Dot = tt
  inside-stays p DotDot = either (is_root_place table p) (shows_directory p) (above_host here.space p.mount p.host) tt (above-stays p.mount p.host)
  inside-stays p (Name name) = either (too_long name) (Fails ENAMETOOLONG) (named_in here p.mount p.host name) tt (named-stays p.mount p.host name)

  look-stays : (p : Place ℕ) (c : Component) → Stays (look_up here p c)
  look-stays p c =
      either (is_directory_at tree p.host) (if may_search tree user p.host then inside here p c else Fails EACCES) (Fails ENOTDIR)
      (either (may_search tree user p.host) (inside here p c) (Fails EACCES) (inside-stays p c) tt) tt

  pub never-jumped : (mode : WalkMode) (base : Place ℕ) (path : List ℕ) → EndsSo (looking here) (λ t. t.jumped ≡ false) (place_walk here mode base path)
  never-jumped mode base path =
      walk_ends (looking here) (λ t. t.jumped ≡ false) (λ p. Unit {0}) (λ s slash begins. refl) (λ s c slash found shows. refl) (λ s c slash f l looked. absurd (subst Stays looked (look-stays s c))) (λ s c f text looked. tt)
      mode most_links (begins_at (looking here) base path) (components_of path) (has_slash path) (λ none. tt)
