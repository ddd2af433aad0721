-- What a component shows of a link of the process directory is where a place leads.
use Rattle.std.proofs.Common.{◌≡◌, ℕ, Bool, true, false, List, Option, Some, None, refl, subst}
use Rattle.std.specs.Bool.{if◌then◌else◌}
use Rattle.pt_tracer.specs.pr_base.Paths.{Component, Dot, DotDot, Name}
use Rattle.pt_tracer.specs.pr_base.WalkFrame.{Fails, Missing, Leads, Links, Jumps, Landing}
use Rattle.pt_tracer.specs.pr_base.declared.errno.Errno.TheVariants.{ENOENT, EACCES, ENOTDIR, ENAMETOOLONG}
use Rattle.law_walks.specs.kr_tree.declared.place.Host.{Host}
use Rattle.law_walks.specs.kr_tree.declared.place.Host.TheVariants.{Node, Proc}
use Rattle.law_walks.specs.kr_tree.declared.place.Place.{Place}
use Rattle.law_walks.specs.kr_tree.declared.place.ProcAt.{ProcAt}
use Rattle.law_walks.specs.kr_tree.declared.place.ProcAt.TheVariants.{SelfLink, Dir, Cwd, Root, Exe, FdDir, Fd}
use Rattle.law_walks.specs.kr_tree.Tree.{Body, Directory, RegularFile, SymbolicLink, ProcessDirectory, body, body_is, entry, above as node_above}
use Rattle.law_walks.specs.kr_view.declared.procs.Lead.{Lead}
use Rattle.law_walks.specs.kr_view.declared.procs.Lead.TheVariants.{Text, Jump, Nameless, NoLink}
use Rattle.law_walks.specs.kr_view.View.{node_in, down, up, is_root_place}
use Rattle.law_walks.specs.kr_view.Component.{Surroundings, SeenPlace, is_process_directory, is_directory_at, may_search, shows_directory, seen_body, landing, seen_link, seen_at, above_body, above_node, is_shown, above_process, above_host, seen_in_processes, seen_entry, is_processes, in_node, through_point, named_in, too_long, inside, look_up}

module _ (around : Surroundings) where
  abbrev pub IsLanding : Landing (Place ℕ) (Place ℕ) → Type 0
  IsLanding l = (p : Place ℕ) × (dir : ℕ) × (name : List ℕ) × (l ≡ landing around.space p dir name)

  abbrev LeadsSo : Option (Landing (Place ℕ) (Place ℕ)) → Type 0
  LeadsSo None = Unit {0}
  LeadsSo (Some l) = IsLanding l

  -- whatever is seen that leads somewhere
  abbrev SeesSo : SeenPlace → Type 0
  SeesSo (Fails e) = Unit {0}
  SeesSo Missing = Unit {0}
  SeesSo (Leads is_dir q f) = Unit {0}
  SeesSo (Links f text) = Unit {0}
  SeesSo (Jumps f lead) = LeadsSo lead

  either_way : (b : Bool) (x y : SeenPlace) → SeesSo x → SeesSo y → SeesSo (if b then x else y)
  either_way true x y p q = p
  either_way false x y p q = q

  lands_link : (p : Place ℕ) (lead : Lead ℕ) → SeesSo (seen_link around.space p lead)
  lands_link p (Text text) = tt
  lands_link p (Jump to dir name) = (to, dir, name, refl)
  lands_link p Nameless = tt
  lands_link p NoLink = tt

  lands_body : (p : Place ℕ) (b : Option Body) → SeesSo (seen_body p b)
  lands_body p None = tt
  lands_body p (Some (Directory entries standing)) = tt
  lands_body p (Some (RegularFile bytes)) = tt
  lands_body p (Some (SymbolicLink text)) = tt
  lands_body p (Some (ProcessDirectory standing)) = tt

  lands_at : (p : Place ℕ) (host : Host) → SeesSo (seen_at around p host)
  lands_at p (Node i) = lands_body p (body around.space.tree i)
  lands_at p (Proc i at) = either_way (is_process_directory at) (shows_directory p) (seen_link around.space p (around.leads at)) tt (lands_link p (around.leads at))

  lands_above_body : (mount : ℕ) (dir : Option ℕ) → SeesSo (above_body mount dir)
  lands_above_body mount None = tt
  lands_above_body mount (Some dir) = tt

  lands_above_node : (mount i : ℕ) (point : Option (Place ℕ)) → SeesSo (above_node around.space mount i point)
  lands_above_node mount i None = lands_above_body mount (node_above around.space.tree i)
  lands_above_node mount i (Some p) = tt

  lands_above_process : (mount i : ℕ) (at : ProcAt) → SeesSo (above_process around.space mount i at)
  lands_above_process mount i SelfLink = tt
  lands_above_process mount i (Dir pid) = either_way (is_shown around.space pid) (shows_directory (node_in mount i)) (Fails ENOENT) tt tt
  lands_above_process mount i (Cwd pid) = tt
  lands_above_process mount i (Root pid) = tt
  lands_above_process mount i (Exe pid) = tt
  lands_above_process mount i (FdDir pid) = either_way (is_shown around.space pid) (shows_directory (record { mount = mount; host = Proc i (Dir pid) })) (Fails ENOENT) tt tt
  lands_above_process mount i (Fd pid fd) = tt

  lands_above_host : (mount : ℕ) (host : Host) → SeesSo (above_host around.space mount host)
  lands_above_host mount (Node i) = lands_above_node mount i (up around.space.table mount i)
  lands_above_host mount (Proc i at) = lands_above_process mount i at

  lands_in_processes : (mount i : ℕ) (found : Option ProcAt) → SeesSo (seen_in_processes around mount i found)
  lands_in_processes mount i None = tt
  lands_in_processes mount i (Some at) = lands_at (record { mount = mount; host = Proc i at }) (Proc i at)

  lands_entry : (mount : ℕ) (found : Option ℕ) → SeesSo (seen_entry around mount found)
  lands_entry mount None = tt
  lands_entry mount (Some i) = lands_at (node_in mount i) (Node i)

  lands_in_node : (mount i : ℕ) (name : List ℕ) → SeesSo (in_node around mount i name)
  lands_in_node mount i name =
      either_way (body_is is_processes around.space.tree i) (seen_in_processes around mount i (around.space.finds None name)) (seen_entry around mount (entry around.space.tree i name))
      (lands_in_processes mount i (around.space.finds None name)) (lands_entry mount (entry around.space.tree i name))

  lands_through : (mount i : ℕ) (name : List ℕ) (source : Option (Place ℕ)) → SeesSo (through_point around mount i name source)
  lands_through mount i name None = lands_in_node mount i name
  lands_through mount i name (Some p) = lands_at p p.host

  lands_named_in : (mount : ℕ) (host : Host) (name : List ℕ) → SeesSo (named_in around mount host name)
  lands_named_in mount (Node i) name = lands_through mount i name (down around.space.table mount i name)
  lands_named_in mount (Proc i at) name = lands_in_processes mount i (around.space.finds (Some at) name)

  lands_inside : (p : Place ℕ) (c : Component) → SeesSo (inside around p c)
  lands_inside p Dot = tt
  lands_inside p DotDot = either_way (is_root_place around.space.table p) (shows_directory p) (above_host around.space p.mount p.host) tt (lands_above_host p.mount p.host)
  lands_inside p (Name name) = either_way (too_long name) (Fails ENAMETOOLONG) (named_in around p.mount p.host name) tt (lands_named_in p.mount p.host name)

  lands_look : (p : Place ℕ) (c : Component) → SeesSo (look_up around p c)
  lands_look p c =
      either_way (is_directory_at around.space.tree p.host) (if may_search around.space.tree around.space.user p.host then inside around p c else Fails EACCES) (Fails ENOTDIR)
      (either_way (may_search around.space.tree around.space.user p.host) (inside around p c) (Fails EACCES) (lands_inside p c) tt) tt

  pub jump_landing : (p : Place ℕ) (c : Component) (f : Place ℕ) (l : Landing (Place ℕ) (Place ℕ)) → look_up around p c ≡ Jumps f (Some l) → IsLanding l
  jump_landing p c f l looked = subst SeesSo looked (lands_look p c)
