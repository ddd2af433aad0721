-- A directory to which a link of the process directory leads is its own.
use Rattle.std.proofs.Common.{◌≡◌, ℕ, Bool, true, false, List, [], Option, Some, None, refl, subst}
use Rattle.std.specs.Bool.{if◌then◌else◌}
use Rattle.kr_tree.specs.pr_base.Paths.{Component, Dot, DotDot, Name}
use Rattle.kr_tree.specs.pr_base.WalkFrame.{Fails, Missing, Leads, Links, Jumps, Landing}
use Rattle.kr_tree.specs.pr_base.declared.errno.Errno.TheVariants.{ENOENT, EACCES, ENOTDIR, ENAMETOOLONG}
use Rattle.kr_tree.specs.declared.place.Host.{Host}
use Rattle.kr_tree.specs.declared.place.Host.TheVariants.{Node, Proc}
use Rattle.kr_tree.specs.declared.place.Place.{Place}
use Rattle.kr_tree.specs.declared.place.ProcAt.{ProcAt}
use Rattle.kr_tree.specs.declared.place.ProcAt.TheVariants.{SelfLink, Dir, Cwd, Root, Exe, FdDir, Fd}
use Rattle.kr_tree.specs.Tree.{Body, Directory, RegularFile, SymbolicLink, ProcessDirectory, body, body_is, entry, above as node_above}
use Rattle.kr_view.specs.declared.procs.Lead.{Lead}
use Rattle.kr_view.specs.declared.procs.Lead.TheVariants.{Text, Jump, Nameless, NoLink}
use Rattle.kr_view.specs.View.{node_in, down, up, is_root_place}
use Rattle.kr_view.specs.Component.{Surroundings, SeenPlace, is_process_directory, is_directory_at, may_search, shows_directory, seen_body, landing, seen_link, seen_at, above_body, above_node, is_shown, above_process, above_host, seen_in_processes, seen_entry, is_processes, in_node, through_point, named_in, too_long, inside, look_up}

module _ (around : Surroundings) where
  abbrev pub IsOwn : Landing (Place ℕ) (Place ℕ) → Type 0
  IsOwn l = is_directory_at around.space.tree l.found.host ≡ true → l.dir ≡ l.found

  abbrev LeadsOwn : Option (Landing (Place ℕ) (Place ℕ)) → Type 0
  LeadsOwn None = Unit {0}
  LeadsOwn (Some l) = IsOwn l

  -- whatever is seen that leads to a directory
  abbrev SeesOwn : SeenPlace → Type 0
  SeesOwn (Fails e) = Unit {0}
  SeesOwn Missing = Unit {0}
  SeesOwn (Leads is_dir q f) = Unit {0}
  SeesOwn (Links f text) = Unit {0}
  SeesOwn (Jumps f lead) = LeadsOwn lead

  either_way : (b : Bool) (x y : SeenPlace) → SeesOwn x → SeesOwn y → SeesOwn (if b then x else y)
  either_way true x y p q = p
  either_way false x y p q = q

  own_landing : (p : Place ℕ) (dir : ℕ) (name : List ℕ) → IsOwn (landing around.space p dir name)
  own_landing p dir name = at (is_directory_at around.space.tree p.host) refl
    where
      at : (b : Bool) → is_directory_at around.space.tree p.host ≡ b
          → IsOwn (if b then record { place = p; found = p; is_dir = true; dir = p; name = [] } else record { place = p; found = p; is_dir = false; dir = node_in p.mount dir; name = name })
      at true is directory = refl
      at false is directory = absurd cc

  own_link : (p : Place ℕ) (lead : Lead ℕ) → SeesOwn (seen_link around.space p lead)
  own_link p (Text text) = tt
  own_link p (Jump to dir name) = own_landing to dir name
  own_link p Nameless = tt
  own_link p NoLink = tt

  own_body : (p : Place ℕ) (b : Option Body) → SeesOwn (seen_body p b)
  own_body p None = tt
  own_body p (Some (Directory entries standing)) = tt
  own_body p (Some (RegularFile bytes)) = tt
  own_body p (Some (SymbolicLink text)) = tt
  own_body p (Some (ProcessDirectory standing)) = tt

  own_at : (p : Place ℕ) (host : Host) → SeesOwn (seen_at around p host)
  own_at p (Node i) = own_body p (body around.space.tree i)
  own_at p (Proc i at) = either_way (is_process_directory at) (shows_directory p) (seen_link around.space p (around.leads at)) tt (own_link p (around.leads at))

  own_above_body : (mount : ℕ) (dir : Option ℕ) → SeesOwn (above_body mount dir)
  own_above_body mount None = tt
  own_above_body mount (Some dir) = tt

  own_above_node : (mount i : ℕ) (point : Option (Place ℕ)) → SeesOwn (above_node around.space mount i point)
  own_above_node mount i None = own_above_body mount (node_above around.space.tree i)
  own_above_node mount i (Some p) = tt

  own_above_process : (mount i : ℕ) (at : ProcAt) → SeesOwn (above_process around.space mount i at)
  own_above_process mount i SelfLink = tt
  own_above_process mount i (Dir pid) = either_way (is_shown around.space pid) (shows_directory (node_in mount i)) (Fails ENOENT) tt tt
  own_above_process mount i (Cwd pid) = tt
  own_above_process mount i (Root pid) = tt
  own_above_process mount i (Exe pid) = tt
  own_above_process mount i (FdDir pid) = either_way (is_shown around.space pid) (shows_directory (record { mount = mount; host = Proc i (Dir pid) })) (Fails ENOENT) tt tt
  own_above_process mount i (Fd pid fd) = tt

  own_above_host : (mount : ℕ) (host : Host) → SeesOwn (above_host around.space mount host)
  own_above_host mount (Node i) = own_above_node mount i (up around.space.table mount i)
  own_above_host mount (Proc i at) = own_above_process mount i at

  own_in_processes : (mount i : ℕ) (found : Option ProcAt) → SeesOwn (seen_in_processes around mount i found)
  own_in_processes mount i None = tt
  own_in_processes mount i (Some at) = own_at (record { mount = mount; host = Proc i at }) (Proc i at)

  own_entry : (mount : ℕ) (found : Option ℕ) → SeesOwn (seen_entry around mount found)
  own_entry mount None = tt
  own_entry mount (Some i) = own_at (node_in mount i) (Node i)

  own_in_node : (mount i : ℕ) (name : List ℕ) → SeesOwn (in_node around mount i name)
  own_in_node mount i name =
      either_way (body_is is_processes around.space.tree i) (seen_in_processes around mount i (around.space.finds None name)) (seen_entry around mount (entry around.space.tree i name))
      (own_in_processes mount i (around.space.finds None name)) (own_entry mount (entry around.space.tree i name))

  own_through : (mount i : ℕ) (name : List ℕ) (source : Option (Place ℕ)) → SeesOwn (through_point around mount i name source)
  own_through mount i name None = own_in_node mount i name
  own_through mount i name (Some p) = own_at p p.host

  own_named_in : (mount : ℕ) (host : Host) (name : List ℕ) → SeesOwn (named_in around mount host name)
  own_named_in mount (Node i) name = own_through mount i name (down around.space.table mount i name)
  own_named_in mount (Proc i at) name = own_in_processes mount i (around.space.finds (Some at) name)

  own_inside : (p : Place ℕ) (c : Component) → SeesOwn (inside around p c)
  own_inside p Dot = tt
  own_inside p DotDot = either_way (is_root_place around.space.table p) (shows_directory p) (above_host around.space p.mount p.host) tt (own_above_host p.mount p.host)
  own_inside p (Name name) = either_way (too_long name) (Fails ENAMETOOLONG) (named_in around p.mount p.host name) tt (own_named_in p.mount p.host name)

  own_look : (p : Place ℕ) (c : Component) → SeesOwn (look_up around p c)
  own_look p c =
      either_way (is_directory_at around.space.tree p.host) (if may_search around.space.tree around.space.user p.host then inside around p c else Fails EACCES) (Fails ENOTDIR)
      (either_way (may_search around.space.tree around.space.user p.host) (inside around p c) (Fails EACCES) (own_inside p c) tt) tt

  pub jumped_own : (p : Place ℕ) (c : Component) (f : Place ℕ) (l : Landing (Place ℕ) (Place ℕ)) → look_up around p c ≡ Jumps f (Some l) → IsOwn l
  jumped_own p c f l looked = subst SeesOwn looked (own_look p c)
