-- The texts of the links that a walk follows are those of links of the tree and of the process directory, and where they jump is
-- where those of the process directory lead.
use Rattle.std.proofs.Common.{◌≡◌, ℕ, Bool, true, false, List, Option, Some, None, refl, subst}
use Rattle.std.specs.Bool.{if◌then◌else◌}
use Rattle.law_allowed.specs.pr_base.Paths.{Component, Dot, DotDot, Name}
use Rattle.law_allowed.specs.pr_base.WalkFrame.{Fails, Missing, Leads, Links, Jumps, Landing}
use Rattle.law_allowed.specs.pr_base.declared.errno.Errno.TheVariants.{ENOENT, EACCES, ENOTDIR, ENAMETOOLONG}
use Rattle.law_allowed.specs.kr_tree.declared.place.Host.{Host}
use Rattle.law_allowed.specs.kr_tree.declared.place.Host.TheVariants.{Node, Proc}
use Rattle.law_allowed.specs.kr_tree.declared.place.Place.{Place}
use Rattle.law_allowed.specs.kr_tree.declared.place.ProcAt.{ProcAt}
use Rattle.law_allowed.specs.kr_tree.declared.place.ProcAt.TheVariants.{SelfLink, Dir, Cwd, Root, Exe, FdDir, Fd}
use Rattle.law_allowed.specs.kr_tree.Tree.{Body, Directory, RegularFile, SymbolicLink, ProcessDirectory, body, body_is, entry, above as node_above}
use Rattle.law_allowed.specs.kr_view.declared.procs.Lead.{Lead}
use Rattle.law_allowed.specs.kr_view.declared.procs.Lead.TheVariants.{Text, Jump, Nameless, NoLink}
use Rattle.law_allowed.specs.kr_view.View.{node_in, down, up, is_root_place}
use Rattle.law_allowed.specs.kr_view.Component.{Surroundings, SeenPlace, is_process_directory, is_directory_at, may_search, shows_directory, landing, seen_body, seen_link, seen_at, above_body, above_node, is_shown, above_process, above_host, seen_in_processes, seen_entry, is_processes, in_node, through_point, named_in, too_long, inside, look_up}

-- where a link of the process directory leads
abbrev pub LandsAt : Surroundings → Landing (Place ℕ) (Place ℕ) → Type 0
LandsAt around l = (at : ProcAt) × (to : Place ℕ) × (dir : ℕ) × (name : List ℕ) × (around.leads at ≡ Jump to dir name) × (l ≡ landing around.space to dir name)

-- `IsGood` is what holds of the texts of links
module _ (around : Surroundings) (IsGood : List ℕ → Type 0) (links : (i : ℕ) (text : List ℕ) → body around.space.tree i ≡ Some (SymbolicLink text) → IsGood text)
    (texts : (at : ProcAt) (text : List ℕ) → around.leads at ≡ Text text → IsGood text) where
  abbrev Sees : SeenPlace → Type 0
  Sees (Fails e) = Unit {0}
  Sees Missing = Unit {0}
  Sees (Leads is_dir q f) = Unit {0}
  Sees (Links f text) = IsGood text
  Sees (Jumps f None) = Unit {0}
  Sees (Jumps f (Some l)) = LandsAt around l

  either : (b : Bool) (x y : SeenPlace) → Sees x → Sees y → Sees (if b then x else y)
  either true x y p q = p
  either false x y p q = q

  sees_body : (p : Place ℕ) (i : ℕ) (b : Option Body) → body around.space.tree i ≡ b → Sees (seen_body p b)
  sees_body p i None is = tt
  sees_body p i (Some (Directory entries standing)) is = tt
  sees_body p i (Some (RegularFile bytes)) is = tt
  sees_body p i (Some (SymbolicLink text)) is = links i text is
  sees_body p i (Some (ProcessDirectory standing)) is = tt

  sees_link : (p : Place ℕ) (at : ProcAt) (lead : Lead ℕ) → around.leads at ≡ lead → Sees (seen_link around.space p lead)
  sees_link p at (Text text) is = texts at text is
  sees_link p at (Jump to dir name) is = (at, to, dir, name, is, refl)
  sees_link p at Nameless is = tt
  sees_link p at NoLink is = tt

  sees_at : (p : Place ℕ) (host : Host) → Sees (seen_at around p host)
  sees_at p (Node i) = sees_body p i (body around.space.tree i) refl
  sees_at p (Proc i at) = either (is_process_directory at) (shows_directory p) (seen_link around.space p (around.leads at)) tt (sees_link p at (around.leads at) refl)

  sees_above_body : (mount : ℕ) (dir : Option ℕ) → Sees (above_body mount dir)
  sees_above_body mount None = tt
  sees_above_body mount (Some dir) = tt

  sees_above_node : (mount i : ℕ) (point : Option (Place ℕ)) → Sees (above_node around.space mount i point)
  sees_above_node mount i None = sees_above_body mount (node_above around.space.tree i)
  sees_above_node mount i (Some p) = tt

  sees_above_process : (mount i : ℕ) (at : ProcAt) → Sees (above_process around.space mount i at)
  sees_above_process mount i SelfLink = tt
  sees_above_process mount i (Dir pid) = either (is_shown around.space pid) (shows_directory (node_in mount i)) (Fails ENOENT) tt tt
  sees_above_process mount i (Cwd pid) = tt
  sees_above_process mount i (Root pid) = tt
  sees_above_process mount i (Exe pid) = tt
  sees_above_process mount i (FdDir pid) = either (is_shown around.space pid) (shows_directory (record { mount = mount; host = Proc i (Dir pid) })) (Fails ENOENT) tt tt
  sees_above_process mount i (Fd pid fd) = tt

  sees_above_host : (mount : ℕ) (host : Host) → Sees (above_host around.space mount host)
  sees_above_host mount (Node i) = sees_above_node mount i (up around.space.table mount i)
  sees_above_host mount (Proc i at) = sees_above_process mount i at

  sees_in_processes : (mount i : ℕ) (found : Option ProcAt) → Sees (seen_in_processes around mount i found)
  sees_in_processes mount i None = tt
  sees_in_processes mount i (Some at) = sees_at (record { mount = mount; host = Proc i at }) (Proc i at)

  sees_entry : (mount : ℕ) (found : Option ℕ) → Sees (seen_entry around mount found)
  sees_entry mount None = tt
  sees_entry mount (Some i) = sees_at (node_in mount i) (Node i)

  sees_in_node : (mount i : ℕ) (name : List ℕ) → Sees (in_node around mount i name)
  sees_in_node mount i name =
      either (body_is is_processes around.space.tree i) (seen_in_processes around mount i (around.space.finds None name)) (seen_entry around mount (entry around.space.tree i name))
      (sees_in_processes mount i (around.space.finds None name)) (sees_entry mount (entry around.space.tree i name))

  sees_through : (mount i : ℕ) (name : List ℕ) (source : Option (Place ℕ)) → Sees (through_point around mount i name source)
  sees_through mount i name None = sees_in_node mount i name
  sees_through mount i name (Some p) = sees_at p p.host

  sees_named_in : (mount : ℕ) (host : Host) (name : List ℕ) → Sees (named_in around mount host name)
  sees_named_in mount (Node i) name = sees_through mount i name (down around.space.table mount i name)
  sees_named_in mount (Proc i at) name = sees_in_processes mount i (around.space.finds (Some at) name)

  sees_inside : (p : Place ℕ) (c : Component) → Sees (inside around p c)
  sees_inside p Dot = tt
  sees_inside p DotDot = either (is_root_place around.space.table p) (shows_directory p) (above_host around.space p.mount p.host) tt (sees_above_host p.mount p.host)
  sees_inside p (Name name) = either (too_long name) (Fails ENAMETOOLONG) (named_in around p.mount p.host name) tt (sees_named_in p.mount p.host name)

  sees_look : (p : Place ℕ) (c : Component) → Sees (look_up around p c)
  sees_look p c =
      either (is_directory_at around.space.tree p.host) (if may_search around.space.tree around.space.user p.host then inside around p c else Fails EACCES) (Fails ENOTDIR)
      (either (may_search around.space.tree around.space.user p.host) (inside around p c) (Fails EACCES) (sees_inside p c) tt) tt

  pub link_text : (p : Place ℕ) (c : Component) (f : Place ℕ) (text : List ℕ) → look_up around p c ≡ Links f text → IsGood text
  link_text p c f text looked = subst Sees looked (sees_look p c)

-- whatever texts are
pub link_lands : (around : Surroundings) (p : Place ℕ) (c : Component) (f : Place ℕ) (l : Landing (Place ℕ) (Place ℕ)) → look_up around p c ≡ Jumps f (Some l) → LandsAt around l
link_lands around p c f l looked = let any : List ℕ → Type 0 = λ text. Unit {0} in subst (Sees around any (λ i text is. tt) (λ at text is. tt)) looked (sees_look around any (λ i text is. tt) (λ at text is. tt) p c)
