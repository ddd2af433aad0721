-- One component, looked at from a place in a view, as path_resolution(7) and proc(5) tell it. The tests
-- stand in this order: the place is a directory, it gives search, the component isn't too long; then
-- `.`, `..`, a mount point, an entry.
use Rattle.std.specs.Prelude.{ℕ, Bool, true, false, List, [], length, Option, Some, None, nat_lt, codes, if◌then◌else◌}
use Rattle.kr_tree.specs.pr_base.Paths.{Component, Dot, DotDot, Name}
use Rattle.kr_tree.specs.pr_base.WalkFrame.{Seen, Fails, Missing, Leads, Links, Jumps, Landing}
use Rattle.kr_tree.specs.pr_base.declared.errno.Errno.TheVariants.{ENOENT, EACCES, ENOTDIR, ENAMETOOLONG}
use Rattle.kr_tree.specs.declared.place.Host.{Host}
use Rattle.kr_tree.specs.declared.place.Host.TheVariants.{Node, Proc}
use Rattle.kr_tree.specs.declared.place.Place.{Place}
use Rattle.kr_tree.specs.declared.place.ProcAt.{ProcAt}
use Rattle.kr_tree.specs.declared.place.ProcAt.TheVariants.{SelfLink, Dir, Cwd, Root, Exe, FdDir, Fd}
use Rattle.kr_tree.specs.kr_inode.declared.user.User.{User}
use Rattle.kr_tree.specs.kr_inode.declared.user.Right.TheVariants.{Search}
use Rattle.kr_tree.specs.Tree.{Tree, Body, Directory, RegularFile, SymbolicLink, ProcessDirectory, body, body_is, entry, above as node_above, is_directory}
use Rattle.kr_tree.specs.Rights.{may}
use Rattle.kr_view.specs.declared.procs.Lead.{Lead}
use Rattle.kr_view.specs.declared.procs.Lead.TheVariants.{Text, Jump, Nameless, NoLink}
use Rattle.kr_view.specs.View.{Row, down, up, node_in, is_root_place, is_there}

-- what a name stands for, by the place in the process directory where it is looked up
abbrev pub Finds : Type 0
Finds = Option ProcAt → List ℕ → Option ProcAt

-- what places and texts stand by: the mounts, the tree, the user, and what the process directory shows to the
-- caller by names
pub record Namespace : Type 0 where
  pub table : List Row
  pub tree : Tree
  pub user : User
  pub finds : Finds

-- what a walk goes through: beside these, where the links of the process directory lead
pub record Surroundings : Type 0 where
  pub space : Namespace
  pub leads : ProcAt → Lead ℕ

abbrev pub SeenPlace : Type 0
SeenPlace = Seen (Place ℕ) (Place ℕ)

-- ---- directories

-- the directories of the process directory; all else in it is a link, whatever it leads to
abbrev pub is_process_directory : ProcAt → Bool
is_process_directory SelfLink = false
is_process_directory (Dir pid) = true
is_process_directory (Cwd pid) = false
is_process_directory (Root pid) = false
is_process_directory (Exe pid) = false
is_process_directory (FdDir pid) = true
is_process_directory (Fd pid fd) = false

-- whether an object is a directory goes by the tree, so it is the same over every view
abbrev pub is_directory_at : Tree → Host → Bool
is_directory_at t (Node i) = body_is is_directory t i
is_directory_at t (Proc i at) = is_process_directory at

-- the directories of the process directory may be searched
abbrev pub may_search : Tree → User → Host → Bool
may_search t user (Node i) = may t user i Search
may_search t user (Proc i at) = true

-- ---- what stands at a place

-- a directory, where a walk goes on
abbrev pub shows_directory : Place ℕ → SeenPlace
shows_directory p = Leads true p p

abbrev pub seen_body : Place ℕ → Option Body → SeenPlace
seen_body p (Some (Directory entries standing)) = shows_directory p
seen_body p (Some (ProcessDirectory standing)) = shows_directory p
seen_body p (Some (RegularFile bytes)) = Leads false p p
seen_body p (Some (SymbolicLink text)) = Links p text
seen_body p None = Missing

-- where a process link leads: to a directory itself, and to a file with the directory and name that its
-- object remembers, in the mount of the place
abbrev pub landing : Namespace → Place ℕ → ℕ → List ℕ → Landing (Place ℕ) (Place ℕ)
landing space p dir name =
    if is_directory_at space.tree p.host then record { place = p; found = p; is_dir = true; dir = p; name = [] }
    else record { place = p; found = p; is_dir = false; dir = node_in p.mount dir; name = name }

abbrev pub seen_link : Namespace → Place ℕ → Lead ℕ → SeenPlace
seen_link space p (Text text) = Links p text
seen_link space p (Jump to dir name) = Jumps p (Some (landing space to dir name))
seen_link space p Nameless = Jumps p None
seen_link space p NoLink = Jumps p None

abbrev pub seen_at : Surroundings → Place ℕ → Host → SeenPlace
seen_at around p (Node i) = seen_body p (body around.space.tree i)
seen_at around p (Proc i at) =
    if is_process_directory at then shows_directory p else seen_link around.space p (around.leads at)

-- ---- `..`

abbrev pub above_body : ℕ → Option ℕ → SeenPlace
above_body mount (Some dir) = shows_directory (node_in mount dir)
above_body mount None = Fails ENOENT

-- above the source of a mount stands the directory of its mount point; above another directory the one
-- in which it is an entry, and above a removed one nothing
abbrev pub above_node : Namespace → ℕ → ℕ → Option (Place ℕ) → SeenPlace
above_node space mount i (Some p) = shows_directory p
above_node space mount i None = above_body mount (node_above space.tree i)

-- whether a process is still shown; the directories of one that ended were removed
abbrev pub is_shown : Namespace → ℕ → Bool
is_shown space pid = is_there (space.finds (Some (Dir pid)) (codes "cwd"))

abbrev pub above_process : Namespace → ℕ → ℕ → ProcAt → SeenPlace
above_process space mount i (Dir pid) =
    if is_shown space pid then shows_directory (node_in mount i) else Fails ENOENT
above_process space mount i (FdDir pid) =
    if is_shown space pid then shows_directory (record { mount = mount; host = Proc i (Dir pid) }) else Fails ENOENT
-- from the links nothing is looked at, since they are no directories
above_process space mount i SelfLink = Fails ENOTDIR
above_process space mount i (Cwd pid) = Fails ENOTDIR
above_process space mount i (Root pid) = Fails ENOTDIR
above_process space mount i (Exe pid) = Fails ENOTDIR
above_process space mount i (Fd pid fd) = Fails ENOTDIR

abbrev pub above_host : Namespace → ℕ → Host → SeenPlace
above_host space mount (Node i) = above_node space mount i (up space.table mount i)
above_host space mount (Proc i at) = above_process space mount i at

-- `..` at the root place stays there
abbrev pub above : Namespace → Place ℕ → SeenPlace
above space p = if is_root_place space.table p then shows_directory p else above_host space p.mount p.host

-- ---- a name

-- what stands in the process directory of an inode
abbrev pub seen_in_processes : Surroundings → ℕ → ℕ → Option ProcAt → SeenPlace
seen_in_processes around mount i (Some at) = seen_at around (record { mount = mount; host = Proc i at }) (Proc i at)
seen_in_processes around mount i None = Missing

abbrev pub seen_entry : Surroundings → ℕ → Option ℕ → SeenPlace
seen_entry around mount (Some i) = seen_at around (node_in mount i) (Node i)
seen_entry around mount None = Missing

abbrev pub is_processes : Body → Bool
is_processes (Directory entries standing) = false
is_processes (RegularFile bytes) = false
is_processes (SymbolicLink text) = false
is_processes (ProcessDirectory standing) = true

abbrev pub in_node : Surroundings → ℕ → ℕ → List ℕ → SeenPlace
in_node around mount i name =
    if body_is is_processes around.space.tree i then seen_in_processes around mount i (around.space.finds None name)
    else seen_entry around mount (entry around.space.tree i name)

-- a name at which a mount stands enters its source
abbrev pub through_point : Surroundings → ℕ → ℕ → List ℕ → Option (Place ℕ) → SeenPlace
through_point around mount i name (Some p) = seen_at around p p.host
through_point around mount i name None = in_node around mount i name

abbrev pub named_in : Surroundings → ℕ → Host → List ℕ → SeenPlace
named_in around mount (Node i) name = through_point around mount i name (down around.space.table mount i name)
named_in around mount (Proc i at) name = seen_in_processes around mount i (around.space.finds (Some at) name)

abbrev pub too_long : List ℕ → Bool
too_long name = nat_lt 255 (length name)

abbrev pub named : Surroundings → Place ℕ → List ℕ → SeenPlace
named around p name = if too_long name then Fails ENAMETOOLONG else named_in around p.mount p.host name

-- ---- one component

-- in a directory that may be searched
abbrev pub inside : Surroundings → Place ℕ → Component → SeenPlace
inside around p Dot = shows_directory p
inside around p DotDot = above around.space p
inside around p (Name name) = named around p name

abbrev pub look_up : Surroundings → Place ℕ → Component → SeenPlace
look_up around p c =
    if is_directory_at around.space.tree p.host then (if may_search around.space.tree around.space.user p.host then inside around p c else Fails EACCES)
    else Fails ENOTDIR

-- ---- what a look-up touches

abbrev pub in_processes : Namespace → Host → Bool
in_processes space (Node i) = body_is is_processes space.tree i
in_processes space (Proc i at) = true

-- whether a component is looked up among entries: a name that isn't too long
abbrev pub is_looked_up : Component → Bool
is_looked_up Dot = false
is_looked_up DotDot = false
is_looked_up (Name name) = if too_long name then false else true

-- whether a look-up comes to look up a name in the process directory or below it
abbrev pub meets_processes : Namespace → Place ℕ → Component → Bool
meets_processes space p c =
    if is_directory_at space.tree p.host then (if may_search space.tree space.user p.host then (if is_looked_up c then in_processes space p.host else false) else false)
    else false
