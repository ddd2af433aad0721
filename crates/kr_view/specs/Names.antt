-- Names of places. The host name of a directory is the tree's; another object has one by how a walk came
-- to it: the entry, the directory and name at which a mount's source was found, or what a process link
-- carries. The guest name of a place is the location of its mount, followed by the names from the
-- mount's source down to the place; that of the source itself is the location.
use Rattle.std.specs.Prelude.{ℕ, Bool, false, List, ◌++◌, Option, Some, None, nat_eq, if◌then◌else◌}
use Rattle.std.specs.Option.{option_map, option_and_then}
use Rattle.std.specs.List.{position}
use Rattle.kr_tree.specs.pr_base.Paths.{Component, Dot, DotDot, Name}
use Rattle.kr_tree.specs.pr_base.WalkFrame.{Fails, Missing, Leads, Links, Jumps, Landing}
pub use Rattle.kr_tree.specs.pr_base.Texts.{Text, below, names_below}
use Rattle.kr_tree.specs.declared.place.Host.{Host}
use Rattle.kr_tree.specs.declared.place.Host.TheVariants.{Node, Proc}
use Rattle.kr_tree.specs.declared.place.Place.{Place}
use Rattle.kr_tree.specs.declared.place.ProcAt.{ProcAt}
use Rattle.kr_tree.specs.declared.place.ProcAt.TheVariants.{SelfLink, Dir, Cwd, Root, Exe, FdDir, Fd}
use Rattle.kr_tree.specs.Tree.{Tree, body_is, is_directory}
use Rattle.kr_tree.specs.Names.{host_name, process_names}
use Rattle.kr_view.specs.View.{Row, row, is_point, stands_at, source_entry}
use Rattle.kr_view.specs.Component.{Namespace, SeenPlace, is_process_directory, is_directory_at, is_shown, is_processes, above}

-- ---- host names

-- what stands in the process directory, by the name of that
abbrev pub process_name : ProcAt → Option Text → Option Text
process_name at top = option_map (λ names. process_names at ++ names) top

-- a directory of a process that ended was removed
abbrev pub shown_process_name : Namespace → ℕ → ProcAt → Option Text → Option Text
shown_process_name space pid at top = if is_shown space pid then process_name at top else None

-- an object of the process directory
abbrev pub process_object_name : Namespace → ProcAt → Option Text → Option Text
process_object_name space SelfLink top = process_name SelfLink top
process_object_name space (Dir pid) top = shown_process_name space pid (Dir pid) top
process_object_name space (Cwd pid) top = process_name (Cwd pid) top
process_object_name space (Root pid) top = process_name (Root pid) top
process_object_name space (Exe pid) top = process_name (Exe pid) top
process_object_name space (FdDir pid) top = shown_process_name space pid (FdDir pid) top
process_object_name space (Fd pid fd) top = process_name (Fd pid fd) top

-- the host name of a directory, which an inode that is none hasn't, nor one that was removed; and of
-- what stands in the process directory
abbrev pub directory_name : Namespace → Host → Option Text
directory_name space (Node i) = host_name space.tree i
directory_name space (Proc i at) = process_object_name space at (host_name space.tree i)

-- ---- the host name of what a component shows

abbrev pub source_entry_name : Namespace → ℕ → Option (ℕ × List ℕ) → Option Text
source_entry_name space source (Some e) = below e.1 (host_name space.tree e.0)
source_entry_name space source None = host_name space.tree source

-- the source of a mount: a directory by the tree, another as it was settled
abbrev pub source_name : Namespace → Row → Option Text
source_name space r = source_entry_name space r.source (source_entry r)

abbrev pub found_process_name : Namespace → ℕ → Option ProcAt → Option Text
found_process_name space i (Some at) = process_object_name space at (host_name space.tree i)
found_process_name space i None = None

-- an entry
abbrev pub node_entry_name : Namespace → ℕ → List ℕ → Option Text
node_entry_name space i name =
    if body_is is_processes space.tree i then found_process_name space i (space.finds None name)
    else below name (host_name space.tree i)

abbrev pub point_name : Namespace → ℕ → List ℕ → Option Row → Option Text
point_name space i name (Some r) = source_name space r
point_name space i name None = node_entry_name space i name

-- the row whose mount stands at a name
abbrev pub row_at : List Row → ℕ → ℕ → List ℕ → Option Row
row_at table mount i name = option_and_then (row table) (position (stands_at (is_point mount i name)) table)

abbrev pub named_name : Namespace → ℕ → Host → List ℕ → Option Text
named_name space mount (Node i) name = point_name space i name (row_at space.table mount i name)
named_name space mount (Proc i at) name = found_process_name space i (space.finds (Some at) name)

-- the name of the directory that a look-up led to
abbrev pub led_to_name : Namespace → SeenPlace → Option Text
led_to_name space (Leads is_dir p found) = directory_name space p.host
led_to_name space (Fails e) = None
led_to_name space Missing = None
led_to_name space (Links found text) = None
led_to_name space (Jumps found lead) = None

abbrev pub component_name : Namespace → Place ℕ → Component → Option Text
component_name space p Dot = directory_name space p.host
component_name space p DotDot = led_to_name space (above space p)
component_name space p (Name name) = named_name space p.mount p.host name

-- a free name of a directory
abbrev pub free_name : Namespace → Host → List ℕ → Option Text
free_name space dir name = below name (directory_name space dir)

-- an entry itself, whatever is shown in its place: a mount point has a name beside that of the source
abbrev pub entry_name : Namespace → Host → Component → Option Text
entry_name space dir Dot = None
entry_name space dir DotDot = None
entry_name space dir (Name name) = free_name space dir name

-- what a process link leads to: a directory by the tree, a file as its object remembers it
abbrev pub landing_name : Namespace → Landing (Place ℕ) (Place ℕ) → Option Text
landing_name space landing =
    if landing.is_dir then directory_name space landing.found.host
    else free_name space landing.dir.host landing.name

-- ---- guest names

-- the names from one directory of the tree down to another; none where that doesn't stand at or below it
abbrev pub names_down : Tree → ℕ → ℕ → Option Text
names_down t top dir = option_and_then (λ high. option_and_then (names_below high) (host_name t dir)) (host_name t top)

-- a directory of the tree, seen in a mount: the location, and the names from the source down
abbrev pub guest_directory : Tree → Option Row → ℕ → Option Text
guest_directory t (Some r) i = option_map (λ names. names ++ r.text.location) (names_down t r.source i)
guest_directory t None i = None

-- the directory and name of an entry, as a file remembers it; none where it remembers none
abbrev pub Remembered : Type 0
Remembered = Option (ℕ × List ℕ)

-- what is no directory has the names of the entry that it remembers, on the host and for a guest
abbrev pub host_entry : Tree → Remembered → Option Text
host_entry t (Some e) = below e.1 (host_name t e.0)
host_entry t None = None

abbrev pub guest_entry : Tree → Option Row → Remembered → Option Text
guest_entry t r (Some e) = below e.1 (guest_directory t r e.0)
guest_entry t r None = None

-- whether an inode is the source of a mount and no directory
abbrev pub is_file_source : Option Row → ℕ → Bool
is_file_source (Some r) i = if r.is_dir then false else nat_eq r.source i
is_file_source None i = false

-- an inode below the source of a mount
abbrev pub guest_below : Tree → Option Row → ℕ → Remembered → Option Text
guest_below t r i remembered = if body_is is_directory t i then guest_directory t r i else guest_entry t r remembered

-- the source of a mount that is no directory goes by the place: it is called by the location, whatever its own
-- name is now; but without one it has no guest name, either
abbrev pub guest_source : Option Row → Remembered → Option Text
guest_source r (Some e) = option_map (λ r. r.text.location) r
guest_source r None = None

-- an inode, seen in a mount
abbrev pub guest_node : Tree → Option Row → ℕ → Remembered → Option Text
guest_node t r i remembered = if is_file_source r i then guest_source r remembered else guest_below t r i remembered

-- what stands in the process directory
abbrev pub guest_process : Namespace → Option Row → ℕ → ProcAt → Remembered → Option Text
guest_process space r i at remembered =
    if is_process_directory at then process_object_name space at (guest_directory space.tree r i) else guest_entry space.tree r remembered

abbrev pub guest_object : Namespace → Option Row → Host → Remembered → Option Text
guest_object space r (Node i) remembered = guest_node space.tree r i remembered
guest_object space r (Proc i at) remembered = guest_process space r i at remembered

-- the guest name of a place, whose object remembers an entry where it is no directory
abbrev pub guest_name : Namespace → Place ℕ → Remembered → Option Text
guest_name space p remembered = guest_object space (row space.table p.mount) p.host remembered

-- its host name
abbrev pub object_name : Namespace → Host → Remembered → Option Text
object_name space host remembered = if is_directory_at space.tree host then directory_name space host else host_entry space.tree remembered
