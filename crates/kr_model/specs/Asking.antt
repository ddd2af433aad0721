-- What the rows of several calls ask, each in one place.
use Rattle.std.specs.Prelude.{ℕ, ◌+◌, ◌-◌, ◌==◌, ◌&&◌, ◌||◌, Bool, true, false, not, nat_lt, nat_le, Option, Some, None, ℤ, pos, negsuc, if◌then◌else◌}
use Rattle.std.specs.Int.RustNames.{bit_and}
use Rattle.std.specs.List.{list_any}
use Rattle.std.specs.Option.{option_map_or}
use Rattle.kr_calls.specs.pr_base.declared.errno.Errno.TheVariants.{ENOENT, EBADF, EACCES, ENOTDIR}
use Rattle.kr_files.specs.kr_inode.declared.user.Right.TheVariants.{Write, Search}
use Rattle.kr_files.specs.kr_tree.Tree.{Node, Body, Directory, RegularFile, SymbolicLink, ProcessDirectory, is_directory}
use Rattle.kr_files.specs.kr_tree.Rights.{allows}
use Rattle.kr_files.specs.kr_tree.Changes.{byte_limit, count_limit}
use Rattle.kr_files.specs.kr_tree.declared.place.Host.{Host}
use Rattle.kr_files.specs.kr_tree.declared.place.Host.TheVariants as host
use Rattle.kr_files.specs.kr_tree.declared.place.ProcAt.{ProcAt}
use Rattle.kr_files.specs.kr_tree.declared.place.ProcAt.TheVariants.{SelfLink, Dir, Cwd, Root, Exe, FdDir, Fd}
use Rattle.kr_procfs.specs.kr_view.Component.{is_process_directory}
use Rattle.kr_files.specs.declared.opened.Opened.{Opened}
use Rattle.kr_model.specs.Known.{Known, known_node}
use Rattle.kr_model.specs.Reply.{Replying, refuse}

-- ---- descriptors

-- the number of a descriptor, which isn't negative
abbrev pub descriptor_number : ℤ → Option ℕ
descriptor_number (pos n) = Some n
descriptor_number (negsuc m) = None

abbrev pub or_closed : Option (Opened (Unit {0})) → (Opened (Unit {0}) → Replying) → Replying
or_closed None next = refuse EBADF
or_closed (Some o) next = next o

abbrev pub of_number : Known → Option ℕ → (ℕ → Opened (Unit {0}) → Replying) → Replying
of_number k None next = refuse EBADF
of_number k (Some fd) next = or_closed (k.opened fd) (next fd)

-- EBADF, or what follows for an open descriptor of the caller
abbrev pub or_badf : Known → ℤ → (ℕ → Opened (Unit {0}) → Replying) → Replying
or_badf k fd next = of_number k (descriptor_number fd) next

-- AT_FDCWD
abbrev pub is_working_directory : ℤ → Bool
is_working_directory (pos n) = false
is_working_directory (negsuc n) = n == 99

-- ---- objects

-- two objects of the process directory
abbrev pub same_at : ProcAt → ProcAt → Bool
same_at SelfLink SelfLink = true
same_at (Dir p) (Dir q) = p == q
same_at (Cwd p) (Cwd q) = p == q
same_at (Root p) (Root q) = p == q
same_at (Exe p) (Exe q) = p == q
same_at (FdDir p) (FdDir q) = p == q
same_at (Fd p f) (Fd q g) = p == q && f == g
same_at _ _ = false

abbrev pub same_host : Host → Host → Bool
same_host (host.Node i) (host.Node j) = i == j
same_host (host.Proc i at) (host.Proc j to) = i == j && same_at at to
same_host _ _ = false

-- what a test of bodies says of a node, and nothing where there is none
abbrev pub body_passes : (Body → Bool) → Known → ℕ → Bool
body_passes test k i = option_map_or (λ n. test n.body) (known_node k i) false

-- whether an object is a directory: a directory of the tree, the process directory, or one in it
abbrev pub is_directory_host : Known → Host → Bool
is_directory_host k (host.Node i) = body_passes is_directory k i
is_directory_host k (host.Proc i at) = is_process_directory at

-- whether it is a process directory itself, whose name counts as covered
abbrev pub is_processes : Body → Bool
is_processes (Directory entries standing) = false
is_processes (RegularFile bytes) = false
is_processes (SymbolicLink text) = false
is_processes (ProcessDirectory standing) = true

abbrev pub is_processes_host : Known → Host → Bool
is_processes_host k (host.Node i) = body_passes is_processes k i
is_processes_host k (host.Proc i at) = false

-- whether the user may search a directory; those in the process directory are the user's and may be searched
abbrev pub is_searched : Known → Host → Bool
is_searched k (host.Node i) = option_map_or (λ n. allows k.user n Search) (known_node k i) false
is_searched k (host.Proc i at) = true

-- ---- processes

abbrev pub lives : Known → ℕ → Bool
lives k pid = list_any (λ p. p.pid == pid) k.living

-- the process to which an object of the process directory belongs; `self` belongs to none
abbrev pub process_of : ProcAt → Option ℕ
process_of SelfLink = None
process_of (Dir pid) = Some pid
process_of (Cwd pid) = Some pid
process_of (Root pid) = Some pid
process_of (Exe pid) = Some pid
process_of (FdDir pid) = Some pid
process_of (Fd pid fd) = Some pid

-- whether it went with its process
abbrev pub is_over : Known → ProcAt → Bool
is_over k at = option_map_or (λ pid. not (lives k pid)) (process_of at) false

-- ---- directories to be changed

-- a removed directory is ENOENT, one without write or search EACCES. Nobody may write to the process
-- directory and to those in it
abbrev pub unless_refused : Known → Node → Replying → Replying
unless_refused k n next = if allows k.user n Write && allows k.user n Search then next else refuse EACCES

abbrev pub writable_body : Known → Node → Body → Replying → Replying
writable_body k n (Directory entries None) next = refuse ENOENT
writable_body k n (Directory entries (Some standing)) next = unless_refused k n next
writable_body k n (RegularFile bytes) next = refuse ENOTDIR
writable_body k n (SymbolicLink text) next = refuse ENOTDIR
writable_body k n (ProcessDirectory standing) next = refuse EACCES

abbrev pub writable_node : Known → Option Node → (Node → Replying) → Replying
writable_node k None next = refuse ENOENT
writable_node k (Some n) next = writable_body k n n.body (next n)

-- a directory to which the user may write: what follows is told its inode and its node
abbrev pub writable : Known → Host → (ℕ → Node → Replying) → Replying
writable k (host.Node i) next = writable_node k (known_node k i) (next i)
writable k (host.Proc i at) next = if is_over k at then refuse ENOENT else refuse EACCES

-- ---- room in the tree

-- no room for one inode more, with a name and `size` bytes
abbrev pub has_no_room : ℕ → Known → Bool
has_no_room size k = nat_le count_limit k.sizes.inodes || nat_le count_limit k.sizes.names || nat_lt byte_limit (k.sizes.bytes + size)

-- no room for one name more
abbrev pub has_no_name_left : Known → Bool
has_no_name_left k = nat_le count_limit k.sizes.names

-- no room for a file of `new` bytes in place of those that it has
abbrev pub has_no_room_for : (old new : ℕ) → Known → Bool
has_no_room_for old new k = nat_lt byte_limit (k.sizes.bytes - old + new)

-- the bits of a mode that the caller's mask lets through, of the twelve that there are
abbrev pub unmasked : Known → ℕ → ℕ
unmasked k mode = bit_and mode (0xfff - k.caller.umask)
