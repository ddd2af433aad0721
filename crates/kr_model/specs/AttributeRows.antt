-- Calls on the attributes of a file: rights, mode, owner, stat(2) and the text of a link, each in the order of its tests
-- (section 2 of the manual; the order is our own).
use Rattle.std.specs.Prelude.{ℕ, ◌+◌, ◌%◌, ◌==◌, ◌&&◌, ◌||◌, not, Bool, true, false, List, [], ◌∷◌, length, take, Option, Some, None, ℤ, unsigned_abs, if◌then◌else◌}
use Rattle.std.specs.Int.{div_ceil}
use Rattle.std.specs.Option.{option_map_or}
use Rattle.kr_calls.specs.pr_base.declared.errno.Errno.TheVariants.{EPERM, ENOENT, EBADF, EACCES, EFAULT, EINVAL}
use Rattle.kr_calls.specs.rv_mem.Actions.{write_if_allowed}
use Rattle.kr_calls.specs.Arguments.{has}
use Rattle.kr_calls.specs.Stats.{stat_layout}
use Rattle.kr_calls.specs.declared.stat.Stat.{Stat}
use Rattle.kr_files.specs.kr_inode.declared.user.User.{User}
use Rattle.kr_files.specs.kr_inode.declared.user.Right.{Right}
use Rattle.kr_files.specs.kr_inode.declared.user.Right.TheVariants.{Read, Write, Search}
use Rattle.kr_files.specs.kr_tree.Tree.{Node, Body, Directory, RegularFile, SymbolicLink, ProcessDirectory}
use Rattle.kr_files.specs.kr_tree.Rights.{allows}
use Rattle.kr_files.specs.kr_tree.declared.place.Host.{Host}
use Rattle.kr_files.specs.kr_tree.declared.place.Host.TheVariants as host
use Rattle.kr_files.specs.kr_tree.declared.place.ProcAt.{ProcAt}
use Rattle.kr_files.specs.kr_tree.declared.place.ProcAt.TheVariants.{Dir, FdDir}
use Rattle.kr_procfs.specs.kr_view.Component.{is_process_directory}
use Rattle.kr_procfs.specs.Objects.{inode_number}
use Rattle.kr_files.specs.declared.opened.Opened.{Opened}
use Rattle.kr_files.specs.declared.opened.What.{What}
use Rattle.kr_files.specs.declared.opened.What.TheVariants.{File, Dir as DirOpen, In, Out, Err, PipeRead, PipeWrite}
use Rattle.kr_model.specs.Asking.{or_badf, is_working_directory, is_processes, is_over}
use Rattle.kr_model.specs.Change.{Change, SetMode, SetOwner}
use Rattle.kr_model.specs.Known.{Known, Fact, known_node}
use Rattle.kr_model.specs.Reply.{Replying, done, refuse}
use Rattle.kr_model.specs.Seen.{Looked}

-- ---- rights

-- in the process directory: its directories have mode 0555 and its links 0777, all of them the user's
abbrev pub process_allows : ProcAt → Right → Bool
process_allows at Read = true
process_allows at Write = not (is_process_directory at)
process_allows at Search = true

abbrev pub host_allows : Known → Host → Right → Bool
host_allows k (host.Node i) right = option_map_or (λ n. allows k.user n right) (known_node k i) false
host_allows k (host.Proc i at) right = process_allows at right

-- 4 asks to read, 2 to write, 1 to execute or search; 0 asks only whether it is there
abbrev pub gives : Known → Host → ℕ → Bool
gives k at mode =
    (not (has mode 4) || host_allows k at Read) && (not (has mode 2) || host_allows k at Write) && (not (has mode 1) || host_allows k at Search)

-- faccessat(2): EACCES where a right is missing
abbrev pub faccessat_row : Known → Looked → ℕ → Replying
faccessat_row k l mode = if gives k l.host mode then done 0 [] else refuse EACCES

-- ---- the mode

-- EPERM of what another owns, of the process directory and of what is in it; the low twelve bits are kept
abbrev pub chmod_node : Known → ℕ → ℕ → Node → Replying
chmod_node k mode i n =
    if is_processes n.body || not (k.user.uid == n.uid) then refuse EPERM else done 0 (SetMode i (mode % 4096) ∷ [])

abbrev pub chmod_host : Known → ℕ → Host → Replying
chmod_host k mode (host.Node i) = option_map_or (chmod_node k mode i) (known_node k i) (refuse ENOENT)
chmod_host k mode (host.Proc i at) = refuse EPERM

-- fchmod(2): EPERM of a pipe and of the console, too
abbrev pub fchmod_row : Known → ℤ → ℕ → Replying
fchmod_row k fd mode = or_badf k fd (λ n o. option_map_or (λ p. chmod_host k mode p.host) o.place (refuse EPERM))

-- fchmodat(2)
abbrev pub fchmodat_row : Known → Looked → ℕ → Replying
fchmodat_row k l mode = chmod_host k mode l.host

-- ---- the owner

-- all ones leave a number as it is
abbrev pub unchanged : ℕ
unchanged = 0xffffffff

abbrev pub or_old : ℕ → ℕ → ℕ
or_old new old = if new == unchanged then old else new

-- the user owns it, gives it to nobody else, and to no group but its own or the user's
abbrev pub may_give : User → User → ℕ → ℕ → Bool
may_give user owner uid gid =
    user.uid == owner.uid && (uid == unchanged || uid == owner.uid) && (gid == unchanged || gid == owner.gid || gid == user.gid)

-- EPERM by this rule; where both numbers are left, nothing is tested
abbrev pub chown_by : User → User → ℕ → ℕ → List Change → Replying
chown_by user owner uid gid changes =
    if uid == unchanged && gid == unchanged then done 0 []
    else if may_give user owner uid gid then done 0 changes
    else refuse EPERM

abbrev pub chown_node : Known → ℕ → ℕ → ℕ → Node → Replying
chown_node k uid gid i n = chown_by k.user (record { uid = n.uid; gid = n.gid }) uid gid (SetOwner i (or_old uid n.uid) (or_old gid n.gid) ∷ [])

-- what is in the process directory is the user's, and the rule leaves it so
abbrev pub chown_host : Known → ℕ → ℕ → Host → Replying
chown_host k uid gid (host.Node i) = option_map_or (chown_node k uid gid i) (known_node k i) (refuse ENOENT)
chown_host k uid gid (host.Proc i at) = chown_by k.user k.user uid gid []

-- a pipe and the console are the user's, too
abbrev pub chown_open : Known → ℕ → ℕ → Opened (Unit {0}) → Replying
chown_open k uid gid o = option_map_or (λ p. chown_host k uid gid p.host) o.place (chown_by k.user k.user uid gid [])

-- fchown(2)
abbrev pub fchown_row : Known → ℤ → ℕ → ℕ → Replying
fchown_row k fd uid gid = or_badf k fd (λ n o. chown_open k uid gid o)

-- fchownat(2) of a path
abbrev pub fchownat_row : Known → Looked → ℕ → ℕ → Replying
fchownat_row k l uid gid = chown_host k uid gid l.host

-- and of an empty one: the descriptor, or the working directory
abbrev pub fchownat_here : Known → ℤ → ℕ → ℕ → Replying
fchownat_here k dirfd uid gid = if is_working_directory dirfd then chown_host k uid gid k.caller.cwd else fchown_row k dirfd uid gid

-- ---- stat(2)

-- kinds in the mode
abbrev pub s_fifo : ℕ
s_fifo = 0x1000

abbrev pub s_character : ℕ
s_character = 0x2000

abbrev pub s_directory : ℕ
s_directory = 0x4000

abbrev pub s_regular : ℕ
s_regular = 0x8000

abbrev pub s_link : ℕ
s_link = 0xa000

-- blocks of 512 bytes, rounded up
abbrev pub stat_of : (dev ino mode nlink uid gid size : ℕ) → Stat
stat_of dev ino mode nlink uid gid size = record {
  dev = dev;
  ino = ino;
  mode = mode;
  nlink = nlink;
  uid = uid;
  gid = gid;
  rdev = 0;
  size = size;
  blksize = 4096;
  blocks = div_ceil size 512;
}

-- a directory has 4,096 bytes
abbrev pub directory_size : ℕ
directory_size = 4096

abbrev pub kind_bits : Body → ℕ
kind_bits (Directory entries standing) = s_directory
kind_bits (RegularFile bytes) = s_regular
kind_bits (SymbolicLink text) = s_link
kind_bits (ProcessDirectory standing) = s_directory

abbrev pub size_of : Body → ℕ
size_of (Directory entries standing) = directory_size
size_of (RegularFile bytes) = length bytes
size_of (SymbolicLink text) = length text
size_of (ProcessDirectory standing) = directory_size

-- a directory has two links and one for each directory in it, and none once it was removed; the process directory has
-- one for each living process
abbrev pub links_of : Known → Fact → Body → ℕ
links_of k f (Directory entries None) = 0
links_of k f (Directory entries (Some standing)) = 2 + f.directories
links_of k f (RegularFile bytes) = f.names
links_of k f (SymbolicLink text) = f.names
links_of k f (ProcessDirectory standing) = 2 + length k.living

abbrev pub node_stat : Known → ℕ → Fact → Stat
node_stat k i f = stat_of 1 i (kind_bits f.node.body + f.node.mode) (links_of k f f.node.body) f.node.uid f.node.gid (size_of f.node.body)

-- a process's directory has one for its `fd`; both have none once it ended
abbrev pub process_links : Known → ProcAt → ℕ
process_links k (Dir pid) = if is_over k (Dir pid) then 0 else 3
process_links k (FdDir pid) = if is_over k (FdDir pid) then 0 else 2
process_links k _ = 1

-- directories of mode 0555, and links of mode 0777 without bytes
abbrev pub process_stat : Known → ProcAt → Stat
process_stat k at =
    if is_process_directory at then stat_of 2 (inode_number at) (s_directory + 0x16d) (process_links k at) k.user.uid k.user.gid directory_size
    else stat_of 2 (inode_number at) (s_link + 0x1ff) 1 k.user.uid k.user.gid 0

-- a pipe by its number, and the console; both have mode 0600 and are the user's
abbrev pub pipe_stat : Known → ℕ → Stat
pipe_stat k pipe = stat_of 1 pipe (s_fifo + 0x180) 1 k.user.uid k.user.gid 0

abbrev pub console_stat : Known → Stat
console_stat k = stat_of 1 0 (s_character + 0x180) 1 k.user.uid k.user.gid 0

-- EFAULT, or the 128 bytes
abbrev pub tell_stat : ℕ → Stat → Replying
tell_stat buf s = write_if_allowed buf (stat_layout s) (refuse EFAULT) (done 0 [])

abbrev pub stat_host : Known → ℕ → Host → Replying
stat_host k buf (host.Node i) = option_map_or (λ f. tell_stat buf (node_stat k i f)) (k.fact i) (refuse ENOENT)
stat_host k buf (host.Proc i at) = tell_stat buf (process_stat k at)

abbrev pub stat_unplaced : Known → ℕ → What → Replying
stat_unplaced k buf File = refuse EBADF
stat_unplaced k buf DirOpen = refuse EBADF
stat_unplaced k buf In = tell_stat buf (console_stat k)
stat_unplaced k buf Out = tell_stat buf (console_stat k)
stat_unplaced k buf Err = tell_stat buf (console_stat k)
stat_unplaced k buf (PipeRead p) = tell_stat buf (pipe_stat k p)
stat_unplaced k buf (PipeWrite p) = tell_stat buf (pipe_stat k p)

abbrev pub stat_open : Known → ℕ → Opened (Unit {0}) → Replying
stat_open k buf o = option_map_or (λ p. stat_host k buf p.host) o.place (stat_unplaced k buf o.what)

-- fstat(2): EFAULT
abbrev pub fstat_row : Known → ℤ → ℕ → Replying
fstat_row k fd buf = or_badf k fd (λ n o. stat_open k buf o)

-- newfstatat(2) of a path: EFAULT
abbrev pub newfstatat_row : Known → Looked → ℕ → Replying
newfstatat_row k l buf = stat_host k buf l.host

-- and of an empty one: the descriptor, or the working directory
abbrev pub newfstatat_here : Known → ℤ → ℕ → Replying
newfstatat_here k dirfd buf = if is_working_directory dirfd then stat_host k buf k.caller.cwd else fstat_row k dirfd buf

-- ---- the text of a link

-- EFAULT, or the first bytes of the text, and their number
abbrev pub tell_text : ℕ → ℕ → List ℕ → Replying
tell_text buf size text = write_if_allowed buf (take size text) (refuse EFAULT) (done (length (take size text)) [])

abbrev pub readlink_body : ℕ → ℕ → Body → Replying
readlink_body buf size (SymbolicLink text) = tell_text buf size text
readlink_body buf size (Directory entries standing) = refuse EINVAL
readlink_body buf size (RegularFile bytes) = refuse EINVAL
readlink_body buf size (ProcessDirectory standing) = refuse EINVAL

abbrev pub readlink_host : Known → Host → Option (List ℕ) → ℕ → ℕ → Replying
readlink_host k (host.Node i) text buf size = option_map_or (λ n. readlink_body buf size n.body) (known_node k i) (refuse ENOENT)
readlink_host k (host.Proc i at) text buf size =
    if is_process_directory at then refuse EINVAL else option_map_or (tell_text buf size) text (refuse ENOENT)

-- readlinkat(2): EINVAL of what is no link, ENOENT of a link of the process directory to what has no name, EFAULT; as
-- many bytes as fit
abbrev pub readlinkat_row : Known → Looked → Option (List ℕ) → ℕ → ℤ → Replying
readlinkat_row k l text buf size = readlink_host k l.host text buf (unsigned_abs size)
