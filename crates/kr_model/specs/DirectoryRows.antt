-- Calls that read directories and change to them, each in the order of its tests (section 2 of the manual; the order is
-- our own).
use Rattle.std.specs.Prelude.{ℕ, ◌+◌, ◌-◌, ◌==◌, ◌++◌, not, List, [], ◌∷◌, length, nat_lt, nat_le, codes, map as map_list, Option, Some, None, ℤ, pos, negsuc, if◌then◌else◌}
use Rattle.std.specs.List.{filter, find}
use Rattle.std.specs.Option.{option_map_or}
use Rattle.kr_calls.specs.pr_base.declared.errno.Errno.TheVariants.{EPERM, ENOENT, EACCES, EFAULT, ENOTDIR, EINVAL, ERANGE}
use Rattle.kr_calls.specs.rv_mem.Actions.{write_if_allowed}
use Rattle.kr_calls.specs.DirectoryEntries.{record_length, entry_bytes}
use Rattle.kr_files.specs.kr_tree.Tree.{Entry, Body, Directory, RegularFile, SymbolicLink, ProcessDirectory}
use Rattle.kr_files.specs.kr_tree.declared.place.Host.{Host}
use Rattle.kr_files.specs.kr_tree.declared.place.Host.TheVariants.{Node, Proc}
use Rattle.kr_files.specs.kr_tree.declared.place.ProcAt.{ProcAt}
use Rattle.kr_files.specs.kr_tree.declared.place.ProcAt.TheVariants.{SelfLink, Dir, Cwd, Root, Exe, FdDir, Fd}
use Rattle.kr_procfs.specs.kr_view.Component.{is_process_directory}
use Rattle.kr_procfs.specs.Objects.{own_name, inode_number, serial}
use Rattle.kr_model.specs.Asking.{or_badf, is_directory_host, is_searched, is_over}
use Rattle.kr_model.specs.Change.{OfFound, OfDescriptor, ChangeDirectory, Seek}
use Rattle.kr_model.specs.Known.{Known, known_node}
use Rattle.kr_model.specs.Reply.{Replying, done, refuse}
use Rattle.kr_model.specs.Seen.{Looked}

-- ---- what a directory shows

-- an entry as getdents64(2) tells it
pub record Listed : Type 0 where
  pub serial : ℕ
  pub inode : ℕ
  pub kind : ℕ
  pub name : List ℕ

-- DT_DIR, DT_REG and DT_LNK
abbrev pub dt_dir : ℕ
dt_dir = 4

abbrev pub dt_reg : ℕ
dt_reg = 8

abbrev pub dt_lnk : ℕ
dt_lnk = 10

abbrev pub kind_of_body : Body → ℕ
kind_of_body (Directory entries standing) = dt_dir
kind_of_body (RegularFile bytes) = dt_reg
kind_of_body (SymbolicLink text) = dt_lnk
kind_of_body (ProcessDirectory standing) = dt_dir

-- the tree's own inode and kind, whatever mount stands there
abbrev pub listed_entry : Known → Entry → Listed
listed_entry k e = record { serial = e.serial; inode = e.inode; kind = option_map_or (λ n. kind_of_body n.body) (known_node k e.inode) dt_reg; name = e.name }

abbrev pub kind_of_process : ProcAt → ℕ
kind_of_process at = if is_process_directory at then dt_dir else dt_lnk

abbrev pub listed_process : ProcAt → Listed
listed_process at = record { serial = serial at; inode = inode_number at; kind = kind_of_process at; name = own_name at }

-- `.` has the serial 1, and `..` 2
abbrev pub with_dots : (here above : ℕ) → List Listed → List Listed
with_dots here above entries =
    record { serial = 1; inode = here; kind = dt_dir; name = codes "." } ∷ record { serial = 2; inode = above; kind = dt_dir; name = codes ".." } ∷ entries

-- the process directory: `self`, and each living process in order of numbers
abbrev pub of_processes : Known → List Listed
of_processes k = listed_process SelfLink ∷ map_list (λ p. listed_process (Dir p.pid)) k.living

-- a process's directory
abbrev pub of_process : ℕ → List Listed
of_process pid = listed_process (Cwd pid) ∷ listed_process (Root pid) ∷ listed_process (Exe pid) ∷ listed_process (FdDir pid) ∷ []

-- its open descriptors, in order
abbrev pub of_descriptors : Known → ℕ → List Listed
of_descriptors k pid = option_map_or (λ p. map_list (λ fd. listed_process (Fd pid fd)) p.fds) (find (λ p. p.pid == pid) k.living) []

-- a removed directory shows nothing
abbrev pub shown_by_body : Known → ℕ → Body → Option (List Listed)
shown_by_body k i (Directory entries None) = None
shown_by_body k i (Directory entries (Some s)) = Some (with_dots i s.inode (map_list (listed_entry k) entries))
shown_by_body k i (ProcessDirectory None) = None
shown_by_body k i (ProcessDirectory (Some s)) = Some (with_dots i s.inode (of_processes k))
shown_by_body k i (RegularFile bytes) = None
shown_by_body k i (SymbolicLink text) = None

abbrev pub shown_by_process : Known → ℕ → ProcAt → Option (List Listed)
shown_by_process k i (Dir pid) = if is_over k (Dir pid) then None else Some (with_dots (inode_number (Dir pid)) i (of_process pid))
shown_by_process k i (FdDir pid) = if is_over k (FdDir pid) then None else Some (with_dots (inode_number (FdDir pid)) (inode_number (Dir pid)) (of_descriptors k pid))
shown_by_process k i _ = None

abbrev pub shown_by : Known → Host → Option (List Listed)
shown_by k (Node i) = option_map_or (λ n. shown_by_body k i n.body) (known_node k i) None
shown_by k (Proc i at) = shown_by_process k i at

-- ---- getdents64(2)

-- as many entries from the front as fit n bytes
abbrev pub fitting : ℕ → List Listed → List Listed
fitting n [] = []
fitting n (e ∷ entries) =
    if nat_le (record_length e.name) n then e ∷ fitting (n - record_length e.name) entries else []

abbrev pub listed_bytes : List Listed → List ℕ
listed_bytes [] = []
listed_bytes (e ∷ entries) = entry_bytes e.inode e.serial e.kind e.name ++ listed_bytes entries

abbrev pub last_serial : Listed → List Listed → ℕ
last_serial e [] = e.serial
last_serial e (f ∷ entries) = last_serial f entries

-- EINVAL where not even one fits, EFAULT; the place passes what was moved
abbrev pub tell_entries : ℕ → ℕ → List Listed → Replying
tell_entries fd buf [] = refuse EINVAL
tell_entries fd buf (e ∷ entries) =
    write_if_allowed buf (listed_bytes (e ∷ entries)) (refuse EFAULT) (done (length (listed_bytes (e ∷ entries))) (Seek fd (last_serial e entries) ∷ []))

-- at the end the answer is 0, whatever n is
abbrev pub list_rest : ℕ → ℕ → ℕ → List Listed → Replying
list_rest fd buf n [] = done 0 []
list_rest fd buf n (e ∷ entries) = tell_entries fd buf (fitting n (e ∷ entries))

-- the entries behind the place
abbrev pub behind : ℕ → List Listed → List Listed
behind at entries = filter (λ e. nat_lt at e.serial) entries

abbrev pub or_zero : ℤ → ℕ
or_zero (pos n) = n
or_zero (negsuc m) = 0

abbrev pub list_host : Known → ℕ → ℕ → ℕ → ℕ → Host → Replying
list_host k fd at buf n host =
    if not (is_directory_host k host) then refuse ENOTDIR
    else option_map_or (λ entries. list_rest fd buf n (behind at entries)) (shown_by k host) (refuse ENOENT)

-- getdents64(2): ENOTDIR, ENOENT of a removed directory, EINVAL where the next entry doesn't fit, EFAULT; the bytes
-- moved, 0 at the end
abbrev pub getdents64_row : Known → ℤ → ℕ → ℤ → Replying
getdents64_row k fd buf n =
    or_badf k fd (λ number o. option_map_or (λ p. list_host k number o.at buf (or_zero n) p.host) o.place (refuse ENOTDIR))

-- ---- the working directory

-- ENOTDIR, EACCES without search
abbrev pub if_entered : Known → Host → Replying → Replying
if_entered k host next =
    if not (is_directory_host k host) then refuse ENOTDIR
    else if not (is_searched k host) then refuse EACCES
    else next

-- chdir(2)
abbrev pub chdir_row : Known → Looked → Replying
chdir_row k l = if_entered k l.host (done 0 (ChangeDirectory OfFound l.host ∷ []))

-- fchdir(2)
abbrev pub fchdir_row : Known → ℤ → Replying
fchdir_row k fd =
    or_badf k fd (λ n o. option_map_or (λ p. if_entered k p.host (done 0 (ChangeDirectory (OfDescriptor n) p.host ∷ []))) o.place (refuse ENOTDIR))

-- chroot(2): EPERM of each directory, since the user isn't the superuser
abbrev pub chroot_row : Known → Looked → Replying
chroot_row k l = if_entered k l.host (refuse EPERM)

-- ERANGE where the name with its zero doesn't fit, EFAULT; its length with the zero
abbrev pub tell_directory : ℕ → ℕ → List ℕ → Replying
tell_directory buf size name =
    if nat_lt size (length name + 1) then refuse ERANGE
    else write_if_allowed buf (name ++ 0 ∷ []) (refuse EFAULT) (done (length name + 1) [])

-- getcwd(2): ENOENT of what has no name, ERANGE, EFAULT
abbrev pub getcwd_row : Option (List ℕ) → ℕ → ℕ → Replying
getcwd_row name buf size = option_map_or (tell_directory buf size) name (refuse ENOENT)
