-- What a request comes to, of what is known of the state and seen of the paths.
use Rattle.std.specs.Prelude.{ℕ, Bool, List, [], ◌∷◌, Option}
use Rattle.kr_calls.specs.pr_base.declared.errno.Errno.TheVariants.{ENOENT, ENOEXEC}
use Rattle.kr_calls.specs.declared.request.Request.{Request}
use Rattle.kr_calls.specs.declared.request.Request.TheVariants as call
use Rattle.kr_model.specs.AttributeRows.{faccessat_row, fchmod_row, fchmodat_row, fchown_row, fchownat_row, fchownat_here, fstat_row, newfstatat_row, newfstatat_here, readlinkat_row}
use Rattle.kr_model.specs.DescriptorRows.{dup_row, dup3_row, fcntl_row, ioctl_row, close_row, pipe2_row, lseek_row}
use Rattle.kr_model.specs.DirectoryRows.{getdents64_row, chdir_row, fchdir_row, chroot_row, getcwd_row}
use Rattle.kr_model.specs.FileRows.{read_row, readv_row, write_row, writev_row, ftruncate_row, openat_row}
use Rattle.kr_model.specs.IdentityRows.{get_row, set_row, set_two_row, set_three_row, get_three_row, getgroups_row, setgroups_row}
use Rattle.kr_model.specs.Known.{Known}
use Rattle.kr_model.specs.MemoryRows.{brk_row, mmap_row, munmap_row, mprotect_row}
use Rattle.kr_model.specs.NameRows.{mkdirat_row, unlinkat_row, symlinkat_row, linkat_row, renameat2_row}
use Rattle.kr_model.specs.ProcessRows.{pid_row, getppid_row, signals_row, umask_row, uname_row, exit_row, clone_row, wait4_row}
use Rattle.kr_model.specs.Reply.{Replying, refuse}
use Rattle.kr_model.specs.Seen.{Seen, Looked, Opening, Taken, Made, WalkFails, LooksUp, ReadsLink, Opens, TakesEntry, MakesEntry, Links, Moves, NamesDirectory}

-- ---- the facts that a call uses: the error of its walk, or what it was told. Others aren't given to it

abbrev pub unfit : Replying
unfit = refuse ENOENT

abbrev pub looked_up : Seen → (Looked → Replying) → Replying
looked_up (LooksUp l) next = next l
looked_up (WalkFails e) next = refuse e
looked_up _ next = unfit

abbrev pub link_read : Seen → (Looked → Option (List ℕ) → Replying) → Replying
link_read (ReadsLink l text) next = next l text
link_read (WalkFails e) next = refuse e
link_read _ next = unfit

abbrev pub opened : Seen → (Opening → Replying) → Replying
opened (Opens o) next = next o
opened (WalkFails e) next = refuse e
opened _ next = unfit

abbrev pub taken : Seen → (Taken → Replying) → Replying
taken (TakesEntry t) next = next t
taken (WalkFails e) next = refuse e
taken _ next = unfit

abbrev pub made : Seen → (Made → Replying) → Replying
made (MakesEntry m) next = next m
made (WalkFails e) next = refuse e
made _ next = unfit

abbrev pub links_told : Seen → (Looked → Made → Bool → Replying) → Replying
links_told (Links old new same_mount) next = next old new same_mount
links_told (WalkFails e) next = refuse e
links_told _ next = unfit

abbrev pub linked : Seen → Known → Replying
linked seen k = links_told seen (linkat_row k)

abbrev pub moves_told : Seen → (Taken → Taken → Bool → Replying) → Replying
moves_told (Moves old new same_mount) next = next old new same_mount
moves_told (WalkFails e) next = refuse e
moves_told _ next = unfit

abbrev pub moved : Seen → Known → Replying
moved seen k = moves_told seen (renameat2_row k)

abbrev pub directory_named : Seen → (Option (List ℕ) → Replying) → Replying
directory_named (NamesDirectory name) next = next name
directory_named (WalkFails e) next = refuse e
directory_named _ next = unfit

-- an empty path stands for the descriptor
abbrev pub by_path : List ℕ → Replying → Replying → Replying
by_path [] here next = here
by_path (b ∷ path) here next = next

-- ---- the forms of calls: what each is told, and the row that it comes to of that. Laws on all calls go by these ten cases

pub data Form : Type 0 where
  Plainly : Replying → Form
  OfLooked : (Looked → Replying) → Form
  OrHere : (path : List ℕ) → Replying → (Looked → Replying) → Form
  OfLink : (Looked → Option (List ℕ) → Replying) → Form
  OfOpening : (Opening → Replying) → Form
  OfTaken : (Taken → Replying) → Form
  OfMade : (Made → Replying) → Form
  OfLinks : (Looked → Made → Bool → Replying) → Form
  OfMoves : (Taken → Taken → Bool → Replying) → Form
  OfName : (Option (List ℕ) → Replying) → Form

abbrev pub reply_of : Form → Seen → Replying
reply_of (Plainly reply) seen = reply
reply_of (OfLooked next) seen = looked_up seen next
reply_of (OrHere path here next) seen = by_path path here (looked_up seen next)
reply_of (OfLink next) seen = link_read seen next
reply_of (OfOpening next) seen = opened seen next
reply_of (OfTaken next) seen = taken seen next
reply_of (OfMade next) seen = made seen next
reply_of (OfLinks next) seen = links_told seen next
reply_of (OfMoves next) seen = moves_told seen next
reply_of (OfName next) seen = directory_named seen next

abbrev pub form : ℕ → Request → Known → Form
-- descriptors
form pid (call.Dup fd) k = Plainly (dup_row k fd)
form pid (call.Dup3 old new flags) k = Plainly (dup3_row k old new flags)
form pid (call.Fcntl fd cmd arg) k = Plainly (fcntl_row k fd cmd arg)
form pid (call.Ioctl fd) k = Plainly (ioctl_row k fd)
form pid (call.Close fd) k = Plainly (close_row k fd)
form pid (call.Pipe2 buf flags) k = Plainly (pipe2_row k buf flags)
form pid (call.Lseek fd off whence) k = Plainly (lseek_row k fd off whence)
-- files
form pid (call.Read fd buf n) k = Plainly (read_row k fd buf n)
form pid (call.Write fd buf n) k = Plainly (write_row k fd buf n)
form pid (call.Readv fd list count) k = Plainly (readv_row k fd list count)
form pid (call.Writev fd list count) k = Plainly (writev_row k fd list count)
form pid (call.Ftruncate fd len) k = Plainly (ftruncate_row k fd len)
form pid (call.Openat dirfd path flags mode) k = OfOpening (λ o. openat_row k o flags mode)
-- names
form pid (call.Mkdirat dirfd path mode) k = OfMade (λ m. mkdirat_row k m mode)
form pid (call.Unlinkat dirfd path flags) k = OfTaken (λ t. unlinkat_row k t flags)
form pid (call.Symlinkat text dirfd path) k = OfMade (λ m. symlinkat_row k m text)
form pid (call.Linkat olddir old newdir new flags) k = OfLinks (linkat_row k)
form pid (call.Renameat2 olddir old newdir new) k = OfMoves (renameat2_row k)
-- attributes
form pid (call.Faccessat dirfd path mode) k = OfLooked (λ l. faccessat_row k l mode)
form pid (call.Fchmod fd mode) k = Plainly (fchmod_row k fd mode)
form pid (call.Fchmodat dirfd path mode) k = OfLooked (λ l. fchmodat_row k l mode)
form pid (call.Fchown fd uid gid) k = Plainly (fchown_row k fd uid gid)
form pid (call.Fchownat dirfd path uid gid flags) k = OrHere path (fchownat_here k dirfd uid gid) (λ l. fchownat_row k l uid gid)
form pid (call.Fstat fd buf) k = Plainly (fstat_row k fd buf)
form pid (call.Newfstatat dirfd path buf flags) k = OrHere path (newfstatat_here k dirfd buf) (λ l. newfstatat_row k l buf)
form pid (call.Readlinkat dirfd path buf size) k = OfLink (λ l text. readlinkat_row k l text buf size)
-- directories
form pid (call.Getdents64 fd buf n) k = Plainly (getdents64_row k fd buf n)
form pid (call.Chdir path) k = OfLooked (λ l. chdir_row k l)
form pid (call.Fchdir fd) k = Plainly (fchdir_row k fd)
form pid (call.Chroot path) k = OfLooked (λ l. chroot_row k l)
form pid (call.Getcwd buf size) k = OfName (λ name. getcwd_row name buf size)
-- memory
form pid (call.Brk a) k = Plainly (brk_row k a)
form pid (call.Munmap a len) k = Plainly (munmap_row a len)
form pid (call.Mmap a len prot flags) k = Plainly (mmap_row k a len prot flags)
form pid (call.Mprotect a len prot) k = Plainly (mprotect_row k a len prot)
-- processes
form pid (call.Exit code) k = Plainly (exit_row code)
form pid (call.ExitGroup code) k = Plainly (exit_row code)
form pid call.SetTidAddress k = Plainly (pid_row pid)
form pid call.RtSigaction k = Plainly signals_row
form pid call.RtSigprocmask k = Plainly signals_row
form pid (call.Uname buf) k = Plainly (uname_row buf)
form pid (call.Umask m) k = Plainly (umask_row k m)
form pid call.Getpid k = Plainly (pid_row pid)
form pid call.Getppid k = Plainly (getppid_row k)
form pid call.Gettid k = Plainly (pid_row pid)
form pid (call.Clone flags sp ctid) k = Plainly (clone_row k flags sp ctid)
form pid (call.Wait4 child status options usage) k = Plainly (wait4_row k pid child status options usage)
form pid (call.Execve path args env) k = OfLooked (λ l. refuse ENOEXEC)
-- identity
form pid (call.Setregid rgid egid) k = Plainly (set_two_row k.user.gid rgid egid)
form pid (call.Setgid gid) k = Plainly (set_row k.user.gid gid)
form pid (call.Setreuid ruid euid) k = Plainly (set_two_row k.user.uid ruid euid)
form pid (call.Setuid uid) k = Plainly (set_row k.user.uid uid)
form pid (call.Setresuid ruid euid suid) k = Plainly (set_three_row k.user.uid ruid euid suid)
form pid (call.Getresuid ruid euid suid) k = Plainly (get_three_row k.user.uid ruid euid suid)
form pid (call.Setresgid rgid egid sgid) k = Plainly (set_three_row k.user.gid rgid egid sgid)
form pid (call.Getresgid rgid egid sgid) k = Plainly (get_three_row k.user.gid rgid egid sgid)
form pid (call.Getgroups size list) k = Plainly (getgroups_row k size list)
form pid (call.Setgroups size list) k = Plainly setgroups_row
form pid call.Getuid k = Plainly (get_row k.user.uid)
form pid call.Geteuid k = Plainly (get_row k.user.uid)
form pid call.Getgid k = Plainly (get_row k.user.gid)
form pid call.Getegid k = Plainly (get_row k.user.gid)

-- ---- what a request comes to. An execve has a definition of its own, beside its loader (`execution` in kr_execve). What its form here says, the
-- error of its walk or ENOEXEC, is not the call: laws on this definition speak of the other requests, and name them by this premise

abbrev pub IsNoExec : Request → Type 0
IsNoExec (call.Execve path args env) = ⊥
IsNoExec _ = Unit {0}

abbrev pub operation : ℕ → Request → Seen → Known → Replying
operation pid r seen k = reply_of (form pid r k) seen
