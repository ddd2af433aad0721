-- Each call keeps to its line.
use Rattle.std.proofs.Common.{◌≡◌, ◌≢◌, ℕ, Bool, true, false, ◌&&◌, List, [], ◌∷◌, refl, ap, Option}
use Rattle.std.proofs.Math.Bool.{and-false}
use Rattle.kr_calls.specs.pr_base.declared.errno.Errno.TheVariants.{EPERM, ENOENT, ENOEXEC, ENOSYS}
use Rattle.kr_calls.specs.pr_base.declared.errno.Errno.{Errno}
use Rattle.kr_calls.specs.CallTable.{Doing, line}
use Rattle.kr_calls.specs.declared.request.Request.{Request}
use Rattle.kr_calls.specs.declared.request.Request.TheVariants as call
use Rattle.kr_model.specs.Known.{Known}
use Rattle.kr_model.specs.Operation.{looked_up, link_read, opened, taken, made, links_told, moves_told, directory_named, by_path, operation}
use Rattle.kr_model.specs.Reply.{Replying, refuse}
use Rattle.kr_model.specs.Seen.{Seen, Looked, Opening, Taken, Made, WalkFails, LooksUp, ReadsLink, Opens, TakesEntry, MakesEntry, Links, Moves, NamesDirectory}
use Rattle.kr_model.proofs.KeepingDescriptorRows.{dup_keeps, dup3_keeps, fcntl_keeps, ioctl_keeps, close_keeps, pipe2_keeps, lseek_keeps}
use Rattle.kr_model.proofs.KeepingFileRows.{read_keeps, readv_keeps, write_keeps, writev_keeps, ftruncate_keeps, openat_keeps}
use Rattle.kr_model.proofs.KeepingNameRows.{mkdirat_keeps, unlinkat_keeps, symlinkat_keeps, linkat_keeps, renameat2_keeps}
use Rattle.kr_model.proofs.KeepingAttributeRows.{faccessat_keeps, fchmod_keeps, fchmodat_keeps, fchown_keeps, fchownat_keeps, fchownat_here_keeps, fstat_keeps, newfstatat_keeps, newfstatat_here_keeps, readlinkat_keeps}
use Rattle.kr_model.proofs.KeepingOtherRows.{getdents64_keeps, chdir_keeps, fchdir_keeps, chroot_keeps, getcwd_keeps, brk_keeps, mmap_keeps, munmap_keeps, mprotect_keeps, uname_keeps, exit_keeps, clone_keeps, wait4_keeps, set_keeps, set_two_keeps, set_three_keeps, get_three_keeps, getgroups_keeps}
use Rattle.kr_model.proofs.KeepingLemmas.{Keeps, refused, answered}
use Rattle.kr_model.proofs.RefusalLemmas.{is_enosys}

known_error : (e : Errno) → WalkFails e ≢ WalkFails ENOSYS → is_enosys e ≡ false
known_error ENOSYS h = absurd (h refl)
known_error _ h = refl

-- no walk of a call that is built answers ENOSYS
abbrev IsBuilt : Bool → Seen → Type 0
IsBuilt built seen = built ≡ true → seen ≢ WalkFails ENOSYS

-- the error of a walk is handed on
failed : {does : Doing} {built : Bool} (e : Errno) → IsBuilt built (WalkFails e) → Keeps does built false (refuse e)
failed {built = built} e known = refused e (whether built (λ is. known is))
  where
    whether : (b : Bool) → (b ≡ true → WalkFails e ≢ WalkFails ENOSYS) → is_enosys e && b ≡ false
    whether true is = ap (λ x. x && true) (known_error e (is refl))
    whether false is = and-false (is_enosys e)

-- ---- what a row comes to of what its call is told

module _ {does : Doing} {built : Bool} where
  looked_up_keeps : (seen : Seen) {next : Looked → Replying} → IsBuilt built seen → ((l : Looked) → Keeps does built false (next l)) → Keeps does built false (looked_up seen next)
  looked_up_keeps (LooksUp l) known keeps = keeps l
  looked_up_keeps (WalkFails e) known keeps = failed e known
  looked_up_keeps _ known keeps = refused ENOENT refl

  link_read_keeps : (seen : Seen) {next : Looked → Option (List ℕ) → Replying} → IsBuilt built seen → ((l : Looked) (text : Option (List ℕ)) → Keeps does built false (next l text)) → Keeps does built false (link_read seen next)
  link_read_keeps (ReadsLink l text) known keeps = keeps l text
  link_read_keeps (WalkFails e) known keeps = failed e known
  link_read_keeps _ known keeps = refused ENOENT refl

  opened_keeps : (seen : Seen) {next : Opening → Replying} → IsBuilt built seen → ((o : Opening) → Keeps does built false (next o)) → Keeps does built false (opened seen next)
  opened_keeps (Opens o) known keeps = keeps o
  opened_keeps (WalkFails e) known keeps = failed e known
  opened_keeps _ known keeps = refused ENOENT refl

  taken_keeps : (seen : Seen) {next : Taken → Replying} → IsBuilt built seen → ((t : Taken) → Keeps does built false (next t)) → Keeps does built false (taken seen next)
  taken_keeps (TakesEntry t) known keeps = keeps t
  taken_keeps (WalkFails e) known keeps = failed e known
  taken_keeps _ known keeps = refused ENOENT refl

  made_keeps : (seen : Seen) {next : Made → Replying} → IsBuilt built seen → ((m : Made) → Keeps does built false (next m)) → Keeps does built false (made seen next)
  made_keeps (MakesEntry m) known keeps = keeps m
  made_keeps (WalkFails e) known keeps = failed e known
  made_keeps _ known keeps = refused ENOENT refl

  links_told_keep : (seen : Seen) {next : Looked → Made → Bool → Replying} → IsBuilt built seen → ((old : Looked) (new : Made) (same_mount : Bool) → Keeps does built false (next old new same_mount)) → Keeps does built false (links_told seen next)
  links_told_keep (Links old new same_mount) known keeps = keeps old new same_mount
  links_told_keep (WalkFails e) known keeps = failed e known
  links_told_keep _ known keeps = refused ENOENT refl

  moves_told_keep : (seen : Seen) {next : Taken → Taken → Bool → Replying} → IsBuilt built seen → ((old new : Taken) (same_mount : Bool) → Keeps does built false (next old new same_mount)) → Keeps does built false (moves_told seen next)
  moves_told_keep (Moves old new same_mount) known keeps = keeps old new same_mount
  moves_told_keep (WalkFails e) known keeps = failed e known
  moves_told_keep _ known keeps = refused ENOENT refl

  directory_named_keeps : (seen : Seen) {next : Option (List ℕ) → Replying} → IsBuilt built seen → ((name : Option (List ℕ)) → Keeps does built false (next name)) → Keeps does built false (directory_named seen next)
  directory_named_keeps (NamesDirectory name) known keeps = keeps name
  directory_named_keeps (WalkFails e) known keeps = failed e known
  directory_named_keeps _ known keeps = refused ENOENT refl

  by_path_keeps : (path : List ℕ) {here next : Replying} → Keeps does built false here → Keeps does built false next → Keeps does built false (by_path path here next)
  by_path_keeps [] here next = here
  by_path_keeps (b ∷ path) here next = next

pub operation_keeps : (built : Bool) (pid : ℕ) (r : Request) (seen : Seen) (k : Known) → (built ≡ true → seen ≢ WalkFails ENOSYS) → Keeps (line r).does built false (operation pid r seen k)
operation_keeps built pid (call.Dup fd) seen k known = dup_keeps k fd
operation_keeps built pid (call.Dup3 old new flags) seen k known = dup3_keeps k old new flags
operation_keeps built pid (call.Fcntl fd cmd arg) seen k known = fcntl_keeps k fd cmd arg
operation_keeps built pid (call.Ioctl fd) seen k known = ioctl_keeps k fd
operation_keeps built pid (call.Close fd) seen k known = close_keeps k fd
operation_keeps built pid (call.Pipe2 buf flags) seen k known = pipe2_keeps k buf flags
operation_keeps built pid (call.Lseek fd off whence) seen k known = lseek_keeps k fd off whence
operation_keeps built pid (call.Read fd buf n) seen k known = read_keeps k fd buf n
operation_keeps built pid (call.Write fd buf n) seen k known = write_keeps k fd buf n
operation_keeps built pid (call.Readv fd list count) seen k known = readv_keeps k fd list count
operation_keeps built pid (call.Writev fd list count) seen k known = writev_keeps k fd list count
operation_keeps built pid (call.Ftruncate fd len) seen k known = ftruncate_keeps k fd len
operation_keeps built pid (call.Openat dirfd path flags mode) seen k known = opened_keeps seen known (λ o. openat_keeps k o flags mode)
operation_keeps built pid (call.Mkdirat dirfd path mode) seen k known = made_keeps seen known (λ m. mkdirat_keeps k m mode)
operation_keeps built pid (call.Unlinkat dirfd path flags) seen k known = taken_keeps seen known (λ t. unlinkat_keeps k t flags)
operation_keeps built pid (call.Symlinkat text dirfd path) seen k known = made_keeps seen known (λ m. symlinkat_keeps k m text)
operation_keeps built pid (call.Linkat olddir old newdir new flags) seen k known = links_told_keep seen known (linkat_keeps k)
operation_keeps built pid (call.Renameat2 olddir old newdir new) seen k known = moves_told_keep seen known (renameat2_keeps k)
operation_keeps built pid (call.Faccessat dirfd path mode) seen k known = looked_up_keeps seen known (λ l. faccessat_keeps k l mode)
operation_keeps built pid (call.Fchmod fd mode) seen k known = fchmod_keeps k fd mode
operation_keeps built pid (call.Fchmodat dirfd path mode) seen k known = looked_up_keeps seen known (λ l. fchmodat_keeps k l mode)
operation_keeps built pid (call.Fchown fd uid gid) seen k known = fchown_keeps k fd uid gid
operation_keeps built pid (call.Fchownat dirfd path uid gid flags) seen k known = by_path_keeps path (fchownat_here_keeps k dirfd uid gid) (looked_up_keeps seen known (λ l. fchownat_keeps k l uid gid))
operation_keeps built pid (call.Fstat fd buf) seen k known = fstat_keeps k fd buf
operation_keeps built pid (call.Newfstatat dirfd path buf flags) seen k known = by_path_keeps path (newfstatat_here_keeps k dirfd buf) (looked_up_keeps seen known (λ l. newfstatat_keeps k l buf))
operation_keeps built pid (call.Readlinkat dirfd path buf size) seen k known = link_read_keeps seen known (λ l text. readlinkat_keeps k l text buf size)
operation_keeps built pid (call.Getdents64 fd buf n) seen k known = getdents64_keeps k fd buf n
operation_keeps built pid (call.Chdir path) seen k known = looked_up_keeps seen known (λ l. chdir_keeps k l)
operation_keeps built pid (call.Fchdir fd) seen k known = fchdir_keeps k fd
operation_keeps built pid (call.Chroot path) seen k known = looked_up_keeps seen known (λ l. chroot_keeps k l)
operation_keeps built pid (call.Getcwd buf size) seen k known = directory_named_keeps seen known (λ name. getcwd_keeps name buf size)
operation_keeps built pid (call.Brk a) seen k known = brk_keeps k a
operation_keeps built pid (call.Munmap a len) seen k known = munmap_keeps a len
operation_keeps built pid (call.Mmap a len prot flags) seen k known = mmap_keeps k a len prot flags
operation_keeps built pid (call.Mprotect a len prot) seen k known = mprotect_keeps k a len prot
operation_keeps built pid (call.Exit code) seen k known = exit_keeps code
operation_keeps built pid (call.ExitGroup code) seen k known = exit_keeps code
operation_keeps built pid call.SetTidAddress seen k known = answered refl
operation_keeps built pid call.RtSigaction seen k known = answered refl
operation_keeps built pid call.RtSigprocmask seen k known = answered refl
operation_keeps built pid (call.Uname buf) seen k known = uname_keeps buf
operation_keeps built pid (call.Umask m) seen k known = answered refl
operation_keeps built pid call.Getpid seen k known = answered refl
operation_keeps built pid call.Getppid seen k known = answered refl
operation_keeps built pid call.Gettid seen k known = answered refl
operation_keeps built pid (call.Clone flags sp ctid) seen k known = clone_keeps k flags sp ctid
operation_keeps built pid (call.Wait4 child status options usage) seen k known = wait4_keeps k pid child status options usage
operation_keeps built pid (call.Execve path args env) seen k known = looked_up_keeps seen known (λ l. refused ENOEXEC refl)
operation_keeps built pid (call.Setregid rgid egid) seen k known = set_two_keeps k.user.gid rgid egid
operation_keeps built pid (call.Setgid gid) seen k known = set_keeps k.user.gid gid
operation_keeps built pid (call.Setreuid ruid euid) seen k known = set_two_keeps k.user.uid ruid euid
operation_keeps built pid (call.Setuid uid) seen k known = set_keeps k.user.uid uid
operation_keeps built pid (call.Setresuid ruid euid suid) seen k known = set_three_keeps k.user.uid ruid euid suid
operation_keeps built pid (call.Getresuid ruid euid suid) seen k known = get_three_keeps k.user.uid ruid euid suid
operation_keeps built pid (call.Setresgid rgid egid sgid) seen k known = set_three_keeps k.user.gid rgid egid sgid
operation_keeps built pid (call.Getresgid rgid egid sgid) seen k known = get_three_keeps k.user.gid rgid egid sgid
operation_keeps built pid (call.Getgroups size list) seen k known = getgroups_keeps k size list
operation_keeps built pid (call.Setgroups size list) seen k known = refused EPERM refl
operation_keeps built pid call.Getuid seen k known = answered refl
operation_keeps built pid call.Geteuid seen k known = answered refl
operation_keeps built pid call.Getgid seen k known = answered refl
operation_keeps built pid call.Getegid seen k known = answered refl
