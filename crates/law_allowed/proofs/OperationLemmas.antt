-- Every call is allowed.
use Rattle.std.proofs.Common.{ℕ, List, [], ◌∷◌, refl}
use Rattle.law_lawful.specs.pr_base.declared.errno.Errno.{Errno}
use Rattle.law_lawful.specs.pr_base.declared.errno.Errno.TheVariants.{ENOENT}
use Rattle.law_lawful.specs.kr_calls.declared.request.Request.{Request}
use Rattle.law_lawful.specs.kr_calls.declared.request.Request.TheVariants as call
use Rattle.law_lawful.specs.kr_view.View.{Row}
use Rattle.law_lawful.specs.kr_model.Applied.{Mounts}
use Rattle.law_lawful.specs.kr_model.AttributeRows.{fchmodat_row, fchownat_row, fchownat_here}
use Rattle.law_lawful.specs.kr_model.DirectoryRows.{chdir_row}
use Rattle.law_lawful.specs.kr_model.FileRows.{openat_row}
use Rattle.law_lawful.specs.kr_model.Known.{Known}
use Rattle.law_lawful.specs.kr_model.NameRows.{mkdirat_row, unlinkat_row, symlinkat_row}
use Rattle.law_lawful.specs.kr_model.Operation.{looked_up, opened, taken, made, linked, moved, by_path, operation}
use Rattle.law_lawful.specs.kr_model.Reply.{Replying, refuse}
use Rattle.law_lawful.specs.kr_model.Seen.{Seen, Looked, Opening, Taken, Made, NoPath, WalkFails, LooksUp, ReadsLink, Opens, TakesEntry, MakesEntry, Links, Moves, NamesDirectory}
use Rattle.law_allowed.specs.Allowed.{IsAllowedWhere}
use Rattle.law_allowed.specs.Calls.{IsGivable, RestsOn, OperationIsAllowed}
use Rattle.law_allowed.proofs.AttributeLemmas.{AreAttributeRowsAllowed, attribute-rows}
use Rattle.law_allowed.proofs.DescriptorLemmas.{AreDescriptorRowsAllowed, descriptor-rows}
use Rattle.law_allowed.proofs.DirectoryLemmas.{AreDirectoryRowsAllowed, directory-rows}
use Rattle.law_allowed.proofs.FileLemmas.{AreFileRowsAllowed, file-rows}
use Rattle.law_allowed.proofs.MemoryLemmas.{AreMemoryRowsAllowed, memory-rows}
use Rattle.law_allowed.proofs.NameLemmas.{AreNameRowsAllowed, name-rows}
use Rattle.law_allowed.proofs.OpeningLemmas.{opening-is-allowed}
use Rattle.law_allowed.proofs.ProcessLemmas.{AreProcessRowsAllowed, process-rows}
use Rattle.law_allowed.proofs.RowLemmas.{refuses, row-allowed}
use Rattle.law_allowed.proofs.SilentLemmas.{silent-calls}

module _ (M : Type 0) (number : M → ℕ) (table : List Row) (mounts : Mounts M) (pid : ℕ) where
  -- a row that rests on what a call is told
  abbrev At : Seen → (Known → Replying) → Type 0
  At seen row = IsAllowedWhere number table mounts pid (RestsOn number table mounts seen) row

  abbrev descriptors : AreDescriptorRowsAllowed number table mounts pid
  descriptors = descriptor-rows M number table mounts pid

  abbrev processes : AreProcessRowsAllowed number table mounts pid
  processes = process-rows M number table mounts pid

  abbrev memories : AreMemoryRowsAllowed number table mounts pid
  memories = memory-rows M number table mounts pid

  abbrev files : AreFileRowsAllowed number table mounts pid
  files = file-rows M number table mounts pid

  abbrev attributes : AreAttributeRowsAllowed number table mounts pid
  attributes = attribute-rows M number table mounts pid

  abbrev directories : AreDirectoryRowsAllowed number table mounts pid
  directories = directory-rows M number table mounts pid

  abbrev names : AreNameRowsAllowed number table mounts pid
  names = name-rows M number table mounts pid

  refusing : (seen : Seen) (e : Errno) → At seen (λ k. refuse e)
  refusing seen e = row-allowed number table mounts pid (RestsOn number table mounts seen) (λ k. refuse e) (λ s l lives rests. refuses e)

  -- ---- what a call was told

  looked-up-allowed : (seen : Seen) (row : Known → Looked → Replying) → ((l : Looked) → At (LooksUp l) (λ k. row k l)) → At seen (λ k. looked_up seen (λ l. row k l))
  looked-up-allowed NoPath row allowed = refusing NoPath ENOENT
  looked-up-allowed (WalkFails e) row allowed = refusing (WalkFails e) e
  looked-up-allowed (LooksUp l) row allowed = allowed l
  looked-up-allowed (ReadsLink l text) row allowed = refusing (ReadsLink l text) ENOENT
  looked-up-allowed (Opens o) row allowed = refusing (Opens o) ENOENT
  looked-up-allowed (TakesEntry t) row allowed = refusing (TakesEntry t) ENOENT
  looked-up-allowed (MakesEntry m) row allowed = refusing (MakesEntry m) ENOENT
  looked-up-allowed (Links old new same_mount) row allowed = refusing (Links old new same_mount) ENOENT
  looked-up-allowed (Moves old new same_mount) row allowed = refusing (Moves old new same_mount) ENOENT
  looked-up-allowed (NamesDirectory name) row allowed = refusing (NamesDirectory name) ENOENT

  opened-allowed : (seen : Seen) (row : Known → Opening → Replying) → ((o : Opening) → At (Opens o) (λ k. row k o)) → At seen (λ k. opened seen (λ o. row k o))
  opened-allowed NoPath row allowed = refusing NoPath ENOENT
  opened-allowed (WalkFails e) row allowed = refusing (WalkFails e) e
  opened-allowed (LooksUp l) row allowed = refusing (LooksUp l) ENOENT
  opened-allowed (ReadsLink l text) row allowed = refusing (ReadsLink l text) ENOENT
  opened-allowed (Opens o) row allowed = allowed o
  opened-allowed (TakesEntry t) row allowed = refusing (TakesEntry t) ENOENT
  opened-allowed (MakesEntry m) row allowed = refusing (MakesEntry m) ENOENT
  opened-allowed (Links old new same_mount) row allowed = refusing (Links old new same_mount) ENOENT
  opened-allowed (Moves old new same_mount) row allowed = refusing (Moves old new same_mount) ENOENT
  opened-allowed (NamesDirectory name) row allowed = refusing (NamesDirectory name) ENOENT

  taken-allowed : (seen : Seen) (row : Known → Taken → Replying) → ((t : Taken) → At (TakesEntry t) (λ k. row k t)) → At seen (λ k. taken seen (λ t. row k t))
  taken-allowed NoPath row allowed = refusing NoPath ENOENT
  taken-allowed (WalkFails e) row allowed = refusing (WalkFails e) e
  taken-allowed (LooksUp l) row allowed = refusing (LooksUp l) ENOENT
  taken-allowed (ReadsLink l text) row allowed = refusing (ReadsLink l text) ENOENT
  taken-allowed (Opens o) row allowed = refusing (Opens o) ENOENT
  taken-allowed (TakesEntry t) row allowed = allowed t
  taken-allowed (MakesEntry m) row allowed = refusing (MakesEntry m) ENOENT
  taken-allowed (Links old new same_mount) row allowed = refusing (Links old new same_mount) ENOENT
  taken-allowed (Moves old new same_mount) row allowed = refusing (Moves old new same_mount) ENOENT
  taken-allowed (NamesDirectory name) row allowed = refusing (NamesDirectory name) ENOENT

  made-allowed : (seen : Seen) (row : Known → Made → Replying) → ((m : Made) → At (MakesEntry m) (λ k. row k m)) → At seen (λ k. made seen (λ m. row k m))
  made-allowed NoPath row allowed = refusing NoPath ENOENT
  made-allowed (WalkFails e) row allowed = refusing (WalkFails e) e
  made-allowed (LooksUp l) row allowed = refusing (LooksUp l) ENOENT
  made-allowed (ReadsLink l text) row allowed = refusing (ReadsLink l text) ENOENT
  made-allowed (Opens o) row allowed = refusing (Opens o) ENOENT
  made-allowed (TakesEntry t) row allowed = refusing (TakesEntry t) ENOENT
  made-allowed (MakesEntry m) row allowed = allowed m
  made-allowed (Links old new same_mount) row allowed = refusing (Links old new same_mount) ENOENT
  made-allowed (Moves old new same_mount) row allowed = refusing (Moves old new same_mount) ENOENT
  made-allowed (NamesDirectory name) row allowed = refusing (NamesDirectory name) ENOENT

  linked-allowed : (seen : Seen) → At seen (λ k. linked seen k)
  linked-allowed NoPath = refusing NoPath ENOENT
  linked-allowed (WalkFails e) = refusing (WalkFails e) e
  linked-allowed (LooksUp l) = refusing (LooksUp l) ENOENT
  linked-allowed (ReadsLink l text) = refusing (ReadsLink l text) ENOENT
  linked-allowed (Opens o) = refusing (Opens o) ENOENT
  linked-allowed (TakesEntry t) = refusing (TakesEntry t) ENOENT
  linked-allowed (MakesEntry m) = refusing (MakesEntry m) ENOENT
  linked-allowed (Links old new same_mount) = λ s p lawful lives holds rests. names.linkat old new same_mount s p lawful lives holds rests.1
  linked-allowed (Moves old new same_mount) = refusing (Moves old new same_mount) ENOENT
  linked-allowed (NamesDirectory name) = refusing (NamesDirectory name) ENOENT

  moved-allowed : (seen : Seen) → At seen (λ k. moved seen k)
  moved-allowed NoPath = refusing NoPath ENOENT
  moved-allowed (WalkFails e) = refusing (WalkFails e) e
  moved-allowed (LooksUp l) = refusing (LooksUp l) ENOENT
  moved-allowed (ReadsLink l text) = refusing (ReadsLink l text) ENOENT
  moved-allowed (Opens o) = refusing (Opens o) ENOENT
  moved-allowed (TakesEntry t) = refusing (TakesEntry t) ENOENT
  moved-allowed (MakesEntry m) = refusing (MakesEntry m) ENOENT
  moved-allowed (Links old new same_mount) = refusing (Links old new same_mount) ENOENT
  moved-allowed (Moves old new same_mount) = λ s p lawful lives holds rests. names.renameat2 old new same_mount s p lawful lives holds rests.1
  moved-allowed (NamesDirectory name) = refusing (NamesDirectory name) ENOENT

  by-path-allowed : (seen : Seen) (path : List ℕ) (here next : Known → Replying) → At seen here → At seen next → At seen (λ k. by_path path (here k) (next k))
  by-path-allowed seen [] here next first second = first
  by-path-allowed seen (b ∷ path) here next first second = second

  -- ---- each call

  each : (r : Request) (seen : Seen) → IsGivable r → At seen (λ k. operation pid r seen k)
  each (call.Dup fd) seen given = λ s p lawful lives holds rests. descriptors.dup fd s p lawful lives holds tt
  each (call.Dup3 old new flags) seen given = λ s p lawful lives holds rests. descriptors.dup3 old new flags given s p lawful lives holds tt
  each (call.Fcntl fd cmd arg) seen given = λ s p lawful lives holds rests. descriptors.fcntl fd cmd arg s p lawful lives holds tt
  each (call.Close fd) seen given = λ s p lawful lives holds rests. descriptors.close fd s p lawful lives holds tt
  each (call.Pipe2 buf flags) seen given = λ s p lawful lives holds rests. descriptors.pipe2 buf flags s p lawful lives holds tt
  each (call.Lseek fd off whence) seen given = λ s p lawful lives holds rests. descriptors.lseek fd off whence s p lawful lives holds tt
  each (call.Read fd buf n) seen given = λ s p lawful lives holds rests. files.read fd buf n s p lawful lives holds tt
  each (call.Write fd buf n) seen given = λ s p lawful lives holds rests. files.write fd buf n s p lawful lives holds tt
  each (call.Readv fd list count) seen given = λ s p lawful lives holds rests. files.readv fd list count s p lawful lives holds tt
  each (call.Writev fd list count) seen given = λ s p lawful lives holds rests. files.writev fd list count s p lawful lives holds tt
  each (call.Ftruncate fd len) seen given = λ s p lawful lives holds rests. files.ftruncate fd len s p lawful lives holds tt
  each (call.Openat dirfd path flags mode) seen given = opened-allowed seen (λ k o. openat_row k o flags mode) (λ o s p lawful lives holds rests. opening-is-allowed M number table mounts pid o flags mode s p lawful lives holds rests.1)
  each (call.Mkdirat dirfd path mode) seen given = made-allowed seen (λ k m. mkdirat_row k m mode) (λ m s p lawful lives holds rests. names.mkdirat m mode s p lawful lives holds rests.1)
  each (call.Unlinkat dirfd path flags) seen given = taken-allowed seen (λ k t. unlinkat_row k t flags) (λ t s p lawful lives holds rests. names.unlinkat t flags s p lawful lives holds rests.1)
  each (call.Symlinkat text dirfd path) seen given = made-allowed seen (λ k m. symlinkat_row k m text) (λ m s p lawful lives holds rests. names.symlinkat m text given.0 given.1 s p lawful lives holds rests.1)
  each (call.Linkat olddir old newdir new flags) seen given = linked-allowed seen
  each (call.Renameat2 olddir old newdir new) seen given = moved-allowed seen
  each (call.Fchmod fd mode) seen given = λ s p lawful lives holds rests. attributes.fchmod fd mode s p lawful lives holds tt
  each (call.Fchmodat dirfd path mode) seen given = looked-up-allowed seen (λ k l. fchmodat_row k l mode) (λ l s p lawful lives holds rests. attributes.fchmodat l mode s p lawful lives holds tt)
  each (call.Fchown fd uid gid) seen given = λ s p lawful lives holds rests. attributes.fchown fd uid gid given.0 given.1 s p lawful lives holds rests.0
  each (call.Fchownat dirfd path uid gid flags) seen given = by-path-allowed seen path (λ k. fchownat_here k dirfd uid gid) (λ k. looked_up seen (λ l. fchownat_row k l uid gid)) (λ s p lawful lives holds rests. attributes.here dirfd uid gid given.0 given.1 s p lawful lives holds rests.0) (looked-up-allowed seen (λ k l. fchownat_row k l uid gid) (λ l s p lawful lives holds rests. attributes.fchownat l uid gid given.0 given.1 s p lawful lives holds rests.0))
  each (call.Getdents64 fd buf n) seen given = λ s p lawful lives holds rests. directories.getdents64 fd buf n s p lawful lives holds rests.0
  each (call.Chdir path) seen given = looked-up-allowed seen (λ k l. chdir_row k l) (λ l s p lawful lives holds rests. directories.chdir l s p lawful lives holds rests.1)
  each (call.Fchdir fd) seen given = λ s p lawful lives holds rests. directories.fchdir fd s p lawful lives holds tt
  each (call.Brk a) seen given = λ s p lawful lives holds rests. memories.brk a s p lawful lives holds tt
  each (call.Munmap a len) seen given = λ s p lawful lives holds rests. memories.munmap a len s p lawful lives holds tt
  each (call.Mmap a len prot flags) seen given = λ s p lawful lives holds rests. memories.mmap a len prot flags s p lawful lives holds tt
  each (call.Mprotect a len prot) seen given = λ s p lawful lives holds rests. memories.mprotect a len prot s p lawful lives holds tt
  each (call.Exit code) seen given = λ s p lawful lives holds rests. processes.exit code s p lawful lives holds tt
  each (call.ExitGroup code) seen given = λ s p lawful lives holds rests. processes.exit code s p lawful lives holds tt
  each (call.Umask m) seen given = λ s p lawful lives holds rests. processes.umask m s p lawful lives holds tt
  each (call.Clone flags sp ctid) seen given = λ s p lawful lives holds rests. processes.clone flags sp ctid s p lawful lives holds tt
  each (call.Wait4 child status options usage) seen given = λ s p lawful lives holds rests. processes.wait4 child status options usage s p lawful lives holds tt
  -- all others change nothing
  each r seen given = λ s p lawful lives holds rests. silent-calls M number table mounts pid r seen refl s p lawful lives holds tt

pub operation-is-allowed : (M : Type 0) → OperationIsAllowed M
operation-is-allowed M number table mounts pid r seen kind given = each M number table mounts pid r seen given
