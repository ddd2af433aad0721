-- Calls worked out by hand, on what is known of a small machine: the tests of the caller's memory all succeed or all
-- fail, and what is read of it are sevens.
use Rattle.std.specs.FinMap as map
use Rattle.std.proofs.Common.{◌≡◌, ℕ, Bool, true, false, List, [], ◌∷◌, replicate, refl, Option, Some, None, pos, negsuc}
use Rattle.std.specs.Prelude.{codes, ◌==◌, if◌then◌else◌}
use Rattle.kr_calls.specs.pr_base.declared.errno.Errno.TheVariants.{EPERM, ENOENT, EBADF, ECHILD, ENOMEM, EACCES, EFAULT, EBUSY, EEXIST, EXDEV, ENOTDIR, EISDIR, EINVAL, ENOTTY, EFBIG, ESPIPE, ERANGE, ENOTEMPTY, ELOOP}
use Rattle.kr_calls.specs.pr_base.declared.path.Last.TheVariants as last
use Rattle.kr_calls.specs.rv_mem.Actions.{Done, MayUse, ReadBytes, WriteBytes}
use Rattle.kr_calls.specs.declared.request.Request.{Request}
use Rattle.kr_calls.specs.declared.request.Request.TheVariants as call
use Rattle.kr_files.specs.kr_inode.declared.standing.Standing.{Standing}
use Rattle.kr_files.specs.kr_tree.Tree.{Body, Directory, RegularFile, SymbolicLink, ProcessDirectory}
use Rattle.kr_files.specs.kr_tree.declared.place.Host.TheVariants as host
use Rattle.kr_files.specs.kr_tree.declared.place.ProcAt.TheVariants.{Cwd}
use Rattle.kr_files.specs.declared.opened.Opened.{Opened}
use Rattle.kr_files.specs.declared.opened.What.{What}
use Rattle.kr_files.specs.declared.opened.What.TheVariants.{File, Dir, In, Out, PipeRead, PipeWrite}
use Rattle.kr_model.specs.Change.{AddNode, LinkNode, RemoveName, MoveName, SetMode, SetOwner, SetSize, WriteFile, CloseDescriptor, SetCloexec, Seek, SetAppend, TakeFromPipe, PutIntoPipe, TakeInput, WriteOut, ChangePages, UnmapPages, ProtectPages, SetBreak, ChangeDirectory, SetUmask, Reap, OfFound, OfDescriptor}
use Rattle.kr_model.specs.Known.{Known, Fact}
use Rattle.kr_model.specs.MemoryRows.{mapped_among}
use Rattle.kr_model.specs.NameRows.{is_within}
use Rattle.kr_model.specs.Operation.{operation}
use Rattle.kr_model.specs.Reply.{Reply, Replying, answers, refusal, waits, ends}
use Rattle.kr_model.specs.Seen.{Seen, Taken, Made, NoPath, WalkFails, LooksUp, ReadsLink, Opens, OpensFound, OpensNoName, TakesEntry, TakesNoName, TakesCovered, Takes, MakesEntry, MakesOver, Makes, Links, Moves, NamesDirectory}

-- ---- a small machine

abbrev owned : ℕ → ℕ → Body → Option Fact
owned mode uid body = Some (record { node = record { mode = mode; uid = uid; gid = uid; body = body }; names = 1; directories = 1 })

abbrev in_root : ℕ → Option Standing
in_root serial = Some (record { inode = 1; serial = serial })

-- 1 the root, which another owns; 2 the user's directory with 3 and 4; 3 its file; 4 its empty directory; 5 a link; 6 the
-- process directory; 7 a sticky directory of another with 8, its file; 9 a directory that was removed
abbrev facts : ℕ → Option Fact
facts i =
    if i == 1 then owned 0x1ed 0 (Directory [] (in_root 0))
    else if i == 2 then owned 0x1ed 1000 (Directory (record { name = codes "f"; serial = 3; inode = 3 } ∷ record { name = codes "d"; serial = 4; inode = 4 } ∷ []) (in_root 3))
    else if i == 3 then owned 0x1a4 1000 (RegularFile (codes "abc"))
    else if i == 4 then owned 0x1ed 1000 (Directory [] (Some (record { inode = 2; serial = 4 })))
    else if i == 5 then owned 0x1ff 1000 (SymbolicLink (codes "/g/f"))
    else if i == 6 then owned 0x16d 0 (ProcessDirectory (in_root 4))
    else if i == 7 then owned 0x3ff 0 (Directory (record { name = codes "o"; serial = 3; inode = 8 } ∷ []) (in_root 5))
    else if i == 8 then owned 0x1a4 0 (RegularFile [])
    else if i == 9 then owned 0x1ed 1000 (Directory [] None)
    else None

abbrev open_as : What → Option ℕ → Bool → Bool → Bool → ℕ → Option (Opened (Unit {0}))
open_as what inode read write append at =
    Some (record { place = (elim inode [ Some i ↦ Some (record { mount = tt; host = host.Node i }) | None ↦ None ]); dir = 2; name = codes "f"; what = what; read = read; write = write; append = append; at = at })

-- 0 the input; 1 the output; 3 the file to be read from 1 on; 4 the file at its end to be written; 5 and 6 a pipe's ends;
-- 7 the user's directory; 8 and 9 a full pipe's ends
abbrev open_files : ℕ → Option (Opened (Unit {0}))
open_files fd =
    if fd == 0 then open_as In None true false false 0
    else if fd == 1 then open_as Out None false true false 0
    else if fd == 3 then open_as File (Some 3) true false false 1
    else if fd == 4 then open_as File (Some 3) true true true 0
    else if fd == 5 then open_as (PipeRead 1) None true false false 0
    else if fd == 6 then open_as (PipeWrite 1) None false true false 0
    else if fd == 7 then open_as Dir (Some 2) true false false 0
    else if fd == 8 then open_as (PipeRead 2) None true false false 0
    else None

abbrev machine : Known
machine = record {
  caller = record { parent = 1; layout = map.empty; brk_start = 0x30000; brk = 0x31000; descs = map.empty; cwd = host.Node 2; umask = 0x12 };
  user = record { uid = 1000; gid = 1000 };
  opened = open_files;
  pipe = λ p. if p == 1 then Some (codes "xy") else if p == 2 then Some [] else None;
  reader = λ p. true;
  writer = λ p. true;
  pipes = 2;
  fact = facts;
  sizes = record { inodes = 9; names = 8; bytes = 7; next = 10 };
  input = codes "input";
  living = record { pid = 2; parent = 1; fds = 0 ∷ 1 ∷ [] } ∷ record { pid = 3; parent = 2; fds = [] } ∷ [];
  ended = record { pid = 4; parent = 2; status = 256 } ∷ [];
  next_pid = 5;
  pages = 20;
}

-- where an action ends
abbrev end_of : Bool → Replying → Reply
end_of allowed (Done r) = r
end_of allowed (MayUse at n uses next) = end_of allowed (next allowed)
end_of allowed (ReadBytes at n next) = end_of allowed (next (replicate n 7))
end_of allowed (WriteBytes at bytes next) = end_of allowed next

-- process 2 makes the call
abbrev ends_in : Request → Seen → Reply
ends_in r seen = end_of true (operation 2 r seen machine)

abbrev fails_in : Request → Seen → Reply
fails_in r seen = end_of false (operation 2 r seen machine)

abbrev path : List ℕ
path = codes "p"

-- what paths lead to
abbrev to_node : ℕ → Seen
to_node i = LooksUp (record { host = host.Node i; entry = Some (2, codes "f") })

abbrev entry_in : ℕ → List ℕ → Bool → Option ℕ → Taken
entry_in dir name slash found = Takes (record { dir = host.Node dir; name = name; slash = slash; found = (elim found [ Some i ↦ Some (host.Node i) | None ↦ None ]) })

abbrev new_in : ℕ → Bool → Made
new_in dir slash = Makes (host.Node dir) (codes "n") slash

-- ---- descriptors

dup_of_a_closed_one : ends_in (call.Dup (pos 2)) (NoPath) ≡ refusal EBADF
dup_of_a_closed_one = refl

dup3_above_the_last_one : ends_in (call.Dup3 (pos 3) (pos 1024) 0) (NoPath) ≡ refusal EBADF
dup3_above_the_last_one = refl

fcntl_tells_flags : ends_in (call.Fcntl (pos 4) (pos 3) 0) (NoPath) ≡ answers 0x402 ([])
fcntl_tells_flags = refl

fcntl_sets_append : ends_in (call.Fcntl (pos 3) (pos 4) 0x400) (NoPath) ≡ answers 0 (SetAppend 3 true ∷ [])
fcntl_sets_append = refl

fcntl_sets_cloexec : ends_in (call.Fcntl (pos 3) (pos 2) 1) (NoPath) ≡ answers 0 (SetCloexec 3 true ∷ [])
fcntl_sets_cloexec = refl

fcntl_from_above_the_last_one : ends_in (call.Fcntl (pos 3) (pos 0) 1024) (NoPath) ≡ refusal EINVAL
fcntl_from_above_the_last_one = refl

fcntl_of_another_command : ends_in (call.Fcntl (pos 3) (pos 5) 0) (NoPath) ≡ refusal EINVAL
fcntl_of_another_command = refl

ioctl_of_a_file : ends_in (call.Ioctl (pos 3)) (NoPath) ≡ refusal ENOTTY
ioctl_of_a_file = refl

close_of_a_file : ends_in (call.Close (pos 3)) (NoPath) ≡ answers 0 (CloseDescriptor 3 ∷ [])
close_of_a_file = refl

close_of_a_negative_one : ends_in (call.Close (negsuc 0)) (NoPath) ≡ refusal EBADF
close_of_a_negative_one = refl

lseek_from_the_place : ends_in (call.Lseek (pos 3) (pos 4) (pos 1)) (NoPath) ≡ answers 5 (Seek 3 5 ∷ [])
lseek_from_the_place = refl

lseek_from_the_end : ends_in (call.Lseek (pos 3) (negsuc 0) (pos 2)) (NoPath) ≡ answers 2 (Seek 3 2 ∷ [])
lseek_from_the_end = refl

lseek_before_the_front : ends_in (call.Lseek (pos 3) (negsuc 0) (pos 0)) (NoPath) ≡ refusal EINVAL
lseek_before_the_front = refl

lseek_of_a_pipe : ends_in (call.Lseek (pos 5) (pos 0) (pos 0)) (NoPath) ≡ refusal ESPIPE
lseek_of_a_pipe = refl

lseek_in_a_directory_from_its_end : ends_in (call.Lseek (pos 7) (pos 0) (pos 2)) (NoPath) ≡ refusal EINVAL
lseek_in_a_directory_from_its_end = refl

-- ---- files

read_to_the_end : ends_in (call.Read (pos 3) 0x1000 10) (NoPath) ≡ answers 2 (Seek 3 3 ∷ [])
read_to_the_end = refl

read_into_what_cant_be_written : fails_in (call.Read (pos 3) 0x1000 10) (NoPath) ≡ refusal EFAULT
read_into_what_cant_be_written = refl

read_of_a_directory : ends_in (call.Read (pos 7) 0x1000 10) (NoPath) ≡ refusal EISDIR
read_of_a_directory = refl

read_of_input : ends_in (call.Read (pos 0) 0x1000 3) (NoPath) ≡ answers 3 (TakeInput 3 ∷ [])
read_of_input = refl

read_of_a_pipe : ends_in (call.Read (pos 5) 0x1000 1) (NoPath) ≡ answers 1 (TakeFromPipe 1 1 ∷ [])
read_of_a_pipe = refl

read_of_an_empty_pipe : ends_in (call.Read (pos 8) 0x1000 1) (NoPath) ≡ end_of true waits
read_of_an_empty_pipe = refl

readv_of_no_piece : ends_in (call.Readv (pos 3) 0x1000 0) (NoPath) ≡ answers 0 ([])
readv_of_no_piece = refl

readv_of_too_many_pieces : ends_in (call.Readv (pos 3) 0x1000 1025) (NoPath) ≡ refusal EINVAL
readv_of_too_many_pieces = refl

write_at_the_end : ends_in (call.Write (pos 4) 0x1000 2) (NoPath) ≡ answers 2 (WriteFile 3 3 (7 ∷ 7 ∷ []) ∷ Seek 4 5 ∷ [])
write_at_the_end = refl

write_of_what_cant_be_read : fails_in (call.Write (pos 4) 0x1000 2) (NoPath) ≡ refusal EFAULT
write_of_what_cant_be_read = refl

write_where_none_is_allowed : ends_in (call.Write (pos 3) 0x1000 2) (NoPath) ≡ refusal EBADF
write_where_none_is_allowed = refl

write_to_the_console : ends_in (call.Write (pos 1) 0x1000 2) (NoPath) ≡ answers 2 (WriteOut (7 ∷ 7 ∷ []) ∷ [])
write_to_the_console = refl

write_to_a_pipe : ends_in (call.Write (pos 6) 0x1000 1) (NoPath) ≡ answers 1 (PutIntoPipe 1 (7 ∷ []) ∷ [])
write_to_a_pipe = refl

writev_of_a_list_that_cant_be_read : fails_in (call.Writev (pos 4) 0x1000 1) (NoPath) ≡ refusal EFAULT
writev_of_a_list_that_cant_be_read = refl

ftruncate_to_a_size : ends_in (call.Ftruncate (pos 4) 1) (NoPath) ≡ answers 0 (SetSize 3 1 ∷ [])
ftruncate_to_a_size = refl

ftruncate_of_what_is_read : ends_in (call.Ftruncate (pos 3) 1) (NoPath) ≡ refusal EINVAL
ftruncate_of_what_is_read = refl

ftruncate_past_the_limit : ends_in (call.Ftruncate (pos 4) 16777217) (NoPath) ≡ refusal EFBIG
ftruncate_past_the_limit = refl

open_of_a_link_that_isnt_followed : ends_in (call.Openat (negsuc 99) path 0x20000 0) (Opens (OpensFound (record { host = host.Node 5; entry = None }))) ≡ refusal ELOOP
open_of_a_link_that_isnt_followed = refl

open_of_a_directory_to_write : ends_in (call.Openat (negsuc 99) path 1 0) (Opens (OpensFound (record { host = host.Node 2; entry = None }))) ≡ refusal EISDIR
open_of_a_directory_to_write = refl

open_of_a_file_as_a_directory : ends_in (call.Openat (negsuc 99) path 0x10000 0) (Opens (OpensFound (record { host = host.Node 3; entry = None }))) ≡ refusal ENOTDIR
open_of_a_file_as_a_directory = refl

open_of_anothers_file_to_write : ends_in (call.Openat (negsuc 99) path 1 0) (Opens (OpensFound (record { host = host.Node 8; entry = None }))) ≡ refusal EACCES
open_of_anothers_file_to_write = refl

open_of_what_is_there_with_excl : ends_in (call.Openat (negsuc 99) path 0xc0 0) (Opens (OpensFound (record { host = host.Node 3; entry = None }))) ≡ refusal EEXIST
open_of_what_is_there_with_excl = refl

open_to_make_dot : ends_in (call.Openat (negsuc 99) path 0x40 0) (Opens (OpensNoName last.Dot)) ≡ refusal EISDIR
open_to_make_dot = refl

-- ---- names

mkdirat_in_the_users : ends_in (call.Mkdirat (negsuc 99) path 0x1ff) (MakesEntry (new_in 2 true)) ≡ answers 0 (AddNode 2 (codes "n") 0x1ed 1000 1000 (Directory [] None) ∷ [])
mkdirat_in_the_users = refl

mkdirat_in_anothers : ends_in (call.Mkdirat (negsuc 99) path 0x1ff) (MakesEntry (new_in 1 false)) ≡ refusal EACCES
mkdirat_in_anothers = refl

mkdirat_in_a_removed_one : ends_in (call.Mkdirat (negsuc 99) path 0x1ff) (MakesEntry (new_in 9 false)) ≡ refusal ENOENT
mkdirat_in_a_removed_one = refl

mkdirat_of_what_is_there : ends_in (call.Mkdirat (negsuc 99) path 0x1ff) (MakesEntry MakesOver) ≡ refusal EEXIST
mkdirat_of_what_is_there = refl

symlinkat_of_a_free_name : ends_in (call.Symlinkat (codes "t") (negsuc 99) path) (MakesEntry (new_in 2 false)) ≡ answers 0 (AddNode 2 (codes "n") 0x1ff 1000 1000 (SymbolicLink (codes "t")) ∷ [])
symlinkat_of_a_free_name = refl

symlinkat_with_a_slash : ends_in (call.Symlinkat (codes "t") (negsuc 99) path) (MakesEntry (new_in 2 true)) ≡ refusal ENOENT
symlinkat_with_a_slash = refl

linkat_of_a_file : ends_in (call.Linkat (negsuc 99) path (negsuc 99) path 0) (Links (record { host = host.Node 3; entry = None }) (new_in 2 false) true) ≡ answers 0 (LinkNode 2 (codes "n") 3 ∷ [])
linkat_of_a_file = refl

linkat_between_mounts : ends_in (call.Linkat (negsuc 99) path (negsuc 99) path 0) (Links (record { host = host.Node 3; entry = None }) (new_in 2 false) false) ≡ refusal EXDEV
linkat_between_mounts = refl

linkat_of_a_directory : ends_in (call.Linkat (negsuc 99) path (negsuc 99) path 0) (Links (record { host = host.Node 4; entry = None }) (new_in 2 false) true) ≡ refusal EPERM
linkat_of_a_directory = refl

unlinkat_of_a_file : ends_in (call.Unlinkat (negsuc 99) path 0) (TakesEntry (entry_in 2 (codes "f") false (Some 3))) ≡ answers 0 (RemoveName 2 (codes "f") ∷ [])
unlinkat_of_a_file = refl

unlinkat_of_a_directory : ends_in (call.Unlinkat (negsuc 99) path 0) (TakesEntry (entry_in 2 (codes "d") false (Some 4))) ≡ refusal EISDIR
unlinkat_of_a_directory = refl

unlinkat_of_a_file_with_a_slash : ends_in (call.Unlinkat (negsuc 99) path 0) (TakesEntry (entry_in 2 (codes "f") true (Some 3))) ≡ refusal ENOTDIR
unlinkat_of_a_file_with_a_slash = refl

unlinkat_of_a_mount_point : ends_in (call.Unlinkat (negsuc 99) path 0) (TakesEntry TakesCovered) ≡ refusal EBUSY
unlinkat_of_a_mount_point = refl

unlinkat_of_the_process_directory : ends_in (call.Unlinkat (negsuc 99) path 0x200) (TakesEntry (entry_in 1 (codes "proc") false (Some 6))) ≡ refusal EBUSY
unlinkat_of_the_process_directory = refl

unlinkat_of_what_is_missing : ends_in (call.Unlinkat (negsuc 99) path 0) (TakesEntry (entry_in 2 (codes "n") false None)) ≡ refusal ENOENT
unlinkat_of_what_is_missing = refl

unlinkat_in_a_sticky_directory : ends_in (call.Unlinkat (negsuc 99) path 0) (TakesEntry (entry_in 7 (codes "o") false (Some 8))) ≡ refusal EPERM
unlinkat_in_a_sticky_directory = refl

rmdir_of_an_empty_one : ends_in (call.Unlinkat (negsuc 99) path 0x200) (TakesEntry (entry_in 2 (codes "d") true (Some 4))) ≡ answers 0 (RemoveName 2 (codes "d") ∷ [])
rmdir_of_an_empty_one = refl

rmdir_of_a_filled_one : ends_in (call.Unlinkat (negsuc 99) path 0x200) (TakesEntry (entry_in 2 (codes "x") false (Some 2))) ≡ refusal ENOTEMPTY
rmdir_of_a_filled_one = refl

rmdir_of_dot : ends_in (call.Unlinkat (negsuc 99) path 0x200) (TakesEntry (TakesNoName last.Dot)) ≡ refusal EINVAL
rmdir_of_dot = refl

rename_to_a_free_name : ends_in (call.Renameat2 (negsuc 99) path (negsuc 99) path) (Moves (entry_in 2 (codes "f") false (Some 3)) (entry_in 4 (codes "n") false None) true) ≡ answers 0 (MoveName 2 (codes "f") 4 (codes "n") ∷ [])
unfolding is_within
rename_to_a_free_name = refl

rename_between_mounts : ends_in (call.Renameat2 (negsuc 99) path (negsuc 99) path) (Moves (TakesNoName last.Dot) TakesCovered false) ≡ refusal EXDEV
rename_between_mounts = refl

rename_of_dot : ends_in (call.Renameat2 (negsuc 99) path (negsuc 99) path) (Moves (TakesNoName last.Dot) TakesCovered true) ≡ refusal EBUSY
rename_of_dot = refl

rename_of_what_is_missing_onto_a_mount_point : ends_in (call.Renameat2 (negsuc 99) path (negsuc 99) path) (Moves (entry_in 2 (codes "n") false None) TakesCovered true) ≡ refusal ENOENT
rename_of_what_is_missing_onto_a_mount_point = refl

rename_of_a_file_with_a_slash : ends_in (call.Renameat2 (negsuc 99) path (negsuc 99) path) (Moves (entry_in 2 (codes "f") false (Some 3)) (entry_in 4 (codes "n") true None) true) ≡ refusal ENOTDIR
rename_of_a_file_with_a_slash = refl

rename_into_itself : ends_in (call.Renameat2 (negsuc 99) path (negsuc 99) path) (Moves (entry_in 1 (codes "g") false (Some 2)) (entry_in 4 (codes "n") false None) true) ≡ refusal EINVAL
unfolding is_within
rename_into_itself = refl

rename_over_what_is_above : ends_in (call.Renameat2 (negsuc 99) path (negsuc 99) path) (Moves (entry_in 4 (codes "n") false (Some 3)) (entry_in 1 (codes "g") false (Some 2)) true) ≡ refusal ENOTEMPTY
unfolding is_within
rename_over_what_is_above = refl

rename_onto_itself : ends_in (call.Renameat2 (negsuc 99) path (negsuc 99) path) (Moves (entry_in 2 (codes "f") false (Some 3)) (entry_in 2 (codes "f") false (Some 3)) true) ≡ answers 0 ([])
unfolding is_within
rename_onto_itself = refl

rename_in_anothers : ends_in (call.Renameat2 (negsuc 99) path (negsuc 99) path) (Moves (entry_in 1 (codes "g") false (Some 2)) (entry_in 1 (codes "n") false None) true) ≡ refusal EACCES
unfolding is_within
rename_in_anothers = refl

rename_of_a_file_onto_a_directory : ends_in (call.Renameat2 (negsuc 99) path (negsuc 99) path) (Moves (entry_in 2 (codes "f") false (Some 3)) (entry_in 2 (codes "d") false (Some 4)) true) ≡ refusal EISDIR
unfolding is_within
rename_of_a_file_onto_a_directory = refl

rename_of_a_directory_onto_a_file : ends_in (call.Renameat2 (negsuc 99) path (negsuc 99) path) (Moves (entry_in 2 (codes "d") false (Some 4)) (entry_in 2 (codes "f") false (Some 3)) true) ≡ refusal ENOTDIR
unfolding is_within
rename_of_a_directory_onto_a_file = refl

-- ---- attributes

faccessat_to_read : ends_in (call.Faccessat (negsuc 99) path 4) (to_node 3) ≡ answers 0 ([])
faccessat_to_read = refl

faccessat_to_execute : ends_in (call.Faccessat (negsuc 99) path 5) (to_node 3) ≡ refusal EACCES
faccessat_to_execute = refl

fchmod_of_a_file : ends_in (call.Fchmod (pos 3) 0x11ff) (NoPath) ≡ answers 0 (SetMode 3 0x1ff ∷ [])
fchmod_of_a_file = refl

fchmod_of_a_pipe : ends_in (call.Fchmod (pos 5) 0x1ff) (NoPath) ≡ refusal EPERM
fchmod_of_a_pipe = refl

fchmodat_of_anothers : ends_in (call.Fchmodat (negsuc 99) path 0x1ff) (to_node 8) ≡ refusal EPERM
fchmodat_of_anothers = refl

fchmodat_of_the_process_directory : ends_in (call.Fchmodat (negsuc 99) path 0x1ff) (to_node 6) ≡ refusal EPERM
fchmodat_of_the_process_directory = refl

fchown_to_the_own_group : ends_in (call.Fchown (pos 3) 0xffffffff 1000) (NoPath) ≡ answers 0 (SetOwner 3 1000 1000 ∷ [])
fchown_to_the_own_group = refl

fchown_to_another : ends_in (call.Fchown (pos 3) 0 0xffffffff) (NoPath) ≡ refusal EPERM
fchown_to_another = refl

fchownat_of_nothing : ends_in (call.Fchownat (negsuc 99) path 0xffffffff 0xffffffff 0) (to_node 8) ≡ answers 0 ([])
fchownat_of_nothing = refl

fchownat_of_the_working_directory : ends_in (call.Fchownat (negsuc 99) [] 1000 0xffffffff 0x1000) (NoPath) ≡ answers 0 (SetOwner 2 1000 1000 ∷ [])
fchownat_of_the_working_directory = refl

fstat_of_a_file : ends_in (call.Fstat (pos 3) 0x1000) (NoPath) ≡ answers 0 ([])
fstat_of_a_file = refl

fstat_where_it_cant_be_written : fails_in (call.Fstat (pos 1) 0x1000) (NoPath) ≡ refusal EFAULT
fstat_where_it_cant_be_written = refl

newfstatat_of_an_empty_path : ends_in (call.Newfstatat (pos 2) [] 0x1000 0x1000) (NoPath) ≡ refusal EBADF
newfstatat_of_an_empty_path = refl

newfstatat_of_a_missing_path : ends_in (call.Newfstatat (negsuc 99) path 0x1000 0) (WalkFails ENOENT) ≡ refusal ENOENT
newfstatat_of_a_missing_path = refl

readlinkat_of_a_link : ends_in (call.Readlinkat (negsuc 99) path 0x1000 (pos 3)) (ReadsLink (record { host = host.Node 5; entry = None }) None) ≡ answers 3 ([])
readlinkat_of_a_link = refl

readlinkat_of_a_file : ends_in (call.Readlinkat (negsuc 99) path 0x1000 (pos 3)) (ReadsLink (record { host = host.Node 3; entry = None }) None) ≡ refusal EINVAL
readlinkat_of_a_file = refl

readlinkat_of_a_nameless_one : ends_in (call.Readlinkat (negsuc 99) path 0x1000 (pos 3)) (ReadsLink (record { host = host.Proc 6 (Cwd 2); entry = None }) None) ≡ refusal ENOENT
readlinkat_of_a_nameless_one = refl

-- ---- directories

getdents64_of_a_directory : ends_in (call.Getdents64 (pos 7) 0x1000 (pos 50)) (NoPath) ≡ answers 48 (Seek 7 2 ∷ [])
getdents64_of_a_directory = refl

getdents64_without_room : ends_in (call.Getdents64 (pos 7) 0x1000 (pos 23)) (NoPath) ≡ refusal EINVAL
getdents64_without_room = refl

getdents64_of_a_file : ends_in (call.Getdents64 (pos 3) 0x1000 (pos 50)) (NoPath) ≡ refusal ENOTDIR
getdents64_of_a_file = refl

chdir_to_a_directory : ends_in (call.Chdir path) (to_node 4) ≡ answers 0 (ChangeDirectory OfFound (host.Node 4) ∷ [])
chdir_to_a_directory = refl

chdir_to_a_file : ends_in (call.Chdir path) (to_node 3) ≡ refusal ENOTDIR
chdir_to_a_file = refl

fchdir_to_a_directory : ends_in (call.Fchdir (pos 7)) (NoPath) ≡ answers 0 (ChangeDirectory (OfDescriptor 7) (host.Node 2) ∷ [])
fchdir_to_a_directory = refl

chroot_to_a_directory : ends_in (call.Chroot path) (to_node 4) ≡ refusal EPERM
chroot_to_a_directory = refl

getcwd_in_a_large_buffer : ends_in (call.Getcwd 0x1000 3) (NamesDirectory (Some (codes "/g"))) ≡ answers 3 ([])
getcwd_in_a_large_buffer = refl

getcwd_in_a_small_buffer : ends_in (call.Getcwd 0x1000 2) (NamesDirectory (Some (codes "/g"))) ≡ refusal ERANGE
getcwd_in_a_small_buffer = refl

getcwd_of_a_removed_one : ends_in (call.Getcwd 0x1000 9) (NamesDirectory None) ≡ refusal ENOENT
getcwd_of_a_removed_one = refl

-- ---- processes

exit_with_a_code : ends_in (call.Exit (pos 257)) (NoPath) ≡ end_of true (ends 256)
exit_with_a_code = refl

exit_group_with_a_negative_code : ends_in (call.ExitGroup (negsuc 0)) (NoPath) ≡ end_of true (ends 65280)
exit_group_with_a_negative_code = refl

set_tid_address_tells_the_number : ends_in (call.SetTidAddress) (NoPath) ≡ answers 2 ([])
set_tid_address_tells_the_number = refl

sigaction_does_nothing : ends_in (call.RtSigaction) (NoPath) ≡ answers 0 ([])
sigaction_does_nothing = refl

sigprocmask_does_nothing : ends_in (call.RtSigprocmask) (NoPath) ≡ answers 0 ([])
sigprocmask_does_nothing = refl

uname_is_written : ends_in (call.Uname 0x1000) (NoPath) ≡ answers 0 ([])
uname_is_written = refl

uname_where_it_cant_be : fails_in (call.Uname 0x1000) (NoPath) ≡ refusal EFAULT
uname_where_it_cant_be = refl

umask_of_nine_bits : ends_in (call.Umask 0x23f) (NoPath) ≡ answers 0x12 (SetUmask 0x3f ∷ [])
umask_of_nine_bits = refl

getpid_tells_the_number : ends_in (call.Getpid) (NoPath) ≡ answers 2 ([])
getpid_tells_the_number = refl

gettid_tells_the_number : ends_in (call.Gettid) (NoPath) ≡ answers 2 ([])
gettid_tells_the_number = refl

getppid_tells_the_parents : ends_in (call.Getppid) (NoPath) ≡ answers 1 ([])
getppid_tells_the_parents = refl

clone_with_other_flags : ends_in (call.Clone 0x11111 0 0) (NoPath) ≡ refusal EINVAL
clone_with_other_flags = refl

wait4_of_any_child : ends_in (call.Wait4 (negsuc 0) 0 (pos 0) 0) (NoPath) ≡ answers 4 (Reap 4 ∷ [])
wait4_of_any_child = refl

wait4_of_a_living_one : ends_in (call.Wait4 (pos 3) 0 (pos 0) 0) (NoPath) ≡ end_of true waits
wait4_of_a_living_one = refl

wait4_of_a_living_one_without_a_wait : ends_in (call.Wait4 (pos 3) 0 (pos 1) 0) (NoPath) ≡ answers 0 ([])
wait4_of_a_living_one_without_a_wait = refl

wait4_of_none : ends_in (call.Wait4 (pos 9) 0 (pos 0) 0) (NoPath) ≡ refusal ECHILD
wait4_of_none = refl

wait4_where_it_cant_be_written : fails_in (call.Wait4 (pos 4) 0x1000 (pos 0) 0) (NoPath) ≡ refusal EFAULT
wait4_where_it_cant_be_written = refl

-- ---- identity

getuid_tells_the_users : ends_in (call.Getuid) (NoPath) ≡ answers 1000 ([])
getuid_tells_the_users = refl

geteuid_tells_the_users : ends_in (call.Geteuid) (NoPath) ≡ answers 1000 ([])
geteuid_tells_the_users = refl

getgid_tells_the_groups : ends_in (call.Getgid) (NoPath) ≡ answers 1000 ([])
getgid_tells_the_groups = refl

getegid_tells_the_groups : ends_in (call.Getegid) (NoPath) ≡ answers 1000 ([])
getegid_tells_the_groups = refl

setuid_of_no_number : ends_in (call.Setuid 0xffffffff) (NoPath) ≡ refusal EINVAL
setuid_of_no_number = refl

setuid_of_root : ends_in (call.Setuid 0) (NoPath) ≡ refusal EPERM
setuid_of_root = refl

setgid_of_the_own_one : ends_in (call.Setgid 1000) (NoPath) ≡ answers 0 ([])
setgid_of_the_own_one = refl

setreuid_of_none : ends_in (call.Setreuid 0xffffffff 0xffffffff) (NoPath) ≡ answers 0 ([])
setreuid_of_none = refl

setregid_of_another : ends_in (call.Setregid 1000 1001) (NoPath) ≡ refusal EPERM
setregid_of_another = refl

setresuid_of_another : ends_in (call.Setresuid 1000 1000 0) (NoPath) ≡ refusal EPERM
setresuid_of_another = refl

setresgid_of_the_own_ones : ends_in (call.Setresgid 1000 0xffffffff 1000) (NoPath) ≡ answers 0 ([])
setresgid_of_the_own_ones = refl

getresuid_where_it_cant_be_written : fails_in (call.Getresuid 1 2 3) (NoPath) ≡ refusal EFAULT
getresuid_where_it_cant_be_written = refl

getresgid_is_written : ends_in (call.Getresgid 1 2 3) (NoPath) ≡ answers 0 ([])
getresgid_is_written = refl

getgroups_tells_the_count : ends_in (call.Getgroups (pos 0) 0) (NoPath) ≡ answers 1 ([])
getgroups_tells_the_count = refl

getgroups_of_a_negative_size : ends_in (call.Getgroups (negsuc 0) 0) (NoPath) ≡ refusal EINVAL
getgroups_of_a_negative_size = refl

setgroups_is_refused : ends_in (call.Setgroups (pos 0) 0) (NoPath) ≡ refusal EPERM
setgroups_is_refused = refl

-- ---- memory

brk_below_the_start : ends_in (call.Brk 0) (NoPath) ≡ answers 0x31000 []
brk_below_the_start = refl

brk_back : ends_in (call.Brk 0x30800) (NoPath) ≡ answers 0x30800 (ChangePages (UnmapPages 0x31 0) ∷ SetBreak 0x30800 ∷ [])
brk_back = refl

mmap_outside_the_places : ends_in (call.Mmap 0x1000 0x1000 3 0x32) (NoPath) ≡ refusal ENOMEM
mmap_outside_the_places = refl

munmap_rounds_up : ends_in (call.Munmap 0x1000 0x1001) (NoPath) ≡ answers 0 (ChangePages (UnmapPages 1 2) ∷ [])
munmap_rounds_up = refl

mprotect_of_no_bytes : ends_in (call.Mprotect 0x1000 0 5) (NoPath) ≡ answers 0 (ChangePages (ProtectPages 1 0 (record { r = true; w = false; x = true })) ∷ [])
unfolding mapped_among
mprotect_of_no_bytes = refl
