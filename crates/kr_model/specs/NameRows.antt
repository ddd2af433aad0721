-- Calls that change names, each in the order of its tests (section 2 of the manual; the order is our own).
use Rattle.std.specs.Prelude.{ℕ, zero, suc, ◌+◌, ◌==◌, ◌&&◌, ◌||◌, not, Bool, true, false, List, [], ◌∷◌, length, Option, Some, None, if◌then◌else◌}
use Rattle.std.specs.Int.RustNames.{bit_and}
use Rattle.std.specs.Option.{option_map_or}
use Rattle.kr_calls.specs.pr_base.declared.errno.Errno.{Errno}
use Rattle.kr_calls.specs.pr_base.declared.errno.Errno.TheVariants.{EPERM, ENOENT, EACCES, EBUSY, EEXIST, EXDEV, ENOTDIR, EISDIR, EINVAL, ENOSPC, ENOTEMPTY}
use Rattle.kr_calls.specs.pr_base.declared.path.Last.{Last}
use Rattle.kr_calls.specs.pr_base.declared.path.Last.TheVariants as last
use Rattle.kr_calls.specs.Arguments.{has}
use Rattle.kr_files.specs.kr_inode.declared.user.Right.TheVariants.{Write}
use Rattle.kr_files.specs.kr_tree.Tree.{Node, Directory, SymbolicLink, root, is_directory, is_filled, standing_of}
use Rattle.kr_files.specs.kr_tree.Rights.{allows, is_kept_by_sticky}
use Rattle.kr_files.specs.kr_tree.declared.place.Host.{Host}
use Rattle.kr_files.specs.kr_tree.declared.place.Host.TheVariants as host
use Rattle.kr_files.specs.kr_tree.declared.place.ProcAt.TheVariants.{Dir, FdDir}
use Rattle.kr_model.specs.Asking.{same_host, body_passes, is_directory_host, is_processes_host, writable, has_no_room, has_no_name_left, unmasked}
use Rattle.kr_model.specs.Change.{AddNode, LinkNode, RemoveName, MoveName}
use Rattle.kr_model.specs.Known.{Known, known_node}
use Rattle.kr_model.specs.Reply.{Replying, done, refuse}
use Rattle.kr_model.specs.Seen.{Looked, Entered, Taken, TakesNoName, TakesCovered, Takes, Made, MakesNoName, MakesOver, Makes}

-- ---- new names

-- a directory is the user's, and has the mode's bits 01777 but for those of the mask
abbrev pub make_directory : Known → ℕ → List ℕ → ℕ → Node → Replying
make_directory k mode name d n =
    if has_no_room 0 k then refuse ENOSPC
    else done 0 (AddNode d name (unmasked k (bit_and mode 0x3ff)) k.user.uid k.user.gid (Directory [] None) ∷ [])

-- mkdirat(2): EEXIST of an ending that is no name, and of what is there; ENOENT or EACCES of the directory, ENOSPC. A
-- slash is ignored
abbrev pub mkdirat_row : Known → Made → ℕ → Replying
mkdirat_row k (MakesNoName last) mode = refuse EEXIST
mkdirat_row k MakesOver mode = refuse EEXIST
mkdirat_row k (Makes dir name slash) mode = writable k dir (make_directory k mode name)

-- a link is the user's, and has the mode 0777
abbrev pub make_link : Known → List ℕ → List ℕ → ℕ → Node → Replying
make_link k text name d n =
    if has_no_room (length text) k then refuse ENOSPC
    else done 0 (AddNode d name 0x1ff k.user.uid k.user.gid (SymbolicLink text) ∷ [])

-- symlinkat(2): EEXIST of an ending that is no name, and of what is there; ENOENT of a slash; ENOENT or EACCES of the
-- directory, ENOSPC
abbrev pub symlinkat_row : Known → Made → List ℕ → Replying
symlinkat_row k (MakesNoName last) text = refuse EEXIST
symlinkat_row k MakesOver text = refuse EEXIST
symlinkat_row k (Makes dir name slash) text = if slash then refuse ENOENT else writable k dir (make_link k text name)

-- another name, for what is in the tree and is no directory
abbrev pub link_node : Known → ℕ → List ℕ → ℕ → Node → Replying
link_node k i name d n = if has_no_name_left k then refuse ENOSPC else done 0 (LinkNode d name i ∷ [])

abbrev pub link_host : Known → Host → Host → List ℕ → Replying
link_host k (host.Node i) dir name = if body_passes is_directory k i then refuse EPERM else writable k dir (link_node k i name)
link_host k (host.Proc i at) dir name = refuse EPERM

-- linkat(2): EEXIST of an ending that is no name, and of what is there; ENOENT of a slash; EXDEV; EPERM of a directory
-- and of what is in the process directory; ENOENT or EACCES of the new directory, ENOSPC
abbrev pub linkat_row : Known → Looked → Made → Bool → Replying
linkat_row k old (MakesNoName last) same_mount = refuse EEXIST
linkat_row k old MakesOver same_mount = refuse EEXIST
linkat_row k old (Makes dir name slash) same_mount =
    if slash then refuse ENOENT else if not same_mount then refuse EXDEV else link_host k old.host dir name

-- ---- names that go

-- AT_REMOVEDIR
abbrev pub removes_directory : ℕ → Bool
removes_directory flags = has flags 0x200

-- EISDIR of a directory
abbrev pub remove_file : Known → List ℕ → ℕ → Node → Replying
remove_file k name d n = if is_directory n.body then refuse EISDIR else done 0 (RemoveName d name ∷ [])

-- ENOTDIR of what is no directory, ENOTEMPTY of one with entries
abbrev pub remove_directory : Known → List ℕ → ℕ → Node → Replying
remove_directory k name d n =
    if not (is_directory n.body) then refuse ENOTDIR
    else if is_filled n.body then refuse ENOTEMPTY
    else done 0 (RemoveName d name ∷ [])

-- EPERM of a sticky directory
abbrev pub unless_kept : Known → Node → Node → Replying → Replying
unless_kept k d n next = if is_kept_by_sticky k.user d n then refuse EPERM else next

-- ENOENT or EACCES of the directory, the sticky rule, and what follows of the entry's node. What stands in the process
-- directory was refused with its directory
abbrev pub take_entry : Known → Entered → Host → (ℕ → Node → Replying) → Replying
take_entry k e (host.Node i) next = writable k e.dir (λ d n. option_map_or (λ x. unless_kept k n x (next d x)) (known_node k i) (refuse ENOENT))
take_entry k e (host.Proc i at) next = writable k e.dir (λ d n. refuse EACCES)

-- what is there: EBUSY of the process directory; a slash is EISDIR of a directory and else ENOTDIR
abbrev pub unlink_found : Known → Entered → Host → Replying
unlink_found k e found =
    if is_processes_host k found then refuse EBUSY
    else if e.slash then refuse (if is_directory_host k found then EISDIR else ENOTDIR)
    else take_entry k e found (remove_file k e.name)

-- unlinkat(2): EISDIR of an ending that is no name; ENOENT; EBUSY of a mount point; the slash; ENOENT or EACCES of the
-- directory, EPERM, EISDIR
abbrev pub unlink_row : Known → Taken → Replying
unlink_row k (TakesNoName last) = refuse EISDIR
unlink_row k TakesCovered = refuse EBUSY
unlink_row k (Takes e) = option_map_or (unlink_found k e) e.found (refuse ENOENT)

-- of `.`, `..` and the root
abbrev pub ending_removed : Last → Errno
ending_removed last.Name = ENOENT
ending_removed last.Dot = EINVAL
ending_removed last.DotDot = ENOTEMPTY
ending_removed last.Root = EBUSY

abbrev pub rmdir_found : Known → Entered → Host → Replying
rmdir_found k e found =
    if is_processes_host k found then refuse EBUSY else take_entry k e found (remove_directory k e.name)

-- unlinkat(2) with AT_REMOVEDIR: EINVAL of `.`, ENOTEMPTY of `..`, EBUSY of the root; ENOENT; EBUSY of a mount point;
-- ENOENT or EACCES of the directory, EPERM, ENOTDIR, ENOTEMPTY. A slash is ignored
abbrev pub rmdir_row : Known → Taken → Replying
rmdir_row k (TakesNoName last) = refuse (ending_removed last)
rmdir_row k TakesCovered = refuse EBUSY
rmdir_row k (Takes e) = option_map_or (rmdir_found k e) e.found (refuse ENOENT)

abbrev pub unlinkat_row : Known → Taken → ℕ → Replying
unlinkat_row k taken flags = if removes_directory flags then rmdir_row k taken else unlink_row k taken

-- ---- names that move

-- the directory above one: none above the root, and above what was removed
abbrev pub node_above : Known → ℕ → Option Host
node_above k i =
    if i == root then None
    else option_map_or (λ n. option_map_or (λ s. Some (host.Node s.inode)) (standing_of n.body) None) (known_node k i) None

abbrev pub host_above : Known → Host → Option Host
host_above k (host.Node i) = node_above k i
host_above k (host.Proc i (Dir pid)) = Some (host.Node i)
host_above k (host.Proc i (FdDir pid)) = Some (host.Proc i (Dir pid))
host_above k (host.Proc i _) = None

-- whether a directory stands fewer than n steps below another, where it stands 0 steps below itself
unfoldable pub is_within : ℕ → Known → Host → Host → Bool
is_within zero k top dir = false
is_within (suc n) k top dir = same_host top dir || option_map_or (is_within n k top) (host_above k dir) false

-- no directory is met twice on the way up; so it has fewer steps than numbers were drawn, and two in the process directory
abbrev pub is_at_or_above : Known → Host → Host → Bool
is_at_or_above k top dir = is_within (k.sizes.next + 2) k top dir

-- EACCES of a directory that changes its parent and can't be written itself
abbrev pub can_move : Known → ℕ → ℕ → Node → Bool
can_move k d to n = not (is_directory n.body) || d == to || allows k.user n Write

-- onto a free name
abbrev pub move_free : Known → Entered → Entered → ℕ → ℕ → Node → Replying
move_free k old new d to n = if can_move k d to n then done 0 (MoveName d old.name to new.name ∷ []) else refuse EACCES

-- in place of what is there: ENOTDIR, EISDIR and ENOTEMPTY by the kinds of both
abbrev pub move_over : Known → Entered → Entered → ℕ → ℕ → Node → Node → Replying
move_over k old new d to n x =
    if not (can_move k d to n) then refuse EACCES
    else if is_directory n.body && not (is_directory x.body) then refuse ENOTDIR
    else if is_directory x.body && not (is_directory n.body) then refuse EISDIR
    else if is_filled x.body then refuse ENOTEMPTY
    else done 0 (MoveName d old.name to new.name ∷ [])

-- the sticky rule on the old entry, then on the new one if it is there
abbrev pub move_onto : Known → Entered → Entered → ℕ → ℕ → Node → Node → Node → Option Host → Replying
move_onto k old new d to dn tn n None = unless_kept k dn n (move_free k old new d to n)
move_onto k old new d to dn tn n (Some (host.Node j)) =
    unless_kept k dn n (option_map_or (λ x. unless_kept k tn x (move_over k old new d to n x)) (known_node k j) (refuse ENOENT))
move_onto k old new d to dn tn n (Some (host.Proc j at)) = refuse EACCES

-- the old directory, then the new one. What stands in the process directory was refused with its directory
abbrev pub move_entry : Known → Entered → Entered → Host → Replying
move_entry k old new (host.Node i) =
    writable k old.dir (λ d dn. writable k new.dir (λ to tn. option_map_or (λ n. move_onto k old new d to dn tn n new.found) (known_node k i) (refuse ENOENT)))
move_entry k old new (host.Proc i at) = writable k old.dir (λ d dn. refuse EACCES)

-- two names of one object: nothing changes
abbrev pub is_one : Host → Option Host → Bool
is_one found None = false
is_one found (Some other) = same_host found other

abbrev pub is_above_old : Known → Entered → Option Host → Bool
is_above_old k old None = false
is_above_old k old (Some other) = is_at_or_above k other old.dir

abbrev pub move_found : Known → Entered → Entered → Host → Replying
move_found k old new found =
    if is_processes_host k found then refuse EBUSY
    else if option_map_or (is_processes_host k) new.found false then refuse EBUSY
    else if not (is_directory_host k found) && (old.slash || new.slash) then refuse ENOTDIR
    else if is_at_or_above k found new.dir then refuse EINVAL
    else if is_above_old k old new.found then refuse ENOTEMPTY
    else if is_one found new.found then done 0 []
    else move_entry k old new found

-- EBUSY of a mount point: the old entry before the new one
abbrev pub move_uncovered : Known → Entered → Taken → Host → Replying
move_uncovered k old (TakesNoName last) found = refuse EBUSY
move_uncovered k old TakesCovered found = refuse EBUSY
move_uncovered k old (Takes new) found = move_found k old new found

abbrev pub ends_in_name : Taken → Bool
ends_in_name (TakesNoName last) = false
ends_in_name TakesCovered = true
ends_in_name (Takes e) = true

abbrev pub move_taken : Known → Taken → Taken → Replying
move_taken k (TakesNoName last) new = refuse EBUSY
move_taken k TakesCovered new = refuse EBUSY
move_taken k (Takes old) new = option_map_or (move_uncovered k old new) old.found (refuse ENOENT)

-- renameat2(2): EXDEV; EBUSY of an ending that is no name; ENOENT of the old entry; EBUSY of an old entry, then of a new
-- one, at which a mount stands; ENOTDIR of a slash behind what is no directory; EINVAL where the old entry is the new
-- directory or above it; ENOTEMPTY where the new one is the old directory or above it; 0 with no change for two names of
-- one object; ENOENT or EACCES of the old directory, then of the new one; EPERM of the old entry, then of the new one;
-- EACCES of a directory that changes its parent; ENOTDIR, EISDIR, ENOTEMPTY by the kinds of both
abbrev pub renameat2_row : Known → Taken → Taken → Bool → Replying
renameat2_row k old new same_mount =
    if not same_mount then refuse EXDEV
    else if not (ends_in_name old && ends_in_name new) then refuse EBUSY
    else move_taken k old new
