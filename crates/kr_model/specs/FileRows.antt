-- Reading, writing, cutting and opening of files, each in the order of its tests (section 2 of the manual; the order
-- is our own).
use Rattle.std.specs.Prelude.{ℕ, ◌+◌, ◌-◌, ◌%◌, ◌==◌, ◌&&◌, ◌||◌, not, Bool, true, false, List, [], ◌∷◌, length, take, drop, nat_lt, nat_le, Option, Some, None, ℤ, if◌then◌else◌}
use Rattle.std.specs.Option.{option_map_or}
use Rattle.kr_calls.specs.pr_base.declared.errno.Errno.TheVariants.{ENOENT, EBADF, EACCES, EEXIST, ENOTDIR, EISDIR, EINVAL, EMFILE, EFBIG, ENOSPC, ELOOP}
use Rattle.kr_calls.specs.rv_mem.declared.rights.Use.TheVariants.{Read}
use Rattle.kr_calls.specs.Arguments.{has}
use Rattle.kr_calls.specs.CallTable.{sigpipe}
use Rattle.kr_files.specs.kr_inode.declared.user.Right.TheVariants.{Read as ReadRight, Write as WriteRight}
use Rattle.kr_files.specs.kr_tree.Tree.{Node, Body, Directory, RegularFile, SymbolicLink, ProcessDirectory}
use Rattle.kr_files.specs.kr_tree.Rights.{allows}
use Rattle.kr_files.specs.kr_tree.Changes.{file_limit, size_written}
use Rattle.kr_files.specs.kr_tree.declared.place.Host.{Host}
use Rattle.kr_files.specs.kr_tree.declared.place.Host.TheVariants as host
use Rattle.kr_procfs.specs.kr_view.Component.{is_process_directory}
use Rattle.kr_files.specs.declared.opened.Opened.{Opened}
use Rattle.kr_files.specs.declared.opened.What.{What}
use Rattle.kr_files.specs.declared.opened.What.TheVariants.{File, Dir, In, Out, Err, PipeRead, PipeWrite}
use Rattle.kr_files.specs.Descriptors.{lowest_free}
use Rattle.kr_model.specs.Asking.{or_badf, writable, has_no_room, has_no_room_for, unmasked}
use Rattle.kr_model.specs.Change.{Change, AddNode, SetSize, WriteFile, OpenFile, Seek, TakeFromPipe, PutIntoPipe, TakeInput, WriteOut, WriteErr, MountOf, OfFound, OfDirectory}
use Rattle.kr_model.specs.DescriptorRows.{o_cloexec, o_append, open_bytes}
use Rattle.kr_model.specs.Known.{Known, known_node}
use Rattle.kr_model.specs.Pieces.{Piece, asked, cut_to, if_usable, read_all, hand, with_list, one_piece}
use Rattle.kr_model.specs.Reply.{Replying, done, refuse, waits, ends}
use Rattle.kr_model.specs.Seen.{Looked, Opening, OpensNoName, OpensSlashed, OpensFound, OpensNew}

abbrev pub is_dir : What → Bool
is_dir File = false
is_dir Dir = true
is_dir In = false
is_dir Out = false
is_dir Err = false
is_dir (PipeRead p) = false
is_dir (PipeWrite p) = false

-- the inode of an open file
abbrev pub inode_of_open : Opened (Unit {0}) → ℕ
inode_of_open o = option_map_or (λ p. elim p.host [ host.Node i ↦ i | host.Proc i at ↦ i ]) o.place 0

-- ---- reading

-- an empty pipe waits where it has a writer, and ends where it has none
abbrev pub read_pipe : Known → ℕ → List Piece → Option (List ℕ) → Replying
read_pipe k pipe pieces None = done 0 []
read_pipe k pipe pieces (Some []) = if k.writer pipe then waits else done 0 []
read_pipe k pipe pieces (Some (b ∷ bytes)) =
    let moved = take (asked pieces) (b ∷ bytes) in hand pieces moved (TakeFromPipe pipe (length moved) ∷ [])

-- the bytes from the place to the file's end; the place moves on
abbrev pub read_file : Known → ℕ → Opened (Unit {0}) → List Piece → Replying
read_file k fd o pieces =
    let moved = take (asked pieces) (drop o.at (open_bytes k o)) in hand pieces moved (Seek fd (o.at + length moved) ∷ [])

-- the input that is left
abbrev pub read_input : Known → List Piece → Replying
read_input k pieces = let moved = take (asked pieces) k.input in hand pieces moved (TakeInput (length moved) ∷ [])

abbrev pub read_what : Known → ℕ → Opened (Unit {0}) → List Piece → What → Replying
read_what k fd o pieces File = read_file k fd o pieces
read_what k fd o pieces Dir = refuse EISDIR
read_what k fd o pieces In = read_input k pieces
read_what k fd o pieces Out = refuse EBADF
read_what k fd o pieces Err = refuse EBADF
read_what k fd o pieces (PipeRead p) = read_pipe k p pieces (k.pipe p)
read_what k fd o pieces (PipeWrite p) = refuse EBADF

-- a length of 0 answers 0; EFAULT is of the bytes that are to be moved
abbrev pub read_pieces : Known → ℕ → Opened (Unit {0}) → List Piece → Replying
read_pieces k fd o pieces = if asked pieces == 0 then done 0 [] else read_what k fd o pieces o.what

-- EBADF where it isn't open for reading, EISDIR
abbrev pub if_readable : Known → ℤ → (ℕ → Opened (Unit {0}) → Replying) → Replying
if_readable k fd next = or_badf k fd (λ n o. if not o.read then refuse EBADF else if is_dir o.what then refuse EISDIR else next n o)

-- read(2): at most as many bytes as there are; the number moved
abbrev pub read_row : Known → ℤ → ℕ → ℕ → Replying
read_row k fd buf n = if_readable k fd (λ number o. read_pieces k number o (one_piece buf n))

-- readv(2): its list is read after these tests and filled in order
abbrev pub readv_row : Known → ℤ → ℕ → ℕ → Replying
readv_row k fd list count = if_readable k fd (λ number o. with_list list count (read_pieces k number o))

-- ---- writing

abbrev pub pipe_limit : ℕ
pipe_limit = 65536

-- a pipe without readers kills, and a full one waits; else it takes as many bytes as are free
abbrev pub write_pipe : Known → ℕ → List Piece → Option (List ℕ) → Replying
write_pipe k pipe pieces None = done 0 []
write_pipe k pipe pieces (Some held) =
    if not (k.reader pipe) then ends sigpipe
    else if nat_le pipe_limit (length held) then waits
    else read_all (cut_to (pipe_limit - length held) pieces) (λ bytes. done (length bytes) (PutIntoPipe pipe bytes ∷ []))

-- the file's end with O_APPEND
abbrev pub write_place : Known → Opened (Unit {0}) → ℕ
write_place k o = if o.append then length (open_bytes k o) else o.at

-- ENOSPC moves nothing; a gap before the bytes is filled with zeros
abbrev pub put_in_file : Known → ℕ → Opened (Unit {0}) → ℕ → List ℕ → Replying
put_in_file k fd o at bytes =
    let size = length (open_bytes k o) in
    if has_no_room_for size (size_written at (length bytes) size) k then refuse ENOSPC
    else done (length bytes) (WriteFile (inode_of_open o) at bytes ∷ Seek fd (at + length bytes) ∷ [])

-- EFBIG where the place is at or past the limit of a file; else the bytes are cut there
abbrev pub write_file : Known → ℕ → Opened (Unit {0}) → List Piece → ℕ → Replying
write_file k fd o pieces at =
    if nat_le file_limit at then refuse EFBIG else read_all (cut_to (file_limit - at) pieces) (put_in_file k fd o at)

-- the console takes all bytes asked
abbrev pub write_what : Known → ℕ → Opened (Unit {0}) → List Piece → What → Replying
write_what k fd o pieces File = write_file k fd o pieces (write_place k o)
write_what k fd o pieces Dir = refuse EISDIR
write_what k fd o pieces In = refuse EBADF
write_what k fd o pieces Out = read_all pieces (λ bytes. done (length bytes) (WriteOut bytes ∷ []))
write_what k fd o pieces Err = read_all pieces (λ bytes. done (length bytes) (WriteErr bytes ∷ []))
write_what k fd o pieces (PipeRead p) = refuse EBADF
write_what k fd o pieces (PipeWrite p) = write_pipe k p pieces (k.pipe p)

-- a length of 0 answers 0; EFAULT is of all bytes asked
abbrev pub write_pieces : Known → ℕ → Opened (Unit {0}) → List Piece → Replying
write_pieces k fd o pieces = if asked pieces == 0 then done 0 [] else if_usable Read pieces (write_what k fd o pieces o.what)

-- EBADF where it isn't open for writing, EISDIR
abbrev pub if_writable : Known → ℤ → (ℕ → Opened (Unit {0}) → Replying) → Replying
if_writable k fd next = or_badf k fd (λ n o. if not o.write then refuse EBADF else if is_dir o.what then refuse EISDIR else next n o)

-- write(2): the number moved
abbrev pub write_row : Known → ℤ → ℕ → ℕ → Replying
write_row k fd buf n = if_writable k fd (λ number o. write_pieces k number o (one_piece buf n))

-- writev(2): its list is read after these tests
abbrev pub writev_row : Known → ℤ → ℕ → ℕ → Replying
writev_row k fd list count = if_writable k fd (λ number o. with_list list count (write_pieces k number o))

-- ---- the size of a file

abbrev pub is_file_open : What → Bool
is_file_open File = true
is_file_open Dir = false
is_file_open In = false
is_file_open Out = false
is_file_open Err = false
is_file_open (PipeRead p) = false
is_file_open (PipeWrite p) = false

-- ftruncate(2): EINVAL of what is no file open for writing, EFBIG, ENOSPC
abbrev pub cut_file : Known → Opened (Unit {0}) → ℕ → Replying
cut_file k o len =
    if not (is_file_open o.what && o.write) then refuse EINVAL
    else if nat_lt file_limit len then refuse EFBIG
    else if has_no_room_for (length (open_bytes k o)) len k then refuse ENOSPC
    else done 0 (SetSize (inode_of_open o) len ∷ [])

abbrev pub ftruncate_row : Known → ℤ → ℕ → Replying
ftruncate_row k fd len = or_badf k fd (λ n o. cut_file k o len)

-- ---- opening

-- O_CREAT 0100, O_EXCL 0200, O_TRUNC 01000, O_DIRECTORY 0200000
abbrev pub creates : ℕ → Bool
creates flags = has flags 0x40

abbrev pub excludes : ℕ → Bool
excludes flags = has flags 0x80

abbrev pub truncates : ℕ → Bool
truncates flags = has flags 0x200

abbrev pub wants_directory : ℕ → Bool
wants_directory flags = has flags 0x10000

-- the access mode: 0 to read, 1 to write, 2 for both
abbrev pub wants_read : ℕ → Bool
wants_read flags = flags % 4 == 0 || flags % 4 == 2

abbrev pub wants_write : ℕ → Bool
wants_write flags = flags % 4 == 1 || flags % 4 == 2

-- what is opened begins at its front
abbrev pub opens_as : What → Host → ℕ → List ℕ → ℕ → Opened (Unit {0})
opens_as what at dir name flags = record {
  place = Some (record { mount = tt; host = at });
  dir = dir;
  name = name;
  what = what;
  read = wants_read flags;
  write = wants_write flags;
  append = has flags o_append;
  at = 0;
}

-- EMFILE, or the lowest free descriptor
abbrev pub open_under : ℕ → MountOf → Opened (Unit {0}) → List Change → Option ℕ → Replying
open_under flags mount o after None = refuse EMFILE
open_under flags mount o after (Some fd) = done fd (OpenFile fd (has flags o_cloexec) mount o ∷ after)

-- a directory: EISDIR to write, make or cut it, EACCES
abbrev pub open_directory : Known → ℕ → Host → Bool → Replying
open_directory k flags at readable =
    if wants_write flags || creates flags || truncates flags then refuse EISDIR
    else if not readable then refuse EACCES
    else open_under flags OfFound (opens_as Dir at 0 [] flags) [] (lowest_free k.caller.descs 0)

-- O_TRUNC needs the right to write
abbrev pub has_rights : Known → Node → ℕ → Bool
has_rights k n flags =
    (not (wants_read flags) || allows k.user n ReadRight) && (not (wants_write flags || truncates flags) || allows k.user n WriteRight)

-- O_TRUNC cuts the file to 0
abbrev pub cut_after : ℕ → ℕ → List Change
cut_after flags i = if truncates flags then SetSize i 0 ∷ [] else []

-- a file: ENOTDIR with O_DIRECTORY, EACCES
abbrev pub open_file : Known → ℕ → ℕ → Node → ℕ → List ℕ → Replying
open_file k flags i n dir name =
    if wants_directory flags then refuse ENOTDIR
    else if not (has_rights k n flags) then refuse EACCES
    else open_under flags OfFound (opens_as File (host.Node i) dir name flags) (cut_after flags i) (lowest_free k.caller.descs 0)

abbrev pub open_body : Known → ℕ → Looked → ℕ → Node → Body → Replying
open_body k flags l i n (Directory entries standing) = open_directory k flags (host.Node i) (allows k.user n ReadRight)
open_body k flags l i n (ProcessDirectory standing) = open_directory k flags (host.Node i) (allows k.user n ReadRight)
open_body k flags l i n (SymbolicLink text) = refuse ELOOP
open_body k flags l i n (RegularFile bytes) = open_file k flags i n (option_map_or (λ e. e.0) l.entry 0) (option_map_or (λ e. e.1) l.entry [])

-- the directories in the process directory are the user's and can be read; all else in it is a link
abbrev pub open_host : Known → ℕ → Looked → Host → Replying
open_host k flags l (host.Node i) = option_map_or (λ n. open_body k flags l i n n.body) (known_node k i) (refuse ENOENT)
open_host k flags l (host.Proc i at) = if is_process_directory at then open_directory k flags (host.Proc i at) true else refuse ELOOP

-- what is there: EEXIST with O_CREAT and O_EXCL; ELOOP of a link; ENOTDIR; EISDIR; EACCES; EMFILE
abbrev pub open_found : Known → ℕ → Looked → Replying
open_found k flags l = if creates flags && excludes flags then refuse EEXIST else open_host k flags l l.host

-- a new file is the user's, and has the mode's twelve bits but for those of the mask
abbrev pub make_and_open : Known → ℕ → ℕ → ℕ → List ℕ → Option ℕ → Replying
make_and_open k flags mode d name None = refuse EMFILE
make_and_open k flags mode d name (Some fd) =
    if has_no_room 0 k then refuse ENOSPC
    else done fd (AddNode d name (unmasked k mode) k.user.uid k.user.gid (RegularFile [])
    ∷ OpenFile fd (has flags o_cloexec) OfDirectory (opens_as File (host.Node k.sizes.next) d name flags) ∷ [])

-- what is missing: ENOENT or EACCES of its directory, EMFILE, ENOSPC
abbrev pub open_new : Known → ℕ → ℕ → Host → List ℕ → Replying
open_new k flags mode dir name = writable k dir (λ d n. make_and_open k flags mode d name (lowest_free k.caller.descs 0))

-- openat(2): with O_CREAT an ending that is no name is EEXIST with O_EXCL and else EISDIR, and a slash is EISDIR; the
-- lowest free descriptor
abbrev pub openat_row : Known → Opening → ℕ → ℕ → Replying
openat_row k (OpensNoName last) flags mode = refuse (if excludes flags then EEXIST else EISDIR)
openat_row k OpensSlashed flags mode = refuse EISDIR
openat_row k (OpensFound l) flags mode = open_found k flags l
openat_row k (OpensNew dir name) flags mode = open_new k flags mode dir name
