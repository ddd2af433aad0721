-- Calls on files keep to their lines.
use Rattle.std.proofs.Common.{◌≡◌, cond, ℕ, Bool, true, false, List, [], ◌∷◌, refl, Option, Some, None, ℤ}
use Rattle.kr_calls.specs.pr_base.declared.errno.Errno.TheVariants.{ENOENT, EBADF, EACCES, EEXIST, ENOTDIR, EISDIR, EINVAL, EMFILE, EFBIG, ENOSPC, ELOOP}
use Rattle.kr_calls.specs.CallTable.{Doing, making, opening, reading, writing}
use Rattle.kr_calls.specs.Kinds.{SetsSize}
use Rattle.kr_files.specs.declared.opened.Opened.{Opened}
use Rattle.kr_files.specs.declared.opened.What.{What}
use Rattle.kr_files.specs.declared.opened.What.TheVariants.{File, Dir, In, Out, Err, PipeRead, PipeWrite}
use Rattle.kr_files.specs.kr_tree.Tree.{Node, Body, Directory, RegularFile, SymbolicLink, ProcessDirectory}
use Rattle.kr_files.specs.kr_tree.declared.place.Host.{Host}
use Rattle.kr_files.specs.kr_tree.declared.place.Host.TheVariants as host
use Rattle.kr_model.specs.Change.{Change, SetSize, OfFound}
use Rattle.kr_model.specs.Known.{Known, known_node}
use Rattle.kr_model.specs.Pieces.{Piece, one_piece}
use Rattle.kr_model.specs.Reply.{Replying, refuse}
use Rattle.kr_model.specs.Seen.{Looked, Opening, OpensNoName, OpensSlashed, OpensFound, OpensNew}
use Rattle.kr_model.specs.FileRows.{truncates, read_pipe, read_what, read_pieces, if_readable, read_row, readv_row, write_pipe, put_in_file, write_file, write_what, write_pieces, if_writable, write_row, writev_row, ftruncate_row, open_under, open_directory, open_file, open_body, open_host, open_found, make_and_open, open_new, openat_row}
use Rattle.kr_model.specs.ChangeKinds.{are_of}
use Rattle.kr_model.proofs.KeepingLemmas.{Keeps, refused, answered, waiting, ending, either, maybe, by_open}
use Rattle.kr_model.proofs.KeepingPieces.{all_read, usable, handed, listed, written_to}

-- ---- reading

pipe_read : {built : Bool} (k : Known) (pipe : ℕ) (pieces : List Piece) (o : Option (List ℕ)) → Keeps reading built false (read_pipe k pipe pieces o)
pipe_read k pipe pieces None = answered refl
pipe_read k pipe pieces (Some []) = either _ (waiting refl) (answered refl)
pipe_read k pipe pieces (Some (b ∷ bytes)) = handed refl pieces _ _ refl

what_read : {built : Bool} (k : Known) (fd : ℕ) (o : Opened (Unit {0})) (pieces : List Piece) (what : What) → Keeps reading built false (read_what k fd o pieces what)
what_read k fd o pieces File = handed refl pieces _ _ refl
what_read k fd o pieces Dir = refused EISDIR refl
what_read k fd o pieces In = handed refl pieces _ _ refl
what_read k fd o pieces Out = refused EBADF refl
what_read k fd o pieces Err = refused EBADF refl
what_read k fd o pieces (PipeRead p) = pipe_read k p pieces (k.pipe p)
what_read k fd o pieces (PipeWrite p) = refused EBADF refl

pieces_read : {built : Bool} (k : Known) (fd : ℕ) (o : Opened (Unit {0})) (pieces : List Piece) → Keeps reading built false (read_pieces k fd o pieces)
pieces_read k fd o pieces = either _ (answered refl) (what_read k fd o pieces o.what)

readable : {built : Bool} (k : Known) (fd : ℤ) {next : ℕ → Opened (Unit {0}) → Replying} → ((n : ℕ) (o : Opened (Unit {0})) → Keeps reading built false (next n o)) → Keeps reading built false (if_readable k fd next)
readable k fd keeps = by_open k fd (λ n o. either _ (refused EBADF refl) (either _ (refused EISDIR refl) (keeps n o)))

pub read_keeps : {built : Bool} (k : Known) (fd : ℤ) (buf n : ℕ) → Keeps reading built false (read_row k fd buf n)
read_keeps k fd buf n = readable k fd (λ number o. pieces_read k number o (one_piece buf n))

pub readv_keeps : {built : Bool} (k : Known) (fd : ℤ) (list count : ℕ) → Keeps reading built false (readv_row k fd list count)
readv_keeps k fd list count = readable k fd (λ number o. listed list count (λ pieces. pieces_read k number o pieces))

-- ---- writing

pipe_written : {built : Bool} (k : Known) (pipe : ℕ) (pieces : List Piece) (o : Option (List ℕ)) → Keeps writing built false (write_pipe k pipe pieces o)
pipe_written k pipe pieces None = answered refl
pipe_written k pipe pieces (Some held) = either _ (ending refl) (either _ (waiting refl) (all_read _ (λ bytes. answered refl)))

put : {built : Bool} (k : Known) (fd : ℕ) (o : Opened (Unit {0})) (at : ℕ) (bytes : List ℕ) → Keeps writing built false (put_in_file k fd o at bytes)
put k fd o at bytes = either _ (refused ENOSPC refl) (answered refl)

file_written : {built : Bool} (k : Known) (fd : ℕ) (o : Opened (Unit {0})) (pieces : List Piece) (at : ℕ) → Keeps writing built false (write_file k fd o pieces at)
file_written k fd o pieces at = either _ (refused EFBIG refl) (all_read _ (put k fd o at))

what_written : {built : Bool} (k : Known) (fd : ℕ) (o : Opened (Unit {0})) (pieces : List Piece) (what : What) → Keeps writing built false (write_what k fd o pieces what)
what_written k fd o pieces File = file_written k fd o pieces _
what_written k fd o pieces Dir = refused EISDIR refl
what_written k fd o pieces In = refused EBADF refl
what_written k fd o pieces Out = all_read pieces (λ bytes. answered refl)
what_written k fd o pieces Err = all_read pieces (λ bytes. answered refl)
what_written k fd o pieces (PipeRead p) = refused EBADF refl
what_written k fd o pieces (PipeWrite p) = pipe_written k p pieces (k.pipe p)

pieces_written : {built : Bool} (k : Known) (fd : ℕ) (o : Opened (Unit {0})) (pieces : List Piece) → Keeps writing built false (write_pieces k fd o pieces)
pieces_written k fd o pieces = either _ (answered refl) (usable _ pieces (what_written k fd o pieces o.what))

writable_open : {built : Bool} (k : Known) (fd : ℤ) {next : ℕ → Opened (Unit {0}) → Replying} → ((n : ℕ) (o : Opened (Unit {0})) → Keeps writing built false (next n o)) → Keeps writing built false (if_writable k fd next)
writable_open k fd keeps = by_open k fd (λ n o. either _ (refused EBADF refl) (either _ (refused EISDIR refl) (keeps n o)))

pub write_keeps : {built : Bool} (k : Known) (fd : ℤ) (buf n : ℕ) → Keeps writing built false (write_row k fd buf n)
write_keeps k fd buf n = writable_open k fd (λ number o. pieces_written k number o (one_piece buf n))

pub writev_keeps : {built : Bool} (k : Known) (fd : ℤ) (list count : ℕ) → Keeps writing built false (writev_row k fd list count)
writev_keeps k fd list count = writable_open k fd (λ number o. listed list count (λ pieces. pieces_written k number o pieces))

pub ftruncate_keeps : {built : Bool} (k : Known) (fd : ℤ) (len : ℕ) → Keeps (making (SetsSize ∷ [])) built false (ftruncate_row k fd len)
ftruncate_keeps k fd len = by_open k fd (λ n o. either _ (refused EINVAL refl) (either _ (refused EFBIG refl) (either _ (refused ENOSPC refl) (answered refl))))

-- ---- opening

under : {built : Bool} (flags : ℕ) (o : Opened (Unit {0})) (after : List Change) (fd : Option ℕ) → are_of opening.makes after ≡ true → Keeps opening built false (open_under flags OfFound o after fd)
under flags o after None kept = refused EMFILE refl
under flags o after (Some fd) kept = answered kept

directory_opened : {built : Bool} (k : Known) (flags : ℕ) (at : Host) (readable : Bool) → Keeps opening built false (open_directory k flags at readable)
directory_opened k flags at readable = either _ (refused EISDIR refl) (either _ (refused EACCES refl) (under flags _ _ _ refl))

-- with a cut or without one
cutting_is_kept : (b : Bool) (i : ℕ) → are_of opening.makes (cond b (SetSize i 0 ∷ []) []) ≡ true
cutting_is_kept true i = refl
cutting_is_kept false i = refl

file_opened : {built : Bool} (k : Known) (flags i : ℕ) (n : Node) (dir : ℕ) (name : List ℕ) → Keeps opening built false (open_file k flags i n dir name)
file_opened k flags i n dir name = either _ (refused ENOTDIR refl) (either _ (refused EACCES refl) (under flags _ _ _ (cutting_is_kept (truncates flags) i)))

body_opened : {built : Bool} (k : Known) (flags : ℕ) (l : Looked) (i : ℕ) (n : Node) (body : Body) → Keeps opening built false (open_body k flags l i n body)
body_opened k flags l i n (Directory entries standing) = directory_opened k flags (host.Node i) _
body_opened k flags l i n (ProcessDirectory standing) = directory_opened k flags (host.Node i) _
body_opened k flags l i n (SymbolicLink text) = refused ELOOP refl
body_opened k flags l i n (RegularFile bytes) = file_opened k flags i n _ _

host_opened : {built : Bool} (k : Known) (flags : ℕ) (l : Looked) (at : Host) → Keeps opening built false (open_host k flags l at)
host_opened k flags l (host.Node i) = maybe (known_node k i) (λ n. body_opened k flags l i n n.body) (refused ENOENT refl)
host_opened k flags l (host.Proc i at) = either _ (directory_opened k flags (host.Proc i at) true) (refused ELOOP refl)

found_opened : {built : Bool} (k : Known) (flags : ℕ) (l : Looked) → Keeps opening built false (open_found k flags l)
found_opened k flags l = either _ (refused EEXIST refl) (host_opened k flags l l.host)

made_and_opened : {built : Bool} (k : Known) (flags mode d : ℕ) (name : List ℕ) (fd : Option ℕ) → Keeps opening built false (make_and_open k flags mode d name fd)
made_and_opened k flags mode d name None = refused EMFILE refl
made_and_opened k flags mode d name (Some fd) = either _ (refused ENOSPC refl) (answered refl)

new_opened : {built : Bool} (k : Known) (flags mode : ℕ) (dir : Host) (name : List ℕ) → Keeps opening built false (open_new k flags mode dir name)
new_opened k flags mode dir name = written_to k dir (λ d n. made_and_opened k flags mode d name _)

no_name : {does : Doing} {built : Bool} (b : Bool) → Keeps does built false (refuse (cond b EEXIST EISDIR))
no_name true = refused EEXIST refl
no_name false = refused EISDIR refl

pub openat_keeps : {built : Bool} (k : Known) (o : Opening) (flags mode : ℕ) → Keeps opening built false (openat_row k o flags mode)
openat_keeps k (OpensNoName last) flags mode = no_name _
openat_keeps k OpensSlashed flags mode = refused EISDIR refl
openat_keeps k (OpensFound l) flags mode = found_opened k flags l
openat_keeps k (OpensNew dir name) flags mode = new_opened k flags mode dir name
