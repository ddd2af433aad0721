-- Rows of calls make at most one change that can alter the shape, and at most one that can alter bytes.
use Rattle.std.proofs.Common.{◌≡◌, cond, not, ◌&&◌, ◌||◌, ℕ, Bool, true, false, List, [], refl, Option, Some, None, ℤ}
use Rattle.std.specs.Prelude.{◌==◌}
use Rattle.std.specs.Bool.{if◌then◌else◌}
use Rattle.std.specs.Option.{option_map_or}
use Rattle.law_lawful.specs.pr_base.declared.errno.Errno.TheVariants.{EPERM, ENOENT, EBADF, EACCES, EBUSY, EEXIST, EXDEV, ENOTDIR, EISDIR, EINVAL, EFBIG, ENOSPC, ENOTEMPTY}
use Rattle.law_lawful.specs.pr_base.declared.path.Last.{Last}
use Rattle.law_lawful.specs.pr_base.declared.path.Last.TheVariants as last
use Rattle.law_lawful.specs.kr_files.declared.opened.Opened.{Opened}
use Rattle.law_lawful.specs.kr_files.declared.opened.What.{What}
use Rattle.law_lawful.specs.kr_files.declared.opened.What.TheVariants.{File, Dir, In, Out, Err, PipeRead, PipeWrite}
use Rattle.law_lawful.specs.kr_inode.declared.user.User.{User}
use Rattle.law_lawful.specs.kr_tree.Tree.{Node}
use Rattle.law_lawful.specs.kr_tree.declared.place.Host.{Host}
use Rattle.law_lawful.specs.kr_tree.declared.place.Host.TheVariants as host
use Rattle.law_lawful.specs.kr_model.Asking.{is_directory_host, is_processes_host}
use Rattle.law_lawful.specs.kr_model.AttributeRows.{chmod_host, chown_by, chown_host, fchmod_row, fchmodat_row, fchown_row, fchownat_here, fchownat_row, may_give, unchanged}
use Rattle.law_lawful.specs.kr_model.Change.{Change}
use Rattle.law_lawful.specs.kr_model.FileRows.{ftruncate_row, if_writable, put_in_file, write_file, write_pieces, write_pipe, write_row, write_what, writev_row}
use Rattle.law_lawful.specs.kr_model.Known.{Known, known_node}
use Rattle.law_lawful.specs.kr_model.NameRows.{ending_removed, is_above_old, is_at_or_above, is_one, link_host, linkat_row, mkdirat_row, move_entry, move_found, move_free, move_onto, move_over, move_taken, move_uncovered, remove_directory, remove_file, renameat2_row, rmdir_row, symlinkat_row, take_entry, unlink_found, unlink_row, unlinkat_row}
use Rattle.law_lawful.specs.kr_model.Pieces.{Piece, one_piece}
use Rattle.law_lawful.specs.kr_model.Reply.{Replying, done, refuse}
use Rattle.law_lawful.specs.kr_model.Seen.{Entered, Looked, Made, Makes, MakesNoName, MakesOver, Taken, Takes, TakesCovered, TakesNoName}
use Rattle.law_steady.specs.Calls.{are_few}
use Rattle.law_steady.proofs.EndLemmas.{Pass, all_read, answered, by_open, either, ending, listed, maybe, refused, usable, waiting, written_to}

abbrev pub Once : Replying → Type 0
Once action = Pass are_few action

-- ---- new names

pub mkdirat_once : (k : Known) (m : Made) (mode : ℕ) → Once (mkdirat_row k m mode)
mkdirat_once k (MakesNoName last) mode = refused EEXIST refl
mkdirat_once k MakesOver mode = refused EEXIST refl
mkdirat_once k (Makes dir name slash) mode = written_to (λ e. refl) k dir (λ d n. either _ (refused ENOSPC refl) (answered refl))

pub symlinkat_once : (k : Known) (m : Made) (text : List ℕ) → Once (symlinkat_row k m text)
symlinkat_once k (MakesNoName last) text = refused EEXIST refl
symlinkat_once k MakesOver text = refused EEXIST refl
symlinkat_once k (Makes dir name slash) text = either slash (refused ENOENT refl) (written_to (λ e. refl) k dir (λ d n. either _ (refused ENOSPC refl) (answered refl)))

host_linked : (k : Known) (old dir : Host) (name : List ℕ) → Once (link_host k old dir name)
host_linked k (host.Node i) dir name = either _ (refused EPERM refl) (written_to (λ e. refl) k dir (λ d n. either _ (refused ENOSPC refl) (answered refl)))
host_linked k (host.Proc i at) dir name = refused EPERM refl

pub linkat_once : (k : Known) (old : Looked) (m : Made) (same_mount : Bool) → Once (linkat_row k old m same_mount)
linkat_once k old (MakesNoName last) same_mount = refused EEXIST refl
linkat_once k old MakesOver same_mount = refused EEXIST refl
linkat_once k old (Makes dir name slash) same_mount = either slash (refused ENOENT refl) (either _ (refused EXDEV refl) (host_linked k old.host dir name))

-- ---- names that go

file_removed : (k : Known) (name : List ℕ) (d : ℕ) (n : Node) → Once (remove_file k name d n)
file_removed k name d n = either _ (refused EISDIR refl) (answered refl)

directory_removed : (k : Known) (name : List ℕ) (d : ℕ) (n : Node) → Once (remove_directory k name d n)
directory_removed k name d n = either _ (refused ENOTDIR refl) (either _ (refused ENOTEMPTY refl) (answered refl))

entry_taken : (k : Known) (e : Entered) (found : Host) {next : ℕ → Node → Replying} → ((d : ℕ) (n : Node) → Once (next d n)) → Once (take_entry k e found next)
entry_taken k e (host.Node i) keeps = written_to (λ e. refl) k e.dir (λ d n. maybe (known_node k i) (λ x. either _ (refused EPERM refl) (keeps d x)) (refused ENOENT refl))
entry_taken k e (host.Proc i at) keeps = written_to (λ e. refl) k e.dir (λ d n. refused EACCES refl)

slashed : (b : Bool) → Once (refuse (cond b EISDIR ENOTDIR))
slashed true = refused EISDIR refl
slashed false = refused ENOTDIR refl

found_unlinked : (k : Known) (e : Entered) (found : Host) → Once (unlink_found k e found)
found_unlinked k e found = either _ (refused EBUSY refl) (either e.slash (slashed _) (entry_taken k e found (file_removed k e.name)))

unlinked : (k : Known) (t : Taken) → Once (unlink_row k t)
unlinked k (TakesNoName last) = refused EISDIR refl
unlinked k TakesCovered = refused EBUSY refl
unlinked k (Takes e) = maybe e.found (found_unlinked k e) (refused ENOENT refl)

ended : (l : Last) → Once (refuse (ending_removed l))
ended last.Name = refused ENOENT refl
ended last.Dot = refused EINVAL refl
ended last.DotDot = refused ENOTEMPTY refl
ended last.Root = refused EBUSY refl

directory_unlinked : (k : Known) (t : Taken) → Once (rmdir_row k t)
directory_unlinked k (TakesNoName last) = ended last
directory_unlinked k TakesCovered = refused EBUSY refl
directory_unlinked k (Takes e) = maybe e.found (λ found. either _ (refused EBUSY refl) (entry_taken k e found (directory_removed k e.name))) (refused ENOENT refl)

pub unlinkat_once : (k : Known) (t : Taken) (flags : ℕ) → Once (unlinkat_row k t flags)
unlinkat_once k t flags = either _ (directory_unlinked k t) (unlinked k t)

-- ---- names that move

freely : (k : Known) (old new : Entered) (d to : ℕ) (n : Node) → Once (move_free k old new d to n)
freely k old new d to n = either _ (answered refl) (refused EACCES refl)

over : (k : Known) (old new : Entered) (d to : ℕ) (n x : Node) → Once (move_over k old new d to n x)
over k old new d to n x = either _ (refused EACCES refl) (either _ (refused ENOTDIR refl) (either _ (refused EISDIR refl) (either _ (refused ENOTEMPTY refl) (answered refl))))

onto : (k : Known) (old new : Entered) (d to : ℕ) (dn tn n : Node) (o : Option Host) → Once (move_onto k old new d to dn tn n o)
onto k old new d to dn tn n None = either _ (refused EPERM refl) (freely k old new d to n)
onto k old new d to dn tn n (Some (host.Node j)) = either _ (refused EPERM refl) (maybe (known_node k j) (λ x. either _ (refused EPERM refl) (over k old new d to n x)) (refused ENOENT refl))
onto k old new d to dn tn n (Some (host.Proc j at)) = refused EACCES refl

entry_moved : (k : Known) (old new : Entered) (found : Host) → Once (move_entry k old new found)
entry_moved k old new (host.Node i) =
    written_to (λ e. refl) k old.dir (λ d dn. written_to (λ e. refl) k new.dir (λ to tn. maybe (known_node k i) (λ n. onto k old new d to dn tn n new.found) (refused ENOENT refl)))
entry_moved k old new (host.Proc i at) = written_to (λ e. refl) k old.dir (λ d dn. refused EACCES refl)

apart_moved : (k : Known) (old new : Entered) (found : Host) → Once (if is_one found new.found then done 0 [] else move_entry k old new found)
apart_moved k old new found = either (is_one found new.found) (answered refl) (entry_moved k old new found)

found_moved : (k : Known) (old new : Entered) (found : Host) → Once (move_found k old new found)
found_moved k old new found =
    either (is_processes_host k found) (refused EBUSY refl)
    (either (option_map_or (is_processes_host k) new.found false) (refused EBUSY refl)
    (either (not (is_directory_host k found) && (old.slash || new.slash)) (refused ENOTDIR refl)
    (either (is_at_or_above k found new.dir) (refused EINVAL refl)
    (either (is_above_old k old new.found) (refused ENOTEMPTY refl) (apart_moved k old new found)))))

uncovered_moved : (k : Known) (old : Entered) (new : Taken) (found : Host) → Once (move_uncovered k old new found)
uncovered_moved k old (TakesNoName last) found = refused EBUSY refl
uncovered_moved k old TakesCovered found = refused EBUSY refl
uncovered_moved k old (Takes new) found = found_moved k old new found

taken_moved : (k : Known) (old new : Taken) → Once (move_taken k old new)
taken_moved k (TakesNoName last) new = refused EBUSY refl
taken_moved k TakesCovered new = refused EBUSY refl
taken_moved k (Takes old) new = maybe old.found (uncovered_moved k old new) (refused ENOENT refl)

pub renameat2_once : (k : Known) (old new : Taken) (same_mount : Bool) → Once (renameat2_row k old new same_mount)
renameat2_once k old new same_mount = either _ (refused EXDEV refl) (either _ (refused EBUSY refl) (taken_moved k old new))

-- ---- modes and owners

host_chmodded : (k : Known) (mode : ℕ) (at : Host) → Once (chmod_host k mode at)
host_chmodded k mode (host.Node i) = maybe (known_node k i) (λ n. either _ (refused EPERM refl) (answered refl)) (refused ENOENT refl)
host_chmodded k mode (host.Proc i at) = refused EPERM refl

pub fchmod_once : (k : Known) (fd : ℤ) (mode : ℕ) → Once (fchmod_row k fd mode)
fchmod_once k fd mode = by_open (λ e. refl) k fd (λ n o. maybe o.place (λ p. host_chmodded k mode p.host) (refused EPERM refl))

pub fchmodat_once : (k : Known) (l : Looked) (mode : ℕ) → Once (fchmodat_row k l mode)
fchmodat_once k l mode = host_chmodded k mode l.host

chowned : (user owner : User) (uid gid : ℕ) (changes : List Change) → are_few changes ≡ true → Once (chown_by user owner uid gid changes)
chowned user owner uid gid changes few = either (uid == unchanged && gid == unchanged) (answered refl) (either (may_give user owner uid gid) (answered few) (refused EPERM refl))

host_chowned : (k : Known) (uid gid : ℕ) (at : Host) → Once (chown_host k uid gid at)
host_chowned k uid gid (host.Node i) = maybe (known_node k i) (λ n. chowned _ _ uid gid _ refl) (refused ENOENT refl)
host_chowned k uid gid (host.Proc i at) = chowned _ _ uid gid _ refl

pub fchown_once : (k : Known) (fd : ℤ) (uid gid : ℕ) → Once (fchown_row k fd uid gid)
fchown_once k fd uid gid = by_open (λ e. refl) k fd (λ n o. maybe o.place (λ p. host_chowned k uid gid p.host) (chowned _ _ uid gid _ refl))

pub fchownat_once : (k : Known) (l : Looked) (uid gid : ℕ) → Once (fchownat_row k l uid gid)
fchownat_once k l uid gid = host_chowned k uid gid l.host

pub fchownat_here_once : (k : Known) (fd : ℤ) (uid gid : ℕ) → Once (fchownat_here k fd uid gid)
fchownat_here_once k fd uid gid = either _ (host_chowned k uid gid k.caller.cwd) (fchown_once k fd uid gid)

-- ---- bytes

pipe_written : (k : Known) (pipe : ℕ) (pieces : List Piece) (o : Option (List ℕ)) → Once (write_pipe k pipe pieces o)
pipe_written k pipe pieces None = answered refl
pipe_written k pipe pieces (Some held) = either _ (ending refl) (either _ (waiting refl) (all_read (λ e. refl) _ (λ bytes. answered refl)))

put : (k : Known) (fd : ℕ) (o : Opened (Unit {0})) (at : ℕ) (bytes : List ℕ) → Once (put_in_file k fd o at bytes)
put k fd o at bytes = either _ (refused ENOSPC refl) (answered refl)

file_written : (k : Known) (fd : ℕ) (o : Opened (Unit {0})) (pieces : List Piece) (at : ℕ) → Once (write_file k fd o pieces at)
file_written k fd o pieces at = either _ (refused EFBIG refl) (all_read (λ e. refl) _ (put k fd o at))

what_written : (k : Known) (fd : ℕ) (o : Opened (Unit {0})) (pieces : List Piece) (what : What) → Once (write_what k fd o pieces what)
what_written k fd o pieces File = file_written k fd o pieces _
what_written k fd o pieces Dir = refused EISDIR refl
what_written k fd o pieces In = refused EBADF refl
what_written k fd o pieces Out = all_read (λ e. refl) pieces (λ bytes. answered refl)
what_written k fd o pieces Err = all_read (λ e. refl) pieces (λ bytes. answered refl)
what_written k fd o pieces (PipeRead p) = refused EBADF refl
what_written k fd o pieces (PipeWrite p) = pipe_written k p pieces (k.pipe p)

pieces_written : (k : Known) (fd : ℕ) (o : Opened (Unit {0})) (pieces : List Piece) → Once (write_pieces k fd o pieces)
pieces_written k fd o pieces = either _ (answered refl) (usable (λ e. refl) _ pieces (what_written k fd o pieces o.what))

writable_open : (k : Known) (fd : ℤ) {next : ℕ → Opened (Unit {0}) → Replying} → ((n : ℕ) (o : Opened (Unit {0})) → Once (next n o)) → Once (if_writable k fd next)
writable_open k fd keeps = by_open (λ e. refl) k fd (λ n o. either _ (refused EBADF refl) (either _ (refused EISDIR refl) (keeps n o)))

pub write_once : (k : Known) (fd : ℤ) (buf n : ℕ) → Once (write_row k fd buf n)
write_once k fd buf n = writable_open k fd (λ number o. pieces_written k number o (one_piece buf n))

pub writev_once : (k : Known) (fd : ℤ) (list count : ℕ) → Once (writev_row k fd list count)
writev_once k fd list count = writable_open k fd (λ number o. listed (λ e. refl) list count (λ pieces. pieces_written k number o pieces))

pub ftruncate_once : (k : Known) (fd : ℤ) (len : ℕ) → Once (ftruncate_row k fd len)
ftruncate_once k fd len = by_open (λ e. refl) k fd (λ n o. either _ (refused EINVAL refl) (either _ (refused EFBIG refl) (either _ (refused ENOSPC refl) (answered refl))))
