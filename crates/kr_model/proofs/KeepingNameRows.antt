-- Calls on names keep to their lines.
use Rattle.std.proofs.Common.{cond, not, ◌||◌, ℕ, Bool, true, false, ◌&&◌, List, [], ◌∷◌, refl, Option, Some, None}
use Rattle.std.specs.Bool.{if◌then◌else◌}
use Rattle.std.specs.Option.{option_map_or}
use Rattle.kr_calls.specs.pr_base.declared.errno.Errno.TheVariants.{EPERM, ENOENT, EACCES, EBUSY, EEXIST, EXDEV, ENOTDIR, EISDIR, EINVAL, ENOSPC, ENOTEMPTY}
use Rattle.kr_files.specs.kr_tree.Tree.{Node}
use Rattle.kr_files.specs.kr_tree.declared.place.Host.{Host}
use Rattle.kr_files.specs.kr_tree.declared.place.Host.TheVariants as host
use Rattle.kr_calls.specs.pr_base.declared.path.Last.{Last}
use Rattle.kr_calls.specs.pr_base.declared.path.Last.TheVariants as last
use Rattle.kr_calls.specs.CallTable.{Doing, making}
use Rattle.kr_calls.specs.Kinds.{AddsNode, LinksNode, RemovesName, MovesName}
use Rattle.kr_model.specs.Known.{Known, known_node}
use Rattle.kr_model.specs.Reply.{Replying, done, refuse}
use Rattle.kr_model.specs.Asking.{is_directory_host, is_processes_host}
use Rattle.kr_model.specs.Seen.{Looked, Entered, Taken, TakesNoName, TakesCovered, Takes, Made, MakesNoName, MakesOver, Makes}
use Rattle.kr_model.specs.NameRows.{is_one, is_at_or_above, is_above_old, mkdirat_row, symlinkat_row, link_host, linkat_row, remove_file, remove_directory, take_entry, unlink_found, unlink_row, ending_removed, rmdir_row, unlinkat_row, move_free, move_over, move_onto, move_entry, move_found, move_uncovered, move_taken, renameat2_row}
use Rattle.kr_model.proofs.KeepingLemmas.{Keeps, refused, answered, either, maybe}
use Rattle.kr_model.proofs.KeepingPieces.{written_to}

-- ---- new names

pub mkdirat_keeps : {built : Bool} (k : Known) (m : Made) (mode : ℕ) → Keeps (making (AddsNode ∷ [])) built false (mkdirat_row k m mode)
mkdirat_keeps k (MakesNoName last) mode = refused EEXIST refl
mkdirat_keeps k MakesOver mode = refused EEXIST refl
mkdirat_keeps k (Makes dir name slash) mode = written_to k dir (λ d n. either _ (refused ENOSPC refl) (answered refl))

pub symlinkat_keeps : {built : Bool} (k : Known) (m : Made) (text : List ℕ) → Keeps (making (AddsNode ∷ [])) built false (symlinkat_row k m text)
symlinkat_keeps k (MakesNoName last) text = refused EEXIST refl
symlinkat_keeps k MakesOver text = refused EEXIST refl
symlinkat_keeps k (Makes dir name slash) text = either slash (refused ENOENT refl) (written_to k dir (λ d n. either _ (refused ENOSPC refl) (answered refl)))

host_linked : {built : Bool} (k : Known) (old dir : Host) (name : List ℕ) → Keeps (making (LinksNode ∷ [])) built false (link_host k old dir name)
host_linked k (host.Node i) dir name = either _ (refused EPERM refl) (written_to k dir (λ d n. either _ (refused ENOSPC refl) (answered refl)))
host_linked k (host.Proc i at) dir name = refused EPERM refl

pub linkat_keeps : {built : Bool} (k : Known) (old : Looked) (m : Made) (same_mount : Bool) → Keeps (making (LinksNode ∷ [])) built false (linkat_row k old m same_mount)
linkat_keeps k old (MakesNoName last) same_mount = refused EEXIST refl
linkat_keeps k old MakesOver same_mount = refused EEXIST refl
linkat_keeps k old (Makes dir name slash) same_mount = either slash (refused ENOENT refl) (either _ (refused EXDEV refl) (host_linked k old.host dir name))

-- ---- names that go

file_removed : {built : Bool} (k : Known) (name : List ℕ) (d : ℕ) (n : Node) → Keeps (making (RemovesName ∷ [])) built false (remove_file k name d n)
file_removed k name d n = either _ (refused EISDIR refl) (answered refl)

directory_removed : {built : Bool} (k : Known) (name : List ℕ) (d : ℕ) (n : Node) → Keeps (making (RemovesName ∷ [])) built false (remove_directory k name d n)
directory_removed k name d n = either _ (refused ENOTDIR refl) (either _ (refused ENOTEMPTY refl) (answered refl))

entry_taken : {does : Doing} {built : Bool} (k : Known) (e : Entered) (found : Host) {next : ℕ → Node → Replying} → ((d : ℕ) (n : Node) → Keeps does built false (next d n)) → Keeps does built false (take_entry k e found next)
entry_taken k e (host.Node i) keeps = written_to k e.dir (λ d n. maybe (known_node k i) (λ x. either _ (refused EPERM refl) (keeps d x)) (refused ENOENT refl))
entry_taken k e (host.Proc i at) keeps = written_to k e.dir (λ d n. refused EACCES refl)

slashed : {does : Doing} {built : Bool} (b : Bool) → Keeps does built false (refuse (cond b EISDIR ENOTDIR))
slashed true = refused EISDIR refl
slashed false = refused ENOTDIR refl

found_unlinked : {built : Bool} (k : Known) (e : Entered) (found : Host) → Keeps (making (RemovesName ∷ [])) built false (unlink_found k e found)
found_unlinked k e found = either _ (refused EBUSY refl) (either e.slash (slashed _) (entry_taken k e found (file_removed k e.name)))

unlinked : {built : Bool} (k : Known) (t : Taken) → Keeps (making (RemovesName ∷ [])) built false (unlink_row k t)
unlinked k (TakesNoName last) = refused EISDIR refl
unlinked k TakesCovered = refused EBUSY refl
unlinked k (Takes e) = maybe e.found (found_unlinked k e) (refused ENOENT refl)

ended : {does : Doing} {built : Bool} (l : Last) → Keeps does built false (refuse (ending_removed l))
ended last.Name = refused ENOENT refl
ended last.Dot = refused EINVAL refl
ended last.DotDot = refused ENOTEMPTY refl
ended last.Root = refused EBUSY refl

directory_unlinked : {built : Bool} (k : Known) (t : Taken) → Keeps (making (RemovesName ∷ [])) built false (rmdir_row k t)
directory_unlinked k (TakesNoName last) = ended last
directory_unlinked k TakesCovered = refused EBUSY refl
directory_unlinked k (Takes e) = maybe e.found (λ found. either _ (refused EBUSY refl) (entry_taken k e found (directory_removed k e.name))) (refused ENOENT refl)

pub unlinkat_keeps : {built : Bool} (k : Known) (t : Taken) (flags : ℕ) → Keeps (making (RemovesName ∷ [])) built false (unlinkat_row k t flags)
unlinkat_keeps k t flags = either _ (directory_unlinked k t) (unlinked k t)

-- ---- names that move

freely : {built : Bool} (k : Known) (old new : Entered) (d to : ℕ) (n : Node) → Keeps (making (MovesName ∷ [])) built false (move_free k old new d to n)
freely k old new d to n = either _ (answered refl) (refused EACCES refl)

over : {built : Bool} (k : Known) (old new : Entered) (d to : ℕ) (n x : Node) → Keeps (making (MovesName ∷ [])) built false (move_over k old new d to n x)
over k old new d to n x = either _ (refused EACCES refl) (either _ (refused ENOTDIR refl) (either _ (refused EISDIR refl) (either _ (refused ENOTEMPTY refl) (answered refl))))

onto : {built : Bool} (k : Known) (old new : Entered) (d to : ℕ) (dn tn n : Node) (o : Option Host) → Keeps (making (MovesName ∷ [])) built false (move_onto k old new d to dn tn n o)
onto k old new d to dn tn n None = either _ (refused EPERM refl) (freely k old new d to n)
onto k old new d to dn tn n (Some (host.Node j)) = either _ (refused EPERM refl) (maybe (known_node k j) (λ x. either _ (refused EPERM refl) (over k old new d to n x)) (refused ENOENT refl))
onto k old new d to dn tn n (Some (host.Proc j at)) = refused EACCES refl

entry_moved : {built : Bool} (k : Known) (old new : Entered) (found : Host) → Keeps (making (MovesName ∷ [])) built false (move_entry k old new found)
entry_moved k old new (host.Node i) =
    written_to k old.dir (λ d dn. written_to k new.dir (λ to tn. maybe (known_node k i) (λ n. onto k old new d to dn tn n new.found) (refused ENOENT refl)))
entry_moved k old new (host.Proc i at) = written_to k old.dir (λ d dn. refused EACCES refl)

apart_moved : {built : Bool} (k : Known) (old new : Entered) (found : Host) → Keeps (making (MovesName ∷ [])) built false (if is_one found new.found then done 0 [] else move_entry k old new found)
apart_moved k old new found = either (is_one found new.found) (answered refl) (entry_moved k old new found)

found_moved : {built : Bool} (k : Known) (old new : Entered) (found : Host) → Keeps (making (MovesName ∷ [])) built false (move_found k old new found)
found_moved k old new found =
    either (is_processes_host k found) (refused EBUSY refl)
    (either (option_map_or (is_processes_host k) new.found false) (refused EBUSY refl)
    (either (not (is_directory_host k found) && (old.slash || new.slash)) (refused ENOTDIR refl)
    (either (is_at_or_above k found new.dir) (refused EINVAL refl)
    (either (is_above_old k old new.found) (refused ENOTEMPTY refl) (apart_moved k old new found)))))

uncovered_moved : {built : Bool} (k : Known) (old : Entered) (new : Taken) (found : Host) → Keeps (making (MovesName ∷ [])) built false (move_uncovered k old new found)
uncovered_moved k old (TakesNoName last) found = refused EBUSY refl
uncovered_moved k old TakesCovered found = refused EBUSY refl
uncovered_moved k old (Takes new) found = found_moved k old new found

taken_moved : {built : Bool} (k : Known) (old new : Taken) → Keeps (making (MovesName ∷ [])) built false (move_taken k old new)
taken_moved k (TakesNoName last) new = refused EBUSY refl
taken_moved k TakesCovered new = refused EBUSY refl
taken_moved k (Takes old) new = maybe old.found (uncovered_moved k old new) (refused ENOENT refl)

pub renameat2_keeps : {built : Bool} (k : Known) (old new : Taken) (same_mount : Bool) → Keeps (making (MovesName ∷ [])) built false (renameat2_row k old new same_mount)
renameat2_keeps k old new same_mount = either _ (refused EXDEV refl) (either _ (refused EBUSY refl) (taken_moved k old new))
