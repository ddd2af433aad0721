-- What calls change of names and modes where they answer 0.
use Rattle.std.proofs.Common.{◌≡◌, ℕ, Bool, true, false, ◌&&◌, ◌||◌, not, List, [], ◌∷◌, Option, Some, None, refl, sym, ap, ℤ, pos, negsuc}
use Rattle.std.specs.Prelude.{◌==◌, if◌then◌else◌}
use Rattle.std.specs.Option.{option_and_then, option_map_or}
use Rattle.kr_seen.specs.pr_base.declared.errno.Errno.{Errno}
use Rattle.kr_seen.specs.pr_base.declared.errno.Errno.TheVariants.{ENOENT, EACCES, EBADF, EBUSY, EPERM, EXDEV, EISDIR, ENOTDIR, ENOTEMPTY, EINVAL}
use Rattle.kr_seen.specs.pr_base.declared.path.Last.TheVariants as last
use Rattle.kr_seen.specs.kr_tree.Tree.{Body, Directory, Node as TreeNode, ProcessDirectory, RegularFile, SymbolicLink, is_directory, is_filled}
use Rattle.kr_seen.specs.kr_tree.Rights.{is_kept_by_sticky}
use Rattle.kr_seen.specs.kr_tree.declared.place.Host.{Host}
use Rattle.kr_seen.specs.kr_tree.declared.place.Host.TheVariants.{Node, Proc}
use Rattle.kr_seen.specs.kr_tree.declared.place.Place.{Place}
use Rattle.kr_seen.specs.kr_files.declared.opened.Opened.{Opened}
use Rattle.kr_seen.specs.kr_calls.declared.request.Request.{Request}
use Rattle.kr_seen.specs.kr_calls.declared.request.Request.TheVariants as call
use Rattle.kr_seen.specs.kr_model.Asking.{descriptor_number, of_number, or_closed, is_directory_host, is_over, is_processes, is_processes_host, writable, writable_body, writable_node}
use Rattle.kr_seen.specs.kr_model.AttributeRows.{chmod_host, fchmod_row, fchmodat_row}
use Rattle.kr_seen.specs.kr_model.Change.{Change, MoveName, RemoveName, SetMode}
use Rattle.kr_seen.specs.kr_model.Known.{Known, known_node}
use Rattle.kr_seen.specs.kr_model.NameRows.{can_move, ends_in_name, is_above_old, is_at_or_above, is_one, move_entry, move_found, move_free, move_onto, move_over, move_taken, move_uncovered, renameat2_row, remove_directory, remove_file, removes_directory, rmdir_row, take_entry, unlink_row, unlinkat_row}
use Rattle.kr_seen.specs.kr_model.Operation.{looked_up, moved, taken}
use Rattle.kr_seen.specs.kr_model.Reply.{Replying, done, is_refusal, refusal, refuse}
use Rattle.kr_seen.specs.kr_model.Seen.{Entered, LooksUp, Moves, Seen, Taken, Takes, TakesCovered, TakesEntry, TakesNoName, WalkFails}
use Rattle.kr_seen.specs.kr_model.declared.outcome.Outcome.{Outcome}
use Rattle.kr_seen.specs.kr_model.declared.outcome.Outcome.TheVariants.{Answer, Ended, NoMemory, Wait}
use Rattle.kr_calm.specs.Foreseen.{is_foreseen, mode_found, mode_opened, moved_away, prospect, taken_away}
use Rattle.kr_calm.specs.Laws.{ForeseenCallsMakeIt}
use Rattle.kr_calm.specs.Prospects.{MakesAtZero, RowsMakeAtZero, answers_zero, mode_set, move, move_made, removal, renameat2_made, unlinkat_made}

-- an error isn't 0
not-zero : (o : Outcome) → is_refusal o ≡ true → answers_zero o ≡ false
not-zero (Answer (pos n)) e = absurd cc
not-zero (Answer (negsuc n)) e = refl
not-zero Wait e = absurd cc
not-zero Ended e = absurd cc
not-zero NoMemory e = absurd cc

module _ (made : List Change) where
  refused : (e : Errno) → is_refusal (refusal e).outcome ≡ true → MakesAtZero made (refuse e)
  refused e is = record { changes = λ m. sym (ap (λ b. if b then made else []) (not-zero (refusal e).outcome is)) }

  made-so : MakesAtZero made (done 0 made)
  made-so = record { changes = λ m. refl }

  either : (b : Bool) {one other : Replying} → MakesAtZero made one → MakesAtZero made other → MakesAtZero made (if b then one else other)
  either true f g = f
  either false f g = g

  refused-either : (b : Bool) (e f : Errno) → is_refusal (refusal e).outcome ≡ true → is_refusal (refusal f).outcome ≡ true → MakesAtZero made (refuse (if b then e else f))
  refused-either true e f is other = refused e is
  refused-either false e f is other = refused f other

  if-there : {A : Type 0} (o : Option A) {next : A → Replying} {other : Replying} → ((x : A) → MakesAtZero made (next x)) → MakesAtZero made other → MakesAtZero made (option_map_or next o other)
  if-there None f g = g
  if-there (Some x) f g = f x

  in-body : (k : Known) (n : TreeNode) (b : Body) {next : Replying} → MakesAtZero made next → MakesAtZero made (writable_body k n b next)
  in-body k n (Directory entries None) f = refused ENOENT refl
  in-body k n (Directory entries (Some standing)) f = either _ f (refused EACCES refl)
  in-body k n (RegularFile bytes) f = refused ENOTDIR refl
  in-body k n (SymbolicLink text) f = refused ENOTDIR refl
  in-body k n (ProcessDirectory standing) f = refused EACCES refl

  in-node : (k : Known) (o : Option TreeNode) {next : TreeNode → Replying} → ((n : TreeNode) → MakesAtZero made (next n)) → MakesAtZero made (writable_node k o next)
  in-node k None f = refused ENOENT refl
  in-node k (Some n) f = in-body k n n.body (f n)

-- an entry that is taken, by its directory
taken-from : (k : Known) (dir found : Host) (name : List ℕ) (next : ℕ → TreeNode → Replying) → ((d : ℕ) (n : TreeNode) → MakesAtZero (RemoveName d name ∷ []) (next d n)) → (slash : Bool) (o : Option Host)
    → MakesAtZero (removal dir name) (take_entry k (record { dir = dir; name = name; slash = slash; found = o }) found next)
taken-from k (Node d) (Node i) name next f slash o =
    in-node (RemoveName d name ∷ []) k (known_node k d) (λ n. if-there (RemoveName d name ∷ []) (known_node k i) (λ x. either (RemoveName d name ∷ []) (is_kept_by_sticky k.user n x) (refused (RemoveName d name ∷ []) EPERM refl) (f d x)) (refused (RemoveName d name ∷ []) ENOENT refl))
taken-from k (Node d) (Proc i at) name next f slash o = in-node (RemoveName d name ∷ []) k (known_node k d) (λ n. refused (RemoveName d name ∷ []) EACCES refl)
taken-from k (Proc j to) (Node i) name next f slash o = either [] (is_over k to) (refused [] ENOENT refl) (refused [] EACCES refl)
taken-from k (Proc j to) (Proc i at) name next f slash o = either [] (is_over k to) (refused [] ENOENT refl) (refused [] EACCES refl)

file-removed : (k : Known) (name : List ℕ) (d : ℕ) (n : TreeNode) → MakesAtZero (RemoveName d name ∷ []) (remove_file k name d n)
file-removed k name d n = either (RemoveName d name ∷ []) (is_directory n.body) (refused (RemoveName d name ∷ []) EISDIR refl) (made-so (RemoveName d name ∷ []))

directory-removed : (k : Known) (name : List ℕ) (d : ℕ) (n : TreeNode) → MakesAtZero (RemoveName d name ∷ []) (remove_directory k name d n)
directory-removed k name d n =
    either (RemoveName d name ∷ []) (not (is_directory n.body)) (refused (RemoveName d name ∷ []) ENOTDIR refl)
    (either (RemoveName d name ∷ []) (is_filled n.body) (refused (RemoveName d name ∷ []) ENOTEMPTY refl) (made-so (RemoveName d name ∷ [])))

unlinked : (k : Known) (taken : Taken) → MakesAtZero (unlinkat_made taken) (unlink_row k taken)
unlinked k (TakesNoName last) = refused [] EISDIR refl
unlinked k TakesCovered = refused [] EBUSY refl
unlinked k (Takes e) =
    if-there (removal e.dir e.name) e.found (λ found.
    either (removal e.dir e.name) (is_processes_host k found) (refused (removal e.dir e.name) EBUSY refl)
    (either (removal e.dir e.name) e.slash (refused-either (removal e.dir e.name) (is_directory_host k found) EISDIR ENOTDIR refl refl)
    (taken-from k e.dir found e.name (remove_file k e.name) (file-removed k e.name) e.slash e.found))) (refused (removal e.dir e.name) ENOENT refl)

rmdired : (k : Known) (taken : Taken) → MakesAtZero (unlinkat_made taken) (rmdir_row k taken)
rmdired k (TakesNoName last.Name) = refused [] ENOENT refl
rmdired k (TakesNoName last.Dot) = refused [] EINVAL refl
rmdired k (TakesNoName last.DotDot) = refused [] ENOTEMPTY refl
rmdired k (TakesNoName last.Root) = refused [] EBUSY refl
rmdired k TakesCovered = refused [] EBUSY refl
rmdired k (Takes e) =
    if-there (removal e.dir e.name) e.found (λ found.
    either (removal e.dir e.name) (is_processes_host k found) (refused (removal e.dir e.name) EBUSY refl)
    (taken-from k e.dir found e.name (remove_directory k e.name) (directory-removed k e.name) e.slash e.found)) (refused (removal e.dir e.name) ENOENT refl)

-- ---- renameat2

-- with the directories of both entries apart
abbrev moved_entry : Known → Entered → Entered → Host → Host → Host → Replying
moved_entry k old new dir to (Node i) =
    writable k dir (λ d dn. writable k to (λ t tn. option_map_or (λ n. move_onto k old new d t dn tn n new.found) (known_node k i) (refuse ENOENT)))
moved_entry k old new dir to (Proc i at) = writable k dir (λ d dn. refuse EACCES)

split : (b : Bool) (moves : List Change) {one other : Replying} → MakesAtZero [] one → MakesAtZero moves other → MakesAtZero (if b then [] else moves) (if b then one else other)
split true moves f g = f
split false moves f g = g

module _ (k : Known) (old new : Entered) where
  abbrev moves : ℕ → ℕ → List Change
  moves d to = MoveName d old.name to new.name ∷ []

  module _ (d to : ℕ) (n : TreeNode) where
    free-moved : MakesAtZero (moves d to) (move_free k old new d to n)
    free-moved = either (moves d to) (can_move k d to n) (made-so (moves d to)) (refused (moves d to) EACCES refl)

    over-moved : (x : TreeNode) → MakesAtZero (moves d to) (move_over k old new d to n x)
    over-moved x =
        either (moves d to) (not (can_move k d to n)) (refused (moves d to) EACCES refl)
        (either (moves d to) (is_directory n.body && not (is_directory x.body)) (refused (moves d to) ENOTDIR refl)
        (either (moves d to) (is_directory x.body && not (is_directory n.body)) (refused (moves d to) EISDIR refl)
        (either (moves d to) (is_filled x.body) (refused (moves d to) ENOTEMPTY refl) (made-so (moves d to)))))

    onto-moved : (dn tn : TreeNode) (o : Option Host) → MakesAtZero (moves d to) (move_onto k old new d to dn tn n o)
    onto-moved dn tn None = either (moves d to) (is_kept_by_sticky k.user dn n) (refused (moves d to) EPERM refl) free-moved
    onto-moved dn tn (Some (Node j)) =
        either (moves d to) (is_kept_by_sticky k.user dn n) (refused (moves d to) EPERM refl)
        (if-there (moves d to) (known_node k j) (λ x. either (moves d to) (is_kept_by_sticky k.user tn x) (refused (moves d to) EPERM refl) (over-moved x)) (refused (moves d to) ENOENT refl))
    onto-moved dn tn (Some (Proc j at)) = refused (moves d to) EACCES refl

  entry-moved : (dir to found : Host) → MakesAtZero (move dir old.name to new.name) (moved_entry k old new dir to found)
  entry-moved (Node d) (Node t) (Node i) =
      in-node (moves d t) k (known_node k d) (λ dn. in-node (moves d t) k (known_node k t) (λ tn. if-there (moves d t) (known_node k i) (λ n. onto-moved d t n dn tn new.found) (refused (moves d t) ENOENT refl)))
  entry-moved (Node d) (Proc j to) (Node i) = in-node [] k (known_node k d) (λ dn. either [] (is_over k to) (refused [] ENOENT refl) (refused [] EACCES refl))
  entry-moved (Node d) (Node t) (Proc i at) = in-node (moves d t) k (known_node k d) (λ dn. refused (moves d t) EACCES refl)
  entry-moved (Node d) (Proc j to) (Proc i at) = in-node [] k (known_node k d) (λ dn. refused [] EACCES refl)
  entry-moved (Proc j to) t (Node i) = either [] (is_over k to) (refused [] ENOENT refl) (refused [] EACCES refl)
  entry-moved (Proc j to) t (Proc i at) = either [] (is_over k to) (refused [] ENOENT refl) (refused [] EACCES refl)

  any-moved : (found : Host) → MakesAtZero (move old.dir old.name new.dir new.name) (move_entry k old new found)
  any-moved (Node i) = entry-moved old.dir new.dir (Node i)
  any-moved (Proc i at) = entry-moved old.dir new.dir (Proc i at)

  found-moved : (found : Host) → MakesAtZero (move_made old new found) (move_found k old new found)
  found-moved found =
      either (move_made old new found) (is_processes_host k found) (refused (move_made old new found) EBUSY refl)
      (either (move_made old new found) (option_map_or (is_processes_host k) new.found false) (refused (move_made old new found) EBUSY refl)
      (either (move_made old new found) (not (is_directory_host k found) && (old.slash || new.slash)) (refused (move_made old new found) ENOTDIR refl)
      (either (move_made old new found) (is_at_or_above k found new.dir) (refused (move_made old new found) EINVAL refl)
      (either (move_made old new found) (is_above_old k old new.found) (refused (move_made old new found) ENOTEMPTY refl)
      (split (is_one found new.found) (move old.dir old.name new.dir new.name) (made-so []) (any-moved found))))))

taken-moved : (k : Known) (old new : Taken) → MakesAtZero (renameat2_made old new) (move_taken k old new)
taken-moved k (TakesNoName last) new = refused (renameat2_made (TakesNoName last) new) EBUSY refl
taken-moved k TakesCovered new = refused (renameat2_made TakesCovered new) EBUSY refl
taken-moved k (Takes o) (TakesNoName last) = if-there (renameat2_made (Takes o) (TakesNoName last)) o.found (λ found. refused (renameat2_made (Takes o) (TakesNoName last)) EBUSY refl) (refused (renameat2_made (Takes o) (TakesNoName last)) ENOENT refl)
taken-moved k (Takes o) TakesCovered = if-there (renameat2_made (Takes o) TakesCovered) o.found (λ found. refused (renameat2_made (Takes o) TakesCovered) EBUSY refl) (refused (renameat2_made (Takes o) TakesCovered) ENOENT refl)
taken-moved k (Takes o) (Takes n) = by o.found
  where
    by : (f : Option Host) → MakesAtZero (option_map_or (move_made o n) f []) (option_map_or (move_uncovered k o (Takes n)) f (refuse ENOENT))
    by None = refused [] ENOENT refl
    by (Some found) = found-moved k o n found

renamed : (k : Known) (old new : Taken) (same_mount : Bool) → MakesAtZero (renameat2_made old new) (renameat2_row k old new same_mount)
renamed k old new same_mount =
    either (renameat2_made old new) (not same_mount) (refused (renameat2_made old new) EXDEV refl)
    (either (renameat2_made old new) (not (ends_in_name old && ends_in_name new)) (refused (renameat2_made old new) EBUSY refl) (taken-moved k old new))

pub rows_make_at_zero : RowsMakeAtZero
rows_make_at_zero = record {
  unlinkat = λ k taken flags. either (unlinkat_made taken) (removes_directory flags) (rmdired k taken) (unlinked k taken);
  renameat2 = renamed;
  chmod = λ k mode host. modes k mode host;
}
  where
    modes : (k : Known) (mode : ℕ) (host : Host) → MakesAtZero (mode_set host mode) (chmod_host k mode host)
    modes k mode (Node i) =
        if-there (mode_set (Node i) mode) (known_node k i) (λ n. either (mode_set (Node i) mode) (is_processes n.body || not (k.user.uid == n.uid)) (refused (mode_set (Node i) mode) EPERM refl) (made-so (mode_set (Node i) mode)))
        (refused (mode_set (Node i) mode) ENOENT refl)
    modes k mode (Proc i at) = refused [] EPERM refl

-- ---- calls

unchanged : (e : Errno) → MakesAtZero [] (refuse e)
unchanged e = record { changes = λ m. by (answers_zero (refusal e).outcome) }
  where
    none : List Change
    none = []

    by : (b : Bool) → [] ≡ (if b then none else none)
    by true = refl
    by false = refl

entry-taken : (k : Known) (flags : ℕ) (seen : Seen) → MakesAtZero (taken_away seen) (taken seen (λ t. unlinkat_row k t flags))
entry-taken k flags (TakesEntry t) = rows_make_at_zero.unlinkat k t flags
entry-taken k flags (WalkFails e) = unchanged e
entry-taken k flags _ = unchanged ENOENT

entries-moved : (k : Known) (seen : Seen) → MakesAtZero (moved_away seen) (moved seen k)
entries-moved k (Moves old new same_mount) = rows_make_at_zero.renameat2 k old new same_mount
entries-moved k (WalkFails e) = unchanged e
entries-moved k _ = unchanged ENOENT

found-chmodded : (k : Known) (mode : ℕ) (seen : Seen) → MakesAtZero (mode_found mode seen) (looked_up seen (λ l. fchmodat_row k l mode))
found-chmodded k mode (LooksUp l) = rows_make_at_zero.chmod k mode l.host
found-chmodded k mode (WalkFails e) = unchanged e
found-chmodded k mode _ = unchanged ENOENT

open-chmodded : (k : Known) (fd : ℤ) (mode : ℕ) → MakesAtZero (mode_opened mode (option_and_then k.opened (descriptor_number fd))) (fchmod_row k fd mode)
open-chmodded k fd mode = by-number (descriptor_number fd)
  where
    by-place : (p : Option (Place (Unit {0}))) → MakesAtZero (option_map_or (λ p. mode_set p.host mode) p []) (option_map_or (λ p. chmod_host k mode p.host) p (refuse EPERM))
    by-place None = unchanged EPERM
    by-place (Some p) = rows_make_at_zero.chmod k mode p.host

    by-open : (o : Option (Opened (Unit {0}))) → MakesAtZero (mode_opened mode o) (or_closed o (λ o. option_map_or (λ p. chmod_host k mode p.host) o.place (refuse EPERM)))
    by-open None = unchanged EBADF
    by-open (Some o) = by-place o.place

    by-number : (n : Option ℕ) → MakesAtZero (mode_opened mode (option_and_then k.opened n)) (of_number k n (λ n o. option_map_or (λ p. chmod_host k mode p.host) o.place (refuse EPERM)))
    by-number None = unchanged EBADF
    by-number (Some n) = by-open (k.opened n)

pub foreseen_calls_make_it : ForeseenCallsMakeIt
foreseen_calls_make_it pid (call.Unlinkat dirfd path flags) seen k is = entry-taken k flags seen
foreseen_calls_make_it pid (call.Renameat2 olddir old newdir new) seen k is = entries-moved k seen
foreseen_calls_make_it pid (call.Fchmod fd mode) seen k is = open-chmodded k fd mode
foreseen_calls_make_it pid (call.Fchmodat dirfd path mode) seen k is = found-chmodded k mode seen
foreseen_calls_make_it pid _ seen k is = absurd cc

-- ---- what may be foreseen: one name or mode, or nothing

pub data IsForeseeable : List Change → Type 0 where
  nothing_goes : IsForeseeable []
  removes : {dir : ℕ} {name : List ℕ} → IsForeseeable (RemoveName dir name ∷ [])
  moves_one : {dir : ℕ} {name : List ℕ} {to : ℕ} {new : List ℕ} → IsForeseeable (MoveName dir name to new ∷ [])
  sets_mode : {i mode : ℕ} → IsForeseeable (SetMode i mode ∷ [])

removal-foreseen : (dir : Host) (name : List ℕ) → IsForeseeable (removal dir name)
removal-foreseen (Node d) name = removes
removal-foreseen (Proc i at) name = nothing_goes

taken-foreseen : (seen : Seen) → IsForeseeable (taken_away seen)
taken-foreseen (TakesEntry (Takes e)) = removal-foreseen e.dir e.name
taken-foreseen (TakesEntry (TakesNoName last)) = nothing_goes
taken-foreseen (TakesEntry TakesCovered) = nothing_goes
taken-foreseen _ = nothing_goes

move-foreseen : (dir : Host) (name : List ℕ) (to : Host) (new : List ℕ) → IsForeseeable (move dir name to new)
move-foreseen (Node d) name (Node t) new = moves_one
move-foreseen (Node d) name (Proc i at) new = nothing_goes
move-foreseen (Proc i at) name to new = nothing_goes

moved-foreseen : (old new : Taken) → IsForeseeable (renameat2_made old new)
moved-foreseen (Takes old) (Takes new) = by old.found
  where
    by-one : (b : Bool) → IsForeseeable (if b then [] else move old.dir old.name new.dir new.name)
    by-one true = nothing_goes
    by-one false = move-foreseen old.dir old.name new.dir new.name

    by : (o : Option Host) → IsForeseeable (option_map_or (move_made old new) o [])
    by None = nothing_goes
    by (Some found) = by-one (is_one found new.found)
moved-foreseen (Takes old) (TakesNoName last) = nothing_goes
moved-foreseen (Takes old) TakesCovered = nothing_goes
moved-foreseen (TakesNoName last) new = nothing_goes
moved-foreseen TakesCovered new = nothing_goes

moves-foreseen : (seen : Seen) → IsForeseeable (moved_away seen)
moves-foreseen (Moves old new same_mount) = moved-foreseen old new
moves-foreseen _ = nothing_goes

mode-foreseen : (host : Host) (mode : ℕ) → IsForeseeable (mode_set host mode)
mode-foreseen (Node i) mode = sets_mode
mode-foreseen (Proc i at) mode = nothing_goes

found-foreseen : (mode : ℕ) (seen : Seen) → IsForeseeable (mode_found mode seen)
found-foreseen mode (LooksUp l) = mode-foreseen l.host mode
found-foreseen mode _ = nothing_goes

open-foreseen : (mode : ℕ) (o : Option (Opened (Unit {0}))) → IsForeseeable (mode_opened mode o)
open-foreseen mode None = nothing_goes
open-foreseen mode (Some o) = by o.place
  where
    by : (p : Option (Place (Unit {0}))) → IsForeseeable (option_map_or (λ p. mode_set p.host mode) p [])
    by None = nothing_goes
    by (Some p) = mode-foreseen p.host mode

pub foreseeable : (request : Request) (seen : Seen) (k : Known) → IsForeseeable (prospect request seen k)
foreseeable (call.Unlinkat dirfd path flags) seen k = taken-foreseen seen
foreseeable (call.Renameat2 olddir old newdir new) seen k = moves-foreseen seen
foreseeable (call.Fchmod fd mode) seen k = open-foreseen mode (option_and_then k.opened (descriptor_number fd))
foreseeable (call.Fchmodat dirfd path mode) seen k = found-foreseen mode seen
foreseeable _ seen k = nothing_goes

pub none-foreseen : (request : Request) (seen : Seen) (k : Known) → is_foreseen request ≡ false → prospect request seen k ≡ []
none-foreseen (call.Unlinkat dirfd path flags) seen k e = absurd cc
none-foreseen (call.Renameat2 olddir old newdir new) seen k e = absurd cc
none-foreseen (call.Fchmod fd mode) seen k e = absurd cc
none-foreseen (call.Fchmodat dirfd path mode) seen k e = absurd cc
none-foreseen _ seen k e = refl
