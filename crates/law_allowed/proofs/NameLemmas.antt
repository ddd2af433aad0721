-- Calls that change names are allowed.
use Rattle.std.proofs.Common.{◌≡◌, ◌≢◌, subst, ℕ, ◌-◌, ◌<◌, Bool, true, false, not, ◌&&◌, ◌||◌, List, length, refl, sym, ap, ◌∙◌, arith, cond, Some, None, Option, IsSome}
use Rattle.std.specs.Int.RustNames.{bit_and}
use Rattle.std.specs.Option.{option_map_or}
use Rattle.std.proofs.lemmas.Nat.{and_le_r}
use Rattle.law_lawful.specs.pr_base.declared.errno.Errno.TheVariants.{EPERM, ENOENT, EACCES, EBUSY, EEXIST, EXDEV, ENOTDIR, EISDIR, EINVAL, ENOSPC, ENOTEMPTY}
use Rattle.law_lawful.specs.kr_tree.Lawful.{AreBytes}
use Rattle.law_lawful.specs.kr_tree.Names.{is_name}
use Rattle.law_lawful.specs.kr_tree.Rights.{allows, is_kept_by_sticky}
use Rattle.law_lawful.specs.kr_tree.Tree.{Inode, Node, Body, Directory, RegularFile, SymbolicLink, ProcessDirectory, inode, entry, body_is, is_directory, is_filled, takes_names, may_be_linked}
use Rattle.law_lawful.specs.kr_tree.declared.place.Host.{Host}
use Rattle.law_lawful.specs.kr_tree.declared.place.Host.TheVariants as host
use Rattle.law_lawful.proofs.kr_tree.NameLemmas.{some_is}
use Rattle.law_lawful.specs.kr_inode.declared.user.Right.TheVariants.{Write, Search}
use Rattle.law_lawful.specs.kr_view.Component.{is_processes as is_processes_body}
use Rattle.law_lawful.specs.kr_view.InTree.{IsObjectOf}
use Rattle.law_lawful.specs.kr_view.View.{Row, is_there}
use Rattle.law_lawful.specs.kr_model.Applied.{Mounts}
use Rattle.law_lawful.specs.kr_model.Asking.{body_passes, is_processes, is_processes_host, is_directory_host, is_over, writable_body, writable_node, writable, has_no_room, has_no_name_left, unmasked}
use Rattle.law_lawful.specs.kr_model.Change.{Change}
use Rattle.law_lawful.specs.kr_model.Conditions.{IsFreeName, CanRemove, CanMove}
use Rattle.law_lawful.specs.kr_model.Known.{Known, known, known_node}
use Rattle.law_lawful.specs.kr_model.Lawful.{IsLawful}
use Rattle.law_lawful.specs.kr_model.NameRows.{make_directory, mkdirat_row, make_link, symlinkat_row, link_node, link_host, linkat_row, remove_file, remove_directory, take_entry, unlink_found, unlink_row, ending_removed, rmdir_found, rmdir_row, removes_directory, unlinkat_row, is_at_or_above, can_move, move_over, move_onto, move_entry, is_one, is_above_old, move_found, move_uncovered, ends_in_name, move_taken, renameat2_row}
use Rattle.law_lawful.specs.kr_model.Reply.{Replying, refuse}
use Rattle.law_lawful.specs.kr_model.Seen.{Looked, Entered, Taken, TakesNoName, TakesCovered, Takes, Made, MakesNoName, MakesOver, Makes}
use Rattle.law_lawful.specs.kr_model.State.{Image, image_layout, State, process}
use Rattle.law_lawful.specs.Laws.{CanAllBeMade}
use Rattle.law_allowed.specs.Allowed.{IsAllowedWhere}
use Rattle.law_allowed.specs.Resting.{IsFreeIn, IsEntryIn, IsLookedIn, IsTakenIn, IsMadeIn}
use Rattle.law_allowed.proofs.AboveLemmas.{not-below}
use Rattle.law_allowed.proofs.KnownLemmas.{maybe}
use Rattle.law_allowed.proofs.NodeLemmas.{known-test, test-known, entry-name}
use Rattle.law_allowed.specs.Lasting.{AreModest}
use Rattle.law_allowed.specs.Texts.{IsText}
use Rattle.law_allowed.proofs.RowLemmas.{quietly, draws-once, Allowed, unchanged, refuses, ended, either, row-allowed}

node-is : (i own : ℕ) → host.Node i ≡ host.Node own → i ≡ own
node-is i own e = ap number e
  where
    number : Host → ℕ
    number (host.Node i) = i
    number (host.Proc i at) = 0

same-processes : (b : Body) → is_processes_body b ≡ is_processes b
same-processes (Directory entries standing) = refl
same-processes (RegularFile bytes) = refl
same-processes (SymbolicLink text) = refl
same-processes (ProcessDirectory standing) = refl

-- what is no directory may have several names
linked-or-directory : (b : Body) → is_directory b ≡ false → may_be_linked b ≡ true
linked-or-directory (Directory entries standing) e = absurd cc
linked-or-directory (RegularFile bytes) e = refl
linked-or-directory (SymbolicLink text) e = refl
linked-or-directory (ProcessDirectory standing) e = absurd cc

not-filled : (b : Body) → is_directory b ≡ false → is_filled b ≡ false
not-filled (Directory entries standing) e = absurd cc
not-filled (RegularFile bytes) e = refl
not-filled (SymbolicLink text) e = refl
not-filled (ProcessDirectory standing) e = refl

-- of two kinds neither is a directory where the other isn't
same-kinds : (a b : Bool) → (a && not b) ≡ false → (b && not a) ≡ false → b ≡ a
same-kinds true true one two = refl
same-kinds true false one two = absurd cc
same-kinds false true one two = absurd cc
same-kinds false false one two = refl

module _ {M : Type 0} (number : M → ℕ) (table : List Row) (mounts : Mounts M) (pid : ℕ) (s : State M Image) (l : IsLawful number table s) (lives : IsSome (process pid s)) where
  abbrev k : Known
  k = known image_layout pid s

  abbrev Can : List Change → Type 0
  Can cs = CanAllBeMade number table mounts pid s cs × AreModest s.user cs

  -- ---- directories to be changed

  abbrev TakesNames : ℕ → Type 0
  TakesNames d = body_is takes_names s.tree d ≡ true

  pub written-to : (at : Host) (next : ℕ → Node → Replying) → ((d : ℕ) (n : Node) → at ≡ host.Node d → TakesNames d → Allowed Can false (next d n)) → Allowed Can false (writable k at next)
  written-to (host.Proc i at) next allowed = either (is_over k at) (λ _. refuses ENOENT) (λ _. refuses EACCES)
  written-to (host.Node i) next allowed = by (known_node k i) refl
    where
      body : (n : Node) (b : Body) → (takes_names b ≡ true → Allowed Can false (next i n)) → Allowed Can false (writable_body k n b (next i n))
      body n (Directory entries None) rest = refuses ENOENT
      body n (Directory entries (Some standing)) rest = either (allows k.user n Write && allows k.user n Search) (λ _. rest refl) (λ _. refuses EACCES)
      body n (RegularFile bytes) rest = refuses ENOTDIR
      body n (SymbolicLink text) rest = refuses ENOTDIR
      body n (ProcessDirectory standing) rest = refuses EACCES

      by : (o : Option Node) → known_node k i ≡ o → Allowed Can false (writable_node k o (next i))
      by None e = refuses ENOENT
      by (Some n) e = body n n.body (λ takes. allowed i n refl (test-known pid s takes_names i n e ∙ takes))

  -- ---- new names

  pub free-name : (dir : Host) (name : List ℕ) → IsFreeIn s.tree dir name → (d : ℕ) → dir ≡ host.Node d → TakesNames d → IsFreeName s.tree d name
  free-name dir name free d at takes = let own = free d at takes in record { takes = takes; well_formed = own.0; bytes = own.1; free = own.2 }

  -- a mode has twelve bits
  pub small-mode : (mode : ℕ) → unmasked k mode < 4096
  small-mode mode = let few = and_le_r mode (0xfff - k.caller.umask) in omega arith

  directory-made : (m : Made) → IsMadeIn number table mounts s.tree m → (mode : ℕ) → Allowed Can false (mkdirat_row k m mode)
  directory-made (MakesNoName last) is mode = refuses EEXIST
  directory-made MakesOver is mode = refuses EEXIST
  directory-made (Makes dir name slash) is mode =
      written-to dir (make_directory k mode name)
      (λ d n at takes. either (has_no_room 0 k) (λ _. refuses ENOSPC)
      (λ room. ended ((lives, record { named = free-name dir name is d at takes; small = small-mode (bit_and mode 0x3ff); new = refl; bytes = tt; room = room }, tt), record { users = ((refl, refl, tt), tt); drawn = draws-once _ refl })))

  link-made : (m : Made) → IsMadeIn number table mounts s.tree m → (text : List ℕ) → AreBytes text → IsText text → Allowed Can false (symlinkat_row k m text)
  link-made (MakesNoName last) is text are is_text = refuses EEXIST
  link-made MakesOver is text are is_text = refuses EEXIST
  link-made (Makes dir name slash) is text are is_text =
      either slash (λ _. refuses ENOENT)
      (λ _. written-to dir (make_link k text name)
      (λ d n at takes. either (has_no_room (length text) k) (λ _. refuses ENOSPC)
      (λ room. ended ((lives, record { named = free-name dir name is d at takes; small = omega arith; new = refl; bytes = are; room = room }, tt), record { users = ((refl, refl, is_text), tt); drawn = draws-once _ refl }))))

  -- what is in the tree and no directory may be linked
  may-link : (i : ℕ) → is_there (inode s.tree i) ≡ true → body_passes is_directory k i ≡ false → body_is may_be_linked s.tree i ≡ true
  may-link i there none = by (inode s.tree i) there (sym (known-test pid s is_directory i) ∙ none)
    where
      by : (o : Option Inode) → is_there o ≡ true → option_map_or (λ (x : Inode). is_directory x.node.body) o false ≡ false → option_map_or (λ (x : Inode). may_be_linked x.node.body) o false ≡ true
      by None there none = absurd cc
      by (Some x) there none = linked-or-directory x.node.body none

  host-linked : (at dir : Host) (name : List ℕ) → ((i : ℕ) → at ≡ host.Node i → is_there (inode s.tree i) ≡ true) → IsFreeIn s.tree dir name → Allowed Can false (link_host k at dir name)
  host-linked (host.Proc i at) dir name there free = refuses EPERM
  host-linked (host.Node i) dir name there free =
      either (body_passes is_directory k i) (λ _. refuses EPERM)
      (λ none. written-to dir (link_node k i name)
      (λ d n at takes. either (has_no_name_left k) (λ _. refuses ENOSPC)
      (λ room. ended ((lives, record { named = free-name dir name free d at takes; linked = may-link i (there i refl) none; room = room }, tt), quietly refl))))

  linkat : (old : Looked) → IsLookedIn number table mounts s.tree old → (m : Made) → IsMadeIn number table mounts s.tree m → (same_mount : Bool) → Allowed Can false (linkat_row k old m same_mount)
  linkat old found (MakesNoName last) is same_mount = refuses EEXIST
  linkat old found MakesOver is same_mount = refuses EEXIST
  linkat old found (Makes dir name slash) is same_mount =
      either slash (λ _. refuses ENOENT) (λ _. either (not same_mount) (λ _. refuses EXDEV) (λ _. host-linked old.host dir name (there old.host found.found.stands.object) is))
    where
      there : (h : Host) → IsObjectOf s.tree h → (i : ℕ) → h ≡ host.Node i → is_there (inode s.tree i) ≡ true
      there (host.Node j) object i e = subst (λ q. is_there (inode s.tree q) ≡ true) (node-is j i e) object
      there (host.Proc j at) object i e = absurd cc

  -- ---- names that go

  -- what isn't the process directory
  no-processes : (i : ℕ) → is_processes_host k (host.Node i) ≡ false → body_is is_processes_body s.tree i ≡ false
  no-processes i none = by (inode s.tree i) (sym (known-test pid s is_processes i) ∙ none)
    where
      by : (o : Option Inode) → option_map_or (λ (x : Inode). is_processes x.node.body) o false ≡ false → option_map_or (λ (x : Inode). is_processes_body x.node.body) o false ≡ false
      by None none = refl
      by (Some x) none = same-processes x.node.body ∙ none

  -- an entry that was found is one of its directory
  own-entry : (e : Entered) → IsEntryIn s.tree table e → (d i : ℕ) → e.dir ≡ host.Node d → TakesNames d → e.found ≡ Some (host.Node i) → entry s.tree d e.name ≡ Some i
  own-entry e is d i at takes found = let own = is.found d (host.Node i) at takes found in own.2 ∙ ap (λ q. Some q) (sym (node-is i own.0 own.1))

  can-remove : (e : Entered) → IsEntryIn s.tree table e → (d i : ℕ) → e.dir ≡ host.Node d → TakesNames d → e.found ≡ Some (host.Node i) → body_is is_filled s.tree i ≡ false → is_processes_host k (host.Node i) ≡ false → CanRemove table s.tree d e.name
  can-remove e is d i at takes found empty none =
      record { uncovered = is.uncovered d at takes; own = i; there = own-entry e is d i at takes found; empty = empty; no_processes = no-processes i none }

  entry-taken : (e : Entered) (found : Host) (next : ℕ → Node → Replying)
      → ((d i : ℕ) (x : Node) → e.dir ≡ host.Node d → TakesNames d → found ≡ host.Node i → known_node k i ≡ Some x → Allowed Can false (next d x)) → Allowed Can false (take_entry k e found next)
  entry-taken e (host.Node i) next allowed =
      written-to e.dir _ (λ d n at takes. maybe (known_node k i) (λ x known. either (is_kept_by_sticky k.user n x) (λ _. refuses EPERM) (λ _. allowed d i x at takes refl known)) (refuses ENOENT))
  entry-taken e (host.Proc i at) next allowed = written-to e.dir (λ d n. refuse EACCES) (λ d n at takes. refuses EACCES)

  file-removed : (e : Entered) → IsEntryIn s.tree table e → (found : Host) → e.found ≡ Some found → Allowed Can false (unlink_found k e found)
  file-removed e is found there =
      either (is_processes_host k found) (λ _. refuses EBUSY)
      (λ none. either e.slash (λ _. refuses (cond (is_directory_host k found) EISDIR ENOTDIR))
      (λ _. entry-taken e found (remove_file k e.name)
      (λ d i x at takes same known. either (is_directory x.body) (λ _. refuses EISDIR)
      (λ file. ended ((lives, can-remove e is d i at takes (there ∙ ap (λ h. Some h) same) (test-known pid s is_filled i x known ∙ not-filled x.body file) (ap (is_processes_host k) (sym same) ∙ none), tt), quietly refl)))))

  unlinked : (t : Taken) → IsTakenIn number table mounts s.tree t → Allowed Can false (unlink_row k t)
  unlinked (TakesNoName last) is = refuses EISDIR
  unlinked TakesCovered is = refuses EBUSY
  unlinked (Takes e) is = maybe e.found (λ found there. file-removed e is found there) (refuses ENOENT)

  directory-removed : (e : Entered) → IsEntryIn s.tree table e → (found : Host) → e.found ≡ Some found → Allowed Can false (rmdir_found k e found)
  directory-removed e is found there =
      either (is_processes_host k found) (λ _. refuses EBUSY)
      (λ none. entry-taken e found (remove_directory k e.name)
      (λ d i x at takes same known. either (not (is_directory x.body)) (λ _. refuses ENOTDIR)
      (λ _. either (is_filled x.body) (λ _. refuses ENOTEMPTY)
      (λ empty. ended ((lives, can-remove e is d i at takes (there ∙ ap (λ h. Some h) same) (test-known pid s is_filled i x known ∙ empty) (ap (is_processes_host k) (sym same) ∙ none), tt), quietly refl)))))

  directories-removed : (t : Taken) → IsTakenIn number table mounts s.tree t → Allowed Can false (rmdir_row k t)
  directories-removed (TakesNoName last) is = refuses (ending_removed last)
  directories-removed TakesCovered is = refuses EBUSY
  directories-removed (Takes e) is = maybe e.found (λ found there. directory-removed e is found there) (refuses ENOENT)

  unlinkat : (t : Taken) → IsTakenIn number table mounts s.tree t → (flags : ℕ) → Allowed Can false (unlinkat_row k t flags)
  unlinkat t is flags = either (removes_directory flags) (λ _. directories-removed t is) (λ _. unlinked t is)

  -- ---- names that move

  module _ (old new : Entered) (is_old : IsEntryIn s.tree table old) (is_new : IsEntryIn s.tree table new) (i : ℕ) (found : old.found ≡ Some (host.Node i))
      (apart : is_at_or_above k (host.Node i) new.dir ≡ false) (none : option_map_or (is_processes_host k) new.found false ≡ false)
      (d to : ℕ) (at : old.dir ≡ host.Node d) (takes : TakesNames d) (new_at : new.dir ≡ host.Node to) (new_takes : TakesNames to) where
    -- a move is lawful where that onto what is there is
    can-move : (is_name new.name ≡ true) × AreBytes new.name
        → ((q : ℕ) → entry s.tree to new.name ≡ Some q → q ≢ i → (body_is is_directory s.tree q ≡ body_is is_directory s.tree i) × (body_is is_filled s.tree q ≡ false))
        → ((q : ℕ) → entry s.tree to new.name ≡ Some q → body_is is_processes_body s.tree q ≡ false) → CanMove table s.tree d old.name to new.name
    can-move onto like others =
        record {
          move = record {
            moved = i;
            there = own-entry old is_old d i at takes found;
            takes = new_takes;
            well_formed = onto.0;
            apart = λ directory. not-below pid s l.tree.sound i to (ap (is_at_or_above k (host.Node i)) (sym new_at) ∙ apart);
            like = like;
          };
          bytes = onto.1;
          uncovered = is_old.uncovered d at takes;
          free = is_new.uncovered to new_at new_takes;
          no_processes = others;
        }

    -- nothing is there
    freely : new.found ≡ None → CanMove table s.tree d old.name to new.name
    freely free =
        let own = is_new.free free to new_at new_takes in
        let missing = own.2 in
        can-move (own.0, own.1) (λ q there. absurd (let no : None ≡ Some q = sym missing ∙ there in cc)) (λ q there. absurd (let no : None ≡ Some q = sym missing ∙ there in cc))

    -- something of its kind is
    over : (j : ℕ) (n x : Node) → new.found ≡ Some (host.Node j) → known_node k i ≡ Some n → known_node k j ≡ Some x → is_directory x.body ≡ is_directory n.body → is_filled x.body ≡ false → CanMove table s.tree d old.name to new.name
    over j n x there known_old known_new kinds empty =
        let named = own-entry new is_new to j new_at new_takes there in
        let one : (q : ℕ) → entry s.tree to new.name ≡ Some q → j ≡ q = λ q e. some_is j q (sym named ∙ e) in
        can-move (entry-name s.tree l.tree to new.name j named)
        (λ q e other. subst (λ q. (body_is is_directory s.tree q ≡ body_is is_directory s.tree i) × (body_is is_filled s.tree q ≡ false)) (one q e)
        (test-known pid s is_directory j x known_new ∙ kinds ∙ sym (test-known pid s is_directory i n known_old), test-known pid s is_filled j x known_new ∙ empty))
        (λ q e. subst (λ q. body_is is_processes_body s.tree q ≡ false) (one q e) (no-processes j (sym (ap (λ (o : Option Host). option_map_or (is_processes_host k) o false) there) ∙ none)))

    moved-over : (j : ℕ) (n x : Node) → new.found ≡ Some (host.Node j) → known_node k i ≡ Some n → known_node k j ≡ Some x → Allowed Can false (move_over k old new d to n x)
    moved-over j n x there known_old known_new =
        either (not (can_move k d to n)) (λ _. refuses EACCES)
        (λ _. either (is_directory n.body && not (is_directory x.body)) (λ _. refuses ENOTDIR)
        (λ one. either (is_directory x.body && not (is_directory n.body)) (λ _. refuses EISDIR)
        (λ two. either (is_filled x.body) (λ _. refuses ENOTEMPTY)
        (λ empty. ended ((lives, over j n x there known_old known_new (same-kinds (is_directory n.body) (is_directory x.body) one two) empty, tt), quietly refl)))))

    moved-onto : (dn tn n : Node) → known_node k i ≡ Some n → (o : Option Host) → new.found ≡ o → Allowed Can false (move_onto k old new d to dn tn n o)
    moved-onto dn tn n known None there =
        either (is_kept_by_sticky k.user dn n) (λ _. refuses EPERM) (λ _. either (can_move k d to n) (λ _. ended ((lives, freely there, tt), quietly refl)) (λ _. refuses EACCES))
    moved-onto dn tn n known (Some (host.Node j)) there =
        either (is_kept_by_sticky k.user dn n) (λ _. refuses EPERM)
        (λ _. maybe (known_node k j) (λ x known_new. either (is_kept_by_sticky k.user tn x) (λ _. refuses EPERM) (λ _. moved-over j n x there known known_new)) (refuses ENOENT))
    moved-onto dn tn n known (Some (host.Proc j at)) there = refuses EACCES

  module _ (old new : Entered) (is_old : IsEntryIn s.tree table old) (is_new : IsEntryIn s.tree table new) where
    entry-moved : (found : Host) → old.found ≡ Some found → is_at_or_above k found new.dir ≡ false → option_map_or (is_processes_host k) new.found false ≡ false → Allowed Can false (move_entry k old new found)
    entry-moved (host.Node i) there apart none =
        written-to old.dir _ (λ d dn at takes. written-to new.dir _ (λ to tn new_at new_takes.
        maybe (known_node k i) (λ n known. moved-onto old new is_old is_new i there apart none d to at takes new_at new_takes dn tn n known new.found refl) (refuses ENOENT)))
    entry-moved (host.Proc i at) there apart none = written-to old.dir (λ d dn. refuse EACCES) (λ d dn at takes. refuses EACCES)

    found-moved : (found : Host) → old.found ≡ Some found → Allowed Can false (move_found k old new found)
    found-moved found there =
        either (is_processes_host k found) (λ _. refuses EBUSY)
        (λ _. either (option_map_or (is_processes_host k) new.found false) (λ _. refuses EBUSY)
        (λ none. either (not (is_directory_host k found) && (old.slash || new.slash)) (λ _. refuses ENOTDIR)
        (λ _. either (is_at_or_above k found new.dir) (λ _. refuses EINVAL)
        (λ apart. either (is_above_old k old new.found) (λ _. refuses ENOTEMPTY)
        (λ _. either (is_one found new.found) (λ _. unchanged) (λ _. entry-moved found there apart none))))))

  uncovered-moved : (old : Entered) → IsEntryIn s.tree table old → (new : Taken) → IsTakenIn number table mounts s.tree new → (found : Host) → old.found ≡ Some found → Allowed Can false (move_uncovered k old new found)
  uncovered-moved old is_old (TakesNoName last) is_new found there = refuses EBUSY
  uncovered-moved old is_old TakesCovered is_new found there = refuses EBUSY
  uncovered-moved old is_old (Takes new) is_new found there = found-moved old new is_old is_new found there

  taken-moved : (old new : Taken) → IsTakenIn number table mounts s.tree old → IsTakenIn number table mounts s.tree new → Allowed Can false (move_taken k old new)
  taken-moved (TakesNoName last) new is_old is_new = refuses EBUSY
  taken-moved TakesCovered new is_old is_new = refuses EBUSY
  taken-moved (Takes old) new is_old is_new = maybe old.found (λ found there. uncovered-moved old is_old new is_new found there) (refuses ENOENT)

  renameat2 : (old new : Taken) → IsTakenIn number table mounts s.tree old → IsTakenIn number table mounts s.tree new → (same_mount : Bool) → Allowed Can false (renameat2_row k old new same_mount)
  renameat2 old new is_old is_new same_mount =
      either (not same_mount) (λ _. refuses EXDEV) (λ _. either (not (ends_in_name old && ends_in_name new)) (λ _. refuses EBUSY) (λ _. taken-moved old new is_old is_new))

-- calls that change names
pub record AreNameRowsAllowed {M : Type 0} (number : M → ℕ) (table : List Row) (mounts : Mounts M) (pid : ℕ) : Type 0 where
  pub mkdirat : (made : Made) (mode : ℕ) → IsAllowedWhere number table mounts pid (λ t next. IsMadeIn number table mounts t made) (λ k. mkdirat_row k made mode)
  pub unlinkat : (taken : Taken) (flags : ℕ) → IsAllowedWhere number table mounts pid (λ t next. IsTakenIn number table mounts t taken) (λ k. unlinkat_row k taken flags)
  pub symlinkat : (made : Made) (text : List ℕ) → AreBytes text → IsText text → IsAllowedWhere number table mounts pid (λ t next. IsMadeIn number table mounts t made) (λ k. symlinkat_row k made text)
  pub linkat : (old : Looked) (made : Made) (same_mount : Bool)
      → IsAllowedWhere number table mounts pid (λ t next. IsLookedIn number table mounts t old × IsMadeIn number table mounts t made) (λ k. linkat_row k old made same_mount)
  pub renameat2 : (old new : Taken) (same_mount : Bool)
      → IsAllowedWhere number table mounts pid (λ t next. IsTakenIn number table mounts t old × IsTakenIn number table mounts t new) (λ k. renameat2_row k old new same_mount)

pub name-rows : (M : Type 0) (number : M → ℕ) (table : List Row) (mounts : Mounts M) (pid : ℕ) → AreNameRowsAllowed number table mounts pid
name-rows M number table mounts pid = record {
  mkdirat = λ m mode. row-allowed number table mounts pid (λ t next. IsMadeIn number table mounts t m) (λ k. mkdirat_row k m mode) (λ s l lives rests. directory-made number table mounts pid s l lives m rests mode);
  unlinkat = λ taken flags. row-allowed number table mounts pid (λ t next. IsTakenIn number table mounts t taken) (λ k. unlinkat_row k taken flags) (λ s l lives rests. unlinkat number table mounts pid s l lives taken rests flags);
  symlinkat = λ m text are is_text. row-allowed number table mounts pid (λ t next. IsMadeIn number table mounts t m) (λ k. symlinkat_row k m text) (λ s l lives rests. link-made number table mounts pid s l lives m rests text are is_text);
  linkat = λ old m same_mount.
      row-allowed number table mounts pid (λ t next. IsLookedIn number table mounts t old × IsMadeIn number table mounts t m) (λ k. linkat_row k old m same_mount)
      (λ s l lives rests. linkat number table mounts pid s l lives old rests.0 m rests.1 same_mount);
  renameat2 = λ old new same_mount.
      row-allowed number table mounts pid (λ t next. IsTakenIn number table mounts t old × IsTakenIn number table mounts t new) (λ k. renameat2_row k old new same_mount)
      (λ s l lives rests. renameat2 number table mounts pid s l lives old new rests.0 rests.1 same_mount);
}
