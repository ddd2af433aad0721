-- What rows of calls alter where they answer a number, told ahead.
use Rattle.std.proofs.Common.{◌≡◌, cond, ℕ, Bool, true, false, not, ◌&&◌, ◌||◌, List, [], ◌∷◌, Option, Some, None, ℤ, refl, sym, ap, subst, ◌∙◌, length}
use Rattle.std.specs.Prelude.{◌==◌}
use Rattle.std.specs.Bool.{if◌then◌else◌}
use Rattle.std.specs.Option.{option_and_then, option_map_or}
use Rattle.law_lawful.specs.pr_base.declared.errno.Errno.{Errno}
use Rattle.law_lawful.specs.pr_base.declared.errno.Errno.TheVariants.{EPERM, ENOENT, EBADF, EACCES, EBUSY, EEXIST, EXDEV, ENOTDIR, EISDIR, EINVAL, EMFILE, EFBIG, ENOSPC, ENOTEMPTY, ELOOP}
use Rattle.law_lawful.specs.kr_calls.Arguments.{has}
use Rattle.law_lawful.specs.kr_files.Descriptors.{lowest_free}
use Rattle.law_lawful.specs.kr_files.declared.opened.Opened.{Opened}
use Rattle.law_lawful.specs.kr_files.declared.opened.What.TheVariants.{File, Dir}
use Rattle.law_lawful.specs.kr_inode.declared.user.User.{User}
use Rattle.law_lawful.specs.kr_tree.Tree.{Body, Directory, Inode, Node, ProcessDirectory, RegularFile, SymbolicLink, Tree, bytes_of, inode}
use Rattle.law_lawful.specs.kr_tree.declared.place.Host.{Host}
use Rattle.law_lawful.specs.kr_tree.declared.place.Host.TheVariants as host
use Rattle.law_lawful.specs.kr_tree.declared.place.Place.{Place}
use Rattle.law_lawful.specs.kr_model.Applied.{Mounts, applied, images}
use Rattle.law_lawful.specs.kr_model.Asking.{descriptor_number, is_directory_host, is_processes_host, is_working_directory, of_number, or_badf, or_closed}
use Rattle.law_lawful.specs.kr_model.AttributeRows.{chmod_host, chown_by, chown_host, chown_node, chown_open, fchmod_row, fchown_row, fchownat_here, may_give, or_old, unchanged}
use Rattle.law_lawful.specs.kr_model.Change.{Change, MoveName, OfFound, OpenFile, SetOwner, SetSize}
use Rattle.law_lawful.specs.kr_model.DescriptorRows.{o_cloexec}
use Rattle.law_lawful.specs.kr_model.FileRows.{creates, cut_after, cut_file, ftruncate_row, inode_of_open, make_and_open, open_body, open_directory, open_file, open_found, open_host, open_under, openat_row, opens_as, truncates, wants_write}
use Rattle.law_lawful.specs.kr_model.Known.{Known, known_node}
use Rattle.law_lawful.specs.kr_model.NameRows.{ending_removed, is_above_old, is_at_or_above, is_one, link_host, linkat_row, mkdirat_row, move_entry, move_found, move_free, move_onto, move_over, move_taken, move_uncovered, remove_directory, remove_file, renameat2_row, rmdir_row, symlinkat_row, take_entry, unlink_found, unlink_row, unlinkat_row}
use Rattle.law_lawful.specs.kr_model.Reply.{Reply, Replying, done, refusal, refuse}
use Rattle.law_lawful.specs.kr_model.Seen.{Entered, Looked, Made, Makes, MakesNoName, MakesOver, Opening, OpensFound, OpensNew, OpensNoName, OpensSlashed, Taken, Takes, TakesCovered, TakesNoName}
use Rattle.law_lawful.specs.kr_model.State.{Image, State}
use Rattle.law_steady.specs.Ahead.{cuts_file, entry_alters, host_is_cut, is_answered, makes_file, mode_alters, move_alters, node_owner_alters, of_open, of_place, owner_alters, owner_here, rename_alters, size_alters}
use Rattle.law_steady.specs.Along.{passes_along}
use Rattle.law_steady.specs.Bytes.{alters_bytes_of, bytes_at}
use Rattle.law_steady.specs.Exact.{alters_shape_of}
use Rattle.law_steady.proofs.BytesAlongLemmas.{SameBytes, beside_leaves}
use Rattle.law_steady.proofs.EndLemmas.{Ends, answered, either, maybe, refused, written_in, written_to}

-- an error is no number
unanswered : (e : Errno) → is_answered (refusal e).outcome ≡ false
unanswered ENOENT = refl
unanswered _ = refl

without : (b : Bool) → (b || false) ≡ b
without true = refl
without false = refl

-- the bytes of an inode behind what leaves them
same_bytes_at : (t u : Tree) → SameBytes t u → (i : ℕ) → bytes_at u i ≡ bytes_at t i
same_bytes_at t u same i = by (inode t i) refl
  where
    gone : inode t i ≡ None → (o : Option Inode) → inode u i ≡ o → option_map_or (λ (x : Inode). bytes_of x.node.body) o [] ≡ []
    gone none None is = refl
    gone none (Some y) is = let x = same.was i y is in let clash : None ≡ Some x.0 = sym none ∙ x.1 in absurd cc

    by : (o : Option Inode) → inode t i ≡ o → bytes_at u i ≡ option_map_or (λ (x : Inode). bytes_of x.node.body) o []
    by None is = gone is (inode u i) refl
    by (Some x) is = let y = same.there i x is in ap (λ o. option_map_or (λ (x : Inode). bytes_of x.node.body) o []) y.1 ∙ y.2

module _ {M : Type 0} (mounts : Mounts M) (pid : ℕ) (s : State M Image) where
  abbrev shape_altered : List Change → Bool
  shape_altered cs = passes_along alters_shape_of mounts pid s cs

  abbrev bytes_altered : List Change → Bool
  bytes_altered cs = passes_along alters_bytes_of mounts pid s cs

  -- what the changes of a reply alter: that is told which alters where a number is answered
  pub record Tells (shape bytes : Bool) (reply : Reply) : Type 0 where
    pub shape_is : shape_altered reply.changes ≡ (is_answered reply.outcome && shape)
    pub bytes_are : bytes_altered reply.changes ≡ (is_answered reply.outcome && bytes)

  abbrev pub Told : (shape bytes : Bool) → Replying → Type 0
  Told shape bytes row = Ends (Tells shape bytes) row

  pub refuses : (shape bytes : Bool) (e : Errno) → Tells shape bytes (refusal e)
  refuses shape bytes e = record { shape_is = sym (ap (λ b. b && shape) (unanswered e)); bytes_are = sym (ap (λ b. b && bytes) (unanswered e)) }

  -- a number with these changes
  tells : (shape bytes : Bool) (n : ℕ) (cs : List Change) → shape_altered cs ≡ shape → bytes_altered cs ≡ bytes → Told shape bytes (done n cs)
  tells shape bytes n cs one other = answered (record { shape_is = one; bytes_are = other })

  pub no : (shape bytes : Bool) (e : Errno) → Told shape bytes (refuse e)
  no shape bytes e = refused e (refuses shape bytes e)

  -- ---- new names

  made_over : (e : Errno) → Told true false (refuse e)
  made_over e = no true false e

  pub mkdirat_told : (k : Known) (m : Made) (mode : ℕ) → Told true false (mkdirat_row k m mode)
  mkdirat_told k (MakesNoName last) mode = made_over EEXIST
  mkdirat_told k MakesOver mode = made_over EEXIST
  mkdirat_told k (Makes dir name slash) mode = written_to (refuses true false) k dir (λ d n. either _ (made_over ENOSPC) (tells true false 0 _ refl refl))

  pub symlinkat_told : (k : Known) (m : Made) (text : List ℕ) → Told true false (symlinkat_row k m text)
  symlinkat_told k (MakesNoName last) text = made_over EEXIST
  symlinkat_told k MakesOver text = made_over EEXIST
  symlinkat_told k (Makes dir name slash) text =
      either slash (made_over ENOENT) (written_to (refuses true false) k dir (λ d n. either _ (made_over ENOSPC) (tells true false 0 _ refl refl)))

  host_linked : (k : Known) (old dir : Host) (name : List ℕ) → Told true false (link_host k old dir name)
  host_linked k (host.Node i) dir name =
      either _ (made_over EPERM) (written_to (refuses true false) k dir (λ d n. either _ (made_over ENOSPC) (tells true false 0 _ refl refl)))
  host_linked k (host.Proc i at) dir name = made_over EPERM

  pub linkat_told : (k : Known) (old : Looked) (m : Made) (same_mount : Bool) → Told true false (linkat_row k old m same_mount)
  linkat_told k old (MakesNoName last) same_mount = made_over EEXIST
  linkat_told k old MakesOver same_mount = made_over EEXIST
  linkat_told k old (Makes dir name slash) same_mount = either slash (made_over ENOENT) (either _ (made_over EXDEV) (host_linked k old.host dir name))

  -- ---- names that go

  file_removed : (k : Known) (name : List ℕ) (d : ℕ) (n : Node) → Told true false (remove_file k name d n)
  file_removed k name d n = either _ (made_over EISDIR) (tells true false 0 _ refl refl)

  directory_removed : (k : Known) (name : List ℕ) (d : ℕ) (n : Node) → Told true false (remove_directory k name d n)
  directory_removed k name d n = either _ (made_over ENOTDIR) (either _ (made_over ENOTEMPTY) (tells true false 0 _ refl refl))

  entry_taken : (k : Known) (e : Entered) (found : Host) {next : ℕ → Node → Replying} → ((d : ℕ) (n : Node) → Told true false (next d n)) → Told true false (take_entry k e found next)
  entry_taken k e (host.Node i) goes =
      written_to (refuses true false) k e.dir (λ d n. maybe (known_node k i) (λ x. either _ (made_over EPERM) (goes d x)) (made_over ENOENT))
  entry_taken k e (host.Proc i at) goes = written_to (refuses true false) k e.dir (λ d n. made_over EACCES)

  slashed : (b : Bool) → Told true false (refuse (cond b EISDIR ENOTDIR))
  slashed true = made_over EISDIR
  slashed false = made_over ENOTDIR

  found_unlinked : (k : Known) (e : Entered) (found : Host) → Told true false (unlink_found k e found)
  found_unlinked k e found = either _ (made_over EBUSY) (either e.slash (slashed _) (entry_taken k e found (file_removed k e.name)))

  unlinked : (k : Known) (t : Taken) → Told true false (unlink_row k t)
  unlinked k (TakesNoName last) = made_over EISDIR
  unlinked k TakesCovered = made_over EBUSY
  unlinked k (Takes e) = maybe e.found (found_unlinked k e) (made_over ENOENT)

  directory_unlinked : (k : Known) (t : Taken) → Told true false (rmdir_row k t)
  directory_unlinked k (TakesNoName last) = made_over (ending_removed last)
  directory_unlinked k TakesCovered = made_over EBUSY
  directory_unlinked k (Takes e) = maybe e.found (λ found. either _ (made_over EBUSY) (entry_taken k e found (directory_removed k e.name))) (made_over ENOENT)

  pub unlinkat_told : (k : Known) (t : Taken) (flags : ℕ) → Told true false (unlinkat_row k t flags)
  unlinkat_told k t flags = either _ (directory_unlinked k t) (unlinked k t)

  -- ---- names that move

  module _ (k : Known) (old new : Entered) where
    -- between two directories
    module _ (d to : ℕ) where
      abbrev moving : Bool
      moving = alters_shape_of s.tree (MoveName d old.name to new.name)

      stays : (e : Errno) → Told moving false (refuse e)
      stays e = no moving false e

      moves : Told moving false (done 0 (MoveName d old.name to new.name ∷ []))
      moves = tells moving false 0 _ (without moving) refl

      freely : (n : Node) → Told moving false (move_free k old new d to n)
      freely n = either _ moves (stays EACCES)

      over : (n x : Node) → Told moving false (move_over k old new d to n x)
      over n x = either _ (stays EACCES) (either _ (stays ENOTDIR) (either _ (stays EISDIR) (either _ (stays ENOTEMPTY) moves)))

      onto : (dn tn n : Node) (o : Option Host) → Told moving false (move_onto k old new d to dn tn n o)
      onto dn tn n None = either _ (stays EPERM) (freely n)
      onto dn tn n (Some (host.Node j)) = either _ (stays EPERM) (maybe (known_node k j) (λ x. either _ (stays EPERM) (over n x)) (stays ENOENT))
      onto dn tn n (Some (host.Proc j at)) = stays EACCES

    abbrev moved : Bool
    moved = move_alters s.tree old.dir old.name new.dir new.name

    of_directories : (d to : ℕ) → old.dir ≡ host.Node d → new.dir ≡ host.Node to → moving d to ≡ moved
    of_directories d to from into =
        sym (ap (λ h. move_alters s.tree h old.name new.dir new.name) from ∙ ap (λ h. move_alters s.tree (host.Node d) old.name h new.name) into)

    entry_moved : (found : Host) → Told moved false (move_entry k old new found)
    entry_moved (host.Node i) =
        written_in (refuses moved false) k old.dir (λ d dn from. written_in (refuses moved false) k new.dir (λ to tn into.
        subst (λ b. Told b false (option_map_or (λ n. move_onto k old new d to dn tn n new.found) (known_node k i) (refuse ENOENT))) (of_directories d to from into)
        (maybe (known_node k i) (λ n. onto d to dn tn n new.found) (stays d to ENOENT))))
    entry_moved (host.Proc i at) = written_in (refuses moved false) k old.dir (λ d dn from. no moved false EACCES)

    apart : (found : Host) (b : Bool) → Told (cond b false moved) false (if b then done 0 [] else move_entry k old new found)
    apart found true = tells false false 0 [] refl refl
    apart found false = entry_moved found

    found_moved : (found : Host) → Told (entry_alters s.tree old new found) false (move_found k old new found)
    found_moved found =
        let none : (e : Errno) → Told (entry_alters s.tree old new found) false (refuse e) = no (entry_alters s.tree old new found) false in
        either (is_processes_host k found) (none EBUSY)
        (either (option_map_or (is_processes_host k) new.found false) (none EBUSY)
        (either (not (is_directory_host k found) && (old.slash || new.slash)) (none ENOTDIR)
        (either (is_at_or_above k found new.dir) (none EINVAL)
        (either (is_above_old k old new.found) (none ENOTEMPTY) (apart found (is_one found new.found))))))

  taken_moved : (k : Known) (old new : Taken) → Told (rename_alters s.tree old new) false (move_taken k old new)
  taken_moved k (TakesNoName last) new = no (rename_alters s.tree (TakesNoName last) new) false EBUSY
  taken_moved k TakesCovered new = no (rename_alters s.tree TakesCovered new) false EBUSY
  taken_moved k (Takes old) (TakesNoName last) = maybe old.found (λ found. no false false EBUSY) (no false false ENOENT)
  taken_moved k (Takes old) TakesCovered = maybe old.found (λ found. no false false EBUSY) (no false false ENOENT)
  taken_moved k (Takes old) (Takes new) = by old.found
    where
      by : (o : Option Host) → Told (option_map_or (entry_alters s.tree old new) o false) false (option_map_or (move_uncovered k old (Takes new)) o (refuse ENOENT))
      by None = no false false ENOENT
      by (Some found) = found_moved k old new found

  pub renameat2_told : (k : Known) (old new : Taken) (same_mount : Bool) → Told (rename_alters s.tree old new) false (renameat2_row k old new same_mount)
  renameat2_told k old new same_mount =
      either _ (no (rename_alters s.tree old new) false EXDEV) (either _ (no (rename_alters s.tree old new) false EBUSY) (taken_moved k old new))

  -- ---- descriptors

  -- what is told of what is open
  open_told : (tell : Bool → Reply → Type 0) → ((b : Bool) (e : Errno) → tell b (refusal e)) → (k : Known) (fd : ℤ) (test : Opened (Unit {0}) → Bool) (next : ℕ → Opened (Unit {0}) → Replying)
      → ((n : ℕ) (o : Opened (Unit {0})) → Ends (tell (test o)) (next n o)) → Ends (tell (of_open k fd test)) (or_badf k fd next)
  open_told tell refusing k fd test next each = by_number (descriptor_number fd)
    where
      by_open : (n : ℕ) (o : Option (Opened (Unit {0}))) → Ends (tell (option_map_or test o false)) (or_closed o (next n))
      by_open n None = refused EBADF (refusing false EBADF)
      by_open n (Some o) = each n o

      by_number : (d : Option ℕ) → Ends (tell (option_map_or test (option_and_then k.opened d) false)) (of_number k d next)
      by_number None = refused EBADF (refusing false EBADF)
      by_number (Some n) = by_open n (k.opened n)

  -- ---- modes and owners

  pub host_chmodded : (k : Known) (mode : ℕ) (at : Host) → Told (mode_alters s.tree mode at) false (chmod_host k mode at)
  host_chmodded k mode (host.Node i) =
      let sets : Bool = mode_alters s.tree mode (host.Node i) in
      maybe (known_node k i) (λ n. either _ (no sets false EPERM) (tells sets false 0 _ (without sets) refl)) (no sets false ENOENT)
  host_chmodded k mode (host.Proc i at) = no false false EPERM

  place_chmodded : (k : Known) (mode : ℕ) (place : Option (Place (Unit {0})))
      → Told (option_map_or (λ p. mode_alters s.tree mode p.host) place false) false (option_map_or (λ p. chmod_host k mode p.host) place (refuse EPERM))
  place_chmodded k mode None = no false false EPERM
  place_chmodded k mode (Some p) = host_chmodded k mode p.host

  pub fchmod_told : (k : Known) (fd : ℤ) (mode : ℕ) → Told (of_open k fd (of_place (mode_alters s.tree mode))) false (fchmod_row k fd mode)
  fchmod_told k fd mode =
      open_told (λ b. Tells b false) (λ b e. refuses b false e) k fd (of_place (mode_alters s.tree mode)) (λ n o. option_map_or (λ p. chmod_host k mode p.host) o.place (refuse EPERM)) (λ n o. place_chmodded k mode o.place)

  chowned : (user owner : User) (uid gid : ℕ) (sets : Bool) (changes : List Change) → shape_altered changes ≡ sets → bytes_altered changes ≡ false → (left : Bool)
      → Told (cond left false sets) false (cond left (done 0 []) (cond (may_give user owner uid gid) (done 0 changes) (refuse EPERM)))
  chowned user owner uid gid sets changes one other true = tells false false 0 [] refl refl
  chowned user owner uid gid sets changes one other false = either _ (tells sets false 0 changes one other) (no sets false EPERM)

  node_chowned : (k : Known) (uid gid i : ℕ) (n : Node) → Told (node_owner_alters s.tree uid gid i n) false (chown_node k uid gid i n)
  node_chowned k uid gid i n =
      chowned k.user (record { uid = n.uid; gid = n.gid }) uid gid (alters_shape_of s.tree (SetOwner i (or_old uid n.uid) (or_old gid n.gid))) (SetOwner i (or_old uid n.uid) (or_old gid n.gid) ∷ [])
      (without (alters_shape_of s.tree (SetOwner i (or_old uid n.uid) (or_old gid n.gid)))) refl (uid == unchanged && gid == unchanged)

  left_alone : (user owner : User) (uid gid : ℕ) → Told false false (chown_by user owner uid gid [])
  left_alone user owner uid gid = either _ (tells false false 0 [] refl refl) (either _ (tells false false 0 [] refl refl) (no false false EPERM))

  pub host_chowned : (k : Known) (uid gid : ℕ) (at : Host) → Told (owner_alters s.tree k uid gid at) false (chown_host k uid gid at)
  host_chowned k uid gid (host.Node i) = by (known_node k i)
    where
      by : (o : Option Node) → Told (option_map_or (node_owner_alters s.tree uid gid i) o false) false (option_map_or (chown_node k uid gid i) o (refuse ENOENT))
      by None = no false false ENOENT
      by (Some n) = node_chowned k uid gid i n
  host_chowned k uid gid (host.Proc i at) = left_alone k.user k.user uid gid

  place_chowned : (k : Known) (uid gid : ℕ) (place : Option (Place (Unit {0})))
      → Told (option_map_or (λ p. owner_alters s.tree k uid gid p.host) place false) false (option_map_or (λ p. chown_host k uid gid p.host) place (chown_by k.user k.user uid gid []))
  place_chowned k uid gid None = left_alone k.user k.user uid gid
  place_chowned k uid gid (Some p) = host_chowned k uid gid p.host

  pub fchown_told : (k : Known) (fd : ℤ) (uid gid : ℕ) → Told (of_open k fd (of_place (owner_alters s.tree k uid gid))) false (fchown_row k fd uid gid)
  fchown_told k fd uid gid =
      open_told (λ b. Tells b false) (λ b e. refuses b false e) k fd (of_place (owner_alters s.tree k uid gid)) (λ n o. chown_open k uid gid o) (λ n o. place_chowned k uid gid o.place)

  pub fchownat_here_told : (k : Known) (dirfd : ℤ) (uid gid : ℕ) → Told (owner_here s.tree k dirfd uid gid) false (fchownat_here k dirfd uid gid)
  fchownat_here_told k dirfd uid gid = by (is_working_directory dirfd)
    where
      by : (b : Bool) → Told (cond b (owner_alters s.tree k uid gid k.caller.cwd) (of_open k dirfd (of_place (owner_alters s.tree k uid gid)))) false (cond b (chown_host k uid gid k.caller.cwd) (fchown_row k dirfd uid gid))
      by true = host_chowned k uid gid k.caller.cwd
      by false = fchown_told k dirfd uid gid

  -- ---- sizes

  file_cut : (k : Known) (len : ℕ) (o : Opened (Unit {0})) → Told false (size_alters s.tree len (inode_of_open o)) (cut_file k o len)
  file_cut k len o =
      let sets : Bool = size_alters s.tree len (inode_of_open o) in
      either _ (no false sets EINVAL) (either _ (no false sets EFBIG) (either _ (no false sets ENOSPC) (tells false sets 0 _ refl (without sets))))

  pub ftruncate_told : (k : Known) (fd : ℤ) (len : ℕ) → Told false (of_open k fd (λ o. size_alters s.tree len (inode_of_open o))) (ftruncate_row k fd len)
  ftruncate_told k fd len =
      open_told (λ b. Tells false b) (λ b e. refuses false b e) k fd (λ o. size_alters s.tree len (inode_of_open o)) (λ n o. cut_file k o len) (λ n o. file_cut k len o)

  -- ---- openat(2)

  module _ (k : Known) (flags : ℕ) where
    -- behind what is opened, its file is cut or isn't
    shape_left : (b : Bool) (i : ℕ) (o : Opened (Unit {0})) (fd : ℕ) → shape_altered (OpenFile fd (has flags o_cloexec) OfFound o ∷ cond b (SetSize i 0 ∷ []) []) ≡ false
    shape_left true i o fd = refl
    shape_left false i o fd = refl

    bytes_cut : (b : Bool) (i : ℕ) (o : Opened (Unit {0})) (fd : ℕ) → bytes_altered (OpenFile fd (has flags o_cloexec) OfFound o ∷ cond b (SetSize i 0 ∷ []) []) ≡ (b && size_alters s.tree 0 i)
    bytes_cut true i o fd =
        let next = applied images mounts pid (OpenFile fd (has flags o_cloexec) OfFound o) s in
        without (size_alters next.tree 0 i)
        ∙ ap (λ bytes. not (length bytes == 0)) (same_bytes_at s.tree next.tree (beside_leaves mounts pid (OpenFile fd (has flags o_cloexec) OfFound o) s refl) i)
    bytes_cut false i o fd = refl

    under : (i : ℕ) (o : Opened (Unit {0})) (fd : Option ℕ) → Told false (truncates flags && size_alters s.tree 0 i) (open_under flags OfFound o (cut_after flags i) fd)
    under i o None = no false (truncates flags && size_alters s.tree 0 i) EMFILE
    under i o (Some fd) =
        tells false (truncates flags && size_alters s.tree 0 i) fd (OpenFile fd (has flags o_cloexec) OfFound o ∷ cut_after flags i) (shape_left (truncates flags) i o fd) (bytes_cut (truncates flags) i o fd)

    uncut : (o : Opened (Unit {0})) (fd : Option ℕ) → Told false false (open_under flags OfFound o [] fd)
    uncut o None = no false false EMFILE
    uncut o (Some fd) = tells false false fd (OpenFile fd (has flags o_cloexec) OfFound o ∷ []) refl refl

    refused_always : (cut a b : Bool) (row : Replying) → Told false cut (cond (a || b || true) (refuse EISDIR) row)
    refused_always cut true true row = no false cut EISDIR
    refused_always cut true false row = no false cut EISDIR
    refused_always cut false true row = no false cut EISDIR
    refused_always cut false false row = no false cut EISDIR

    -- a directory isn't opened to be cut
    directory_by : (cut readable : Bool) (o : Opened (Unit {0})) (b : Bool)
        → Told false (b && cut) (cond (wants_write flags || creates flags || b) (refuse EISDIR) (cond (not readable) (refuse EACCES) (open_under flags OfFound o [] (lowest_free k.caller.descs 0))))
    directory_by cut readable o true = refused_always cut (wants_write flags) (creates flags) _
    directory_by cut readable o false = either _ (no false false EISDIR) (either _ (no false false EACCES) (uncut o (lowest_free k.caller.descs 0)))

    directory_opened : (cut : Bool) (at : Host) (readable : Bool) → Told false (truncates flags && cut) (open_directory k flags at readable)
    directory_opened cut at readable = directory_by cut readable (opens_as Dir at 0 [] flags) (truncates flags)

    file_opened : (i : ℕ) (n : Node) (dir : ℕ) (name : List ℕ) → Told false (truncates flags && size_alters s.tree 0 i) (open_file k flags i n dir name)
    file_opened i n dir name =
        let cut : Bool = truncates flags && size_alters s.tree 0 i in
        either _ (no false cut ENOTDIR) (either _ (no false cut EACCES) (under i (opens_as File (host.Node i) dir name flags) (lowest_free k.caller.descs 0)))

    body_opened : (l : Looked) (i : ℕ) (n : Node) (body : Body) → Told false (truncates flags && size_alters s.tree 0 i) (open_body k flags l i n body)
    body_opened l i n (Directory entries standing) = directory_opened (size_alters s.tree 0 i) (host.Node i) _
    body_opened l i n (ProcessDirectory standing) = directory_opened (size_alters s.tree 0 i) (host.Node i) _
    body_opened l i n (SymbolicLink text) = no false (truncates flags && size_alters s.tree 0 i) ELOOP
    body_opened l i n (RegularFile bytes) = file_opened i n _ _

    host_opened : (l : Looked) (at : Host) → Told false (truncates flags && host_is_cut s.tree at) (open_host k flags l at)
    host_opened l (host.Node i) = maybe (known_node k i) (λ n. body_opened l i n n.body) (no false (truncates flags && size_alters s.tree 0 i) ENOENT)
    host_opened l (host.Proc i at) = either _ (directory_opened false (host.Proc i at) true) (no false (truncates flags && false) ELOOP)

    found_opened : (l : Looked) → Told false (truncates flags && host_is_cut s.tree l.host) (open_found k flags l)
    found_opened l = either _ (no false (truncates flags && host_is_cut s.tree l.host) EEXIST) (host_opened l l.host)

    made_and_opened : (mode d : ℕ) (name : List ℕ) (fd : Option ℕ) → Told true false (make_and_open k flags mode d name fd)
    made_and_opened mode d name None = made_over EMFILE
    made_and_opened mode d name (Some fd) = either _ (made_over ENOSPC) (tells true false fd _ refl refl)

    no_name : (b : Bool) → Told false false (refuse (cond b EEXIST EISDIR))
    no_name true = no false false EEXIST
    no_name false = no false false EISDIR

    pub openat_told : (mode : ℕ) (o : Opening) → Told (makes_file o) (cuts_file s.tree flags o) (openat_row k o flags mode)
    openat_told mode (OpensNoName last) = no_name _
    openat_told mode OpensSlashed = no false false EISDIR
    openat_told mode (OpensFound l) = found_opened l
    openat_told mode (OpensNew dir name) = written_to (refuses true false) k dir (λ d n. made_and_opened mode d name _)
