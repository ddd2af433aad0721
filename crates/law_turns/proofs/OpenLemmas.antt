-- A file or a directory that is opened, or entered, stands before it comes into use.
use Rattle.std.proofs.Common.{◌≡◌, ℕ, Bool, true, false, cond, not, List, [], ◌∷◌, Option, Some, None, refl, sym, ap, subst, ◌∙◌}
use Rattle.std.specs.Prelude.{◌&&◌, ◌||◌, IsSome}
use Rattle.std.specs.Option.{option_map_or}
use Rattle.kr_core.specs.pr_base.declared.errno.Errno.TheVariants.{EACCES, EEXIST, EISDIR, ELOOP, EMFILE, ENOENT, ENOSPC, ENOTDIR}
use Rattle.kr_core.specs.pr_base.Texts.{Text}
use Rattle.law_places.specs.kr_inode.declared.user.Right.TheVariants.{Read as ReadRight, Search as SearchRight, Write as WriteRight}
use Rattle.kr_core.specs.kr_tree.Rights.{allows}
use Rattle.kr_core.specs.kr_tree.Tree.{Body, Directory, Node as TreeNode, ProcessDirectory, RegularFile, SymbolicLink, is_directory}
use Rattle.kr_core.specs.kr_tree.declared.place.Host.{Host}
use Rattle.kr_core.specs.kr_tree.declared.place.Host.TheVariants.{Node, Proc}
use Rattle.kr_core.specs.kr_tree.declared.place.Place.{Place}
use Rattle.kr_core.proofs.kr_tree.NameLemmas.{some_is}
use Rattle.law_places.specs.kr_files.Descriptors.{lowest_free}
use Rattle.law_places.specs.kr_files.declared.opened.Opened.{Opened}
use Rattle.law_places.specs.kr_files.declared.opened.What.TheVariants.{Dir, File}
use Rattle.law_places.specs.kr_view.Component.{is_directory_at, is_process_directory, may_search}
use Rattle.law_places.specs.kr_view.HostReach.{is_link_at}
use Rattle.law_places.specs.kr_view.Laws.{is_link}
use Rattle.law_places.specs.kr_view.View.{Row}
use Rattle.law_places.proofs.kr_view.ArrivalLemmas.{directory_firm}
use Rattle.kr_core.specs.law_lawful.Laws.{CanAllBeMade}
use Rattle.kr_core.proofs.law_allowed.KnownLemmas.{maybe}
use Rattle.kr_core.proofs.law_allowed.NodeLemmas.{known-directory, test-known}
use Rattle.kr_core.proofs.law_allowed.RowLemmas.{Allowed, either, ended, refuses}
use Rattle.law_places.specs.kr_model.Applied.{Mounts, applied, images, in_mount}
use Rattle.law_places.specs.kr_model.Asking.{is_directory_host, is_over, is_searched, unmasked, writable_body, writable_node, has_no_room}
use Rattle.law_places.specs.kr_model.Change.{AddNode, Change, OfFound, SetSize}
use Rattle.law_places.specs.kr_model.Conditions.{CanAdd}
use Rattle.law_places.specs.kr_model.DirectoryRows.{chdir_row}
use Rattle.law_places.specs.kr_model.FileRows.{creates, cut_after, excludes, has_rights, make_and_open, open_body, open_directory, open_file, open_found, open_host, open_new, open_under, openat_row, opens_as, truncates, wants_directory, wants_write}
use Rattle.law_places.specs.kr_model.Known.{Known, known, known_node}
use Rattle.law_places.specs.kr_model.ProcessDirectory.{space_of}
use Rattle.law_places.specs.kr_model.Reply.{Replying}
use Rattle.law_places.specs.kr_model.Seen.{Looked, Opening, OpensFound, OpensNew, OpensNoName, OpensSlashed}
use Rattle.law_places.specs.kr_model.State.{Image, State, image_layout, process}
use Rattle.law_places.specs.Changes.{NewPlacesStand}
use Rattle.law_places.specs.Standing.{PlacesStand, UseStands}
use Rattle.law_places.specs.Uses.{open_use}
use Rattle.law_places.specs.law_walks.Standing.{StandsOn, place_in}
use Rattle.law_turns.proofs.FoundLemmas.{IsFound, directory_use, file_use}
use Rattle.law_turns.proofs.MadeLemmas.{made_use}

-- the entry that is told of what was looked up, if there is one
abbrev pub entry_told : Looked → ℕ × List ℕ
entry_told l = (option_map_or (λ e. e.0) l.entry 0, option_map_or (λ e. e.1) l.entry [])

passed : (b : Bool) → not b ≡ false → b ≡ true
passed true e = refl
passed false e = absurd cc

module _ (table : List Row) (mounts : Mounts ℕ) (pid : ℕ) (t : State ℕ Image) (stand : PlacesStand table t) where
  abbrev k : Known
  k = known image_layout pid t

  -- where changes can be made, what they bring into use stands
  abbrev pub Brings : List Change → Type 0
  Brings cs = CanAllBeMade (λ m. m) table mounts pid t cs → NewPlacesStand table mounts pid t cs

  -- what was looked up stands in the mount that was found, if it is no link
  abbrev pub StandsFound : Host → ℕ × List ℕ → Type 0
  StandsFound at e = (m : ℕ) → mounts.found ≡ Some m → is_link_at t.tree at ≡ false → IsFound (space_of table t) (place_in m at) e

  -- ---- what is there

  cut_brings : (s : State ℕ Image) (flags i : ℕ) → NewPlacesStand table mounts pid s (cut_after flags i)
  cut_brings s flags i = elim (truncates flags) as (λ b. NewPlacesStand table mounts pid s (cond b (SetSize i 0 ∷ []) [])) [ true ↦ (tt, tt) | false ↦ tt ]

  under : (flags : ℕ) (o : Opened (Unit {0})) (after : List Change) (fds : Option ℕ) → ((m : ℕ) (p : Place ℕ) → mounts.found ≡ Some m → (in_mount m o).place ≡ Some p → UseStands (space_of table t) (open_use (in_mount m o) p))
      → ((s : State ℕ Image) → NewPlacesStand table mounts pid s after) → Allowed Brings false (open_under flags OfFound o after fds)
  under flags o after None new more = refuses EMFILE
  under flags o after (Some fd) new more = ended (λ can. (new, more _))

  directory_opens : (flags : ℕ) (at : Host) (e : ℕ × List ℕ) (readable : Bool) → StandsFound at e → is_directory_at t.tree at ≡ true → is_link_at t.tree at ≡ false → Allowed Brings false (open_directory k flags at readable)
  directory_opens flags at e readable found dir firm =
      either (wants_write flags || creates flags || truncates flags) (λ _. refuses EISDIR)
      (λ _. either (not readable) (λ _. refuses EACCES) (λ _. under flags (opens_as Dir at 0 [] flags) [] (lowest_free k.caller.descs 0) new (λ s. tt)))
    where
      new : (m : ℕ) (p : Place ℕ) → mounts.found ≡ Some m → (in_mount m (opens_as Dir at 0 [] flags)).place ≡ Some p → UseStands (space_of table t) (open_use (in_mount m (opens_as Dir at 0 [] flags)) p)
      new m p is there =
          subst (λ (p : Place ℕ). UseStands (space_of table t) (record { place = p; is_directory = true; dir = 0; name = [] })) (some_is (place_in m at) p there)
          (directory_use (space_of table t) (place_in m at) e (found m is firm) dir)

  file_opens : (flags i : ℕ) (n : TreeNode) (dir : ℕ) (name : List ℕ) → StandsFound (Node i) (dir, name) → is_directory_at t.tree (Node i) ≡ false → is_link_at t.tree (Node i) ≡ false → Allowed Brings false (open_file k flags i n dir name)
  file_opens flags i n dir name found file firm =
      either (wants_directory flags) (λ _. refuses ENOTDIR)
      (λ _. either (not (has_rights k n flags)) (λ _. refuses EACCES) (λ _. under flags (opens_as File (Node i) dir name flags) (cut_after flags i) (lowest_free k.caller.descs 0) new (λ s. cut_brings s flags i)))
    where
      new : (m : ℕ) (p : Place ℕ) → mounts.found ≡ Some m → (in_mount m (opens_as File (Node i) dir name flags)).place ≡ Some p → UseStands (space_of table t) (open_use (in_mount m (opens_as File (Node i) dir name flags)) p)
      new m p is there =
          subst (λ (p : Place ℕ). UseStands (space_of table t) (record { place = p; is_directory = false; dir = dir; name = name })) (some_is (place_in m (Node i)) p there)
          (file_use (space_of table t) (place_in m (Node i)) (dir, name) (found m is firm) file)

  body_opens : (flags : ℕ) (l : Looked) (i : ℕ) (n : TreeNode) → known_node k i ≡ Some n → StandsFound (Node i) (entry_told l) → (b : Body) → n.body ≡ b → Allowed Brings false (open_body k flags l i n b)
  body_opens flags l i n there found (Directory entries standing) is =
      directory_opens flags (Node i) (entry_told l) (allows k.user n ReadRight) found (test-known pid t is_directory i n there ∙ ap is_directory is) (test-known pid t is_link i n there ∙ ap is_link is)
  body_opens flags l i n there found (ProcessDirectory standing) is =
      directory_opens flags (Node i) (entry_told l) (allows k.user n ReadRight) found (test-known pid t is_directory i n there ∙ ap is_directory is) (test-known pid t is_link i n there ∙ ap is_link is)
  body_opens flags l i n there found (SymbolicLink text) is = refuses ELOOP
  body_opens flags l i n there found (RegularFile bytes) is =
      file_opens flags i n (entry_told l).0 (entry_told l).1 found (test-known pid t is_directory i n there ∙ ap is_directory is) (test-known pid t is_link i n there ∙ ap is_link is)

  host_opens : (flags : ℕ) (l : Looked) (at : Host) → StandsFound at (entry_told l) → Allowed Brings false (open_host k flags l at)
  host_opens flags l (Node i) found = maybe (known_node k i) (λ n there. body_opens flags l i n there found n.body refl) (refuses ENOENT)
  host_opens flags l (Proc i at) found = either (is_process_directory at) (λ dir. directory_opens flags (Proc i at) (entry_told l) true found dir (ap not dir)) (λ _. refuses ELOOP)

  pub found_opens : (flags : ℕ) (l : Looked) → StandsFound l.host (entry_told l) → Allowed Brings false (open_found k flags l)
  found_opens flags l found = either (creates flags && excludes flags) (λ _. refuses EEXIST) (λ _. host_opens flags l l.host found)

  -- ---- a directory that is entered

  pub chdir_brings : (l : Looked) → StandsFound l.host (entry_told l) → Allowed Brings false (chdir_row k l)
  chdir_brings l found =
      either (not (is_directory_host k l.host)) (λ _. refuses ENOTDIR)
      (λ is. either (not (is_searched k l.host)) (λ _. refuses EACCES)
      (λ _. let dir = sym (known-directory pid t l.host) ∙ passed (is_directory_host k l.host) is in
      ended (λ can. ((λ m is. directory_use (space_of table t) (place_in m l.host) (entry_told l) (found m is (directory_firm t.tree l.host dir)) dir), tt))))

  -- ---- a file that is made

  body_written : (n : TreeNode) (b : Body) (next : Replying) → Allowed Brings false next → Allowed Brings false (writable_body k n b next)
  body_written n (Directory entries None) next allowed = refuses ENOENT
  body_written n (Directory entries (Some standing)) next allowed = either (allows k.user n WriteRight && allows k.user n SearchRight) (λ _. allowed) (λ _. refuses EACCES)
  body_written n (RegularFile bytes) next allowed = refuses ENOTDIR
  body_written n (SymbolicLink text) next allowed = refuses ENOTDIR
  body_written n (ProcessDirectory standing) next allowed = refuses EACCES

  node_written : (o : Option TreeNode) (next : TreeNode → Replying) → ((n : TreeNode) → Allowed Brings false (next n)) → Allowed Brings false (writable_node k o next)
  node_written None next allowed = refuses ENOENT
  node_written (Some n) next allowed = body_written n n.body (next n) (allowed n)

  -- a directory stands in the mount of the directory of the first path, and may be searched
  pub record StandsSearched (at : Host) : Type 0 where
    pub stands : (m : ℕ) → mounts.directory ≡ Some m → (guest : Text) × StandsOn (space_of table t) (place_in m at) guest
    pub search : may_search t.tree t.user at ≡ true

  module _ (flags mode : ℕ) (name : List ℕ) (d : ℕ) (at : StandsSearched (Node d)) where
    abbrev opens : Opened (Unit {0})
    opens = opens_as File (Node t.tree.next) d name flags

    abbrev adds : Change
    adds = AddNode d name (unmasked k mode) t.user.uid t.user.gid (RegularFile [])

    new_stands : IsSome (process pid t) → CanAdd t.tree d name (unmasked k mode) (RegularFile []) → (m : ℕ) (p : Place ℕ) → mounts.directory ≡ Some m → (in_mount m opens).place ≡ Some p
        → UseStands (space_of table (applied images mounts pid adds t)) (open_use (in_mount m opens) p)
    new_stands lives can m p is there =
        let s = at.stands m is in
        subst (λ (p : Place ℕ). UseStands (space_of table (applied images mounts pid adds t)) (record { place = p; is_directory = false; dir = d; name = name })) (some_is (place_in m (Node t.tree.next)) p there)
        (made_use table mounts pid t stand lives d name (unmasked k mode) t.user.uid t.user.gid can m s.0 s.1 at.search)

    made_opens : (fds : Option ℕ) → Allowed Brings false (make_and_open k flags mode d name fds)
    made_opens None = refuses EMFILE
    made_opens (Some fd) = either (has_no_room 0 k) (λ _. refuses ENOSPC) (λ _. ended (λ can. (tt, (new_stands can.0 can.1, tt))))

  pub new_opens : (flags mode : ℕ) (dir : Host) (name : List ℕ) → StandsSearched dir → Allowed Brings false (open_new k flags mode dir name)
  new_opens flags mode (Node d) name at = node_written (known_node k d) (λ n. make_and_open k flags mode d name (lowest_free k.caller.descs 0)) (λ n. made_opens flags mode name d at (lowest_free k.caller.descs 0))
  new_opens flags mode (Proc i at) name stands = either (is_over k at) (λ _. refuses ENOENT) (λ _. refuses EACCES)

  -- ---- openat(2)

  abbrev pub OpeningStands : Opening → Type 0
  OpeningStands (OpensNoName last) = Unit {0}
  OpeningStands OpensSlashed = Unit {0}
  OpeningStands (OpensFound l) = StandsFound l.host (entry_told l)
  OpeningStands (OpensNew dir name) = StandsSearched dir

  pub openat_brings : (o : Opening) (flags mode : ℕ) → OpeningStands o → Allowed Brings false (openat_row k o flags mode)
  openat_brings (OpensNoName last) flags mode stands = refuses (cond (excludes flags) EEXIST EISDIR)
  openat_brings OpensSlashed flags mode stands = refuses EISDIR
  openat_brings (OpensFound l) flags mode stands = found_opens flags l stands
  openat_brings (OpensNew dir name) flags mode stands = new_opens flags mode dir name stands
