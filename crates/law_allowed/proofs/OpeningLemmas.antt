-- openat(2) is allowed.
use Rattle.std.specs.FinMap as map
use Rattle.std.proofs.Common.{◌≡◌, subst, ℕ, ◌+◌, ◌-◌, ◌≤◌, Bool, true, false, not, ◌&&◌, ◌||◌, nat_lt, List, [], ◌∷◌, refl, sym, ap, ◌∙◌, arith, cond, Some, None, Option, IsSome}
use Rattle.std.specs.Option.{option_map, option_map_or}
use Rattle.std.proofs.lemmas.Bool.Decides.{nat_tests}
use Rattle.law_lawful.specs.pr_base.Paths.{IsName}
use Rattle.law_lawful.specs.pr_base.declared.errno.Errno.TheVariants.{ENOENT, EACCES, EEXIST, ENOTDIR, EISDIR, EMFILE, ENOSPC, ELOOP}
use Rattle.law_lawful.proofs.pr_base.MapLemmas.{get-insert_same, stays-changed}
use Rattle.law_lawful.proofs.kr_inode.NameLemmas.{name_decides}
use Rattle.law_lawful.specs.kr_inode.declared.user.Right.TheVariants.{Read as ReadRight}
use Rattle.law_lawful.specs.kr_tree.Changes as tree
use Rattle.law_lawful.specs.kr_tree.Rights.{allows}
use Rattle.law_lawful.specs.kr_tree.Tree.{Tree, Inode, Node, Body, Directory, RegularFile, SymbolicLink, ProcessDirectory, inode, body_is, is_directory, is_file, takes_names}
use Rattle.law_lawful.specs.kr_tree.declared.place.Host.{Host}
use Rattle.law_lawful.specs.kr_tree.declared.place.Host.TheVariants as host
use Rattle.law_lawful.specs.kr_tree.declared.place.Place.{Place}
use Rattle.law_lawful.proofs.kr_tree.NameLemmas.{some_is}
use Rattle.law_lawful.specs.kr_view.Component.{is_directory_at, is_process_directory}
use Rattle.law_lawful.specs.kr_view.InTree.{IsPlaceOf}
use Rattle.law_lawful.specs.kr_view.Leads.{numbered}
use Rattle.law_lawful.specs.kr_view.View.{Row, is_there}
use Rattle.law_lawful.specs.kr_calls.Arguments.{has}
use Rattle.law_lawful.specs.kr_files.declared.opened.What.{What}
use Rattle.law_lawful.specs.kr_files.declared.opened.What.TheVariants.{File, Dir}
use Rattle.law_lawful.specs.kr_files.Descriptors.{lowest_free}
use Rattle.law_lawful.specs.kr_model.Applied.{Mounts, in_mount, open_in}
use Rattle.law_lawful.specs.kr_model.Asking.{has_no_room, unmasked}
use Rattle.law_lawful.specs.kr_model.Change.{OpenFile, Change, SetSize, OfFound}
use Rattle.law_lawful.specs.kr_model.DescriptorRows.{o_cloexec}
use Rattle.law_lawful.specs.kr_model.FileRows.{is_dir, is_file_open, creates, excludes, truncates, wants_directory, wants_write, opens_as, open_under, open_directory, has_rights, cut_after, open_file, open_body, open_host, open_found, make_and_open, open_new, openat_row}
use Rattle.law_lawful.specs.kr_model.Known.{Known, known, known_node}
use Rattle.law_lawful.specs.kr_model.Lawful.{IsLawful, IsOpenIn, IsNameOrNone, is_file_at}
use Rattle.law_lawful.specs.kr_model.Seen.{Looked, Opening, OpensNoName, OpensSlashed, OpensFound, OpensNew}
use Rattle.law_lawful.specs.kr_model.State.{Image, image_layout, Process, State, process, with_descs}
use Rattle.law_lawful.specs.Laws.{CanAllBeMade}
use Rattle.law_lawful.proofs.ProcessChangeLemmas.{found}
use Rattle.law_allowed.specs.Allowed.{IsAllowedWhere}
use Rattle.law_allowed.specs.Resting.{IsSeenIn, IsFreeIn, IsLookedIn, IsOpeningIn}
use Rattle.law_allowed.proofs.KnownLemmas.{maybe, free-lowest}
use Rattle.law_allowed.proofs.NameLemmas.{written-to, free-name, small-mode}
use Rattle.law_allowed.proofs.NodeLemmas.{test-known}
use Rattle.law_lawful.specs.kr_files.declared.opened.Opened.{Opened}
use Rattle.law_allowed.specs.Lasting.{AreModest}
use Rattle.law_allowed.proofs.RowLemmas.{quietly, are_quiet, draws-once, Allowed, refuses, ended, either, row-allowed}

-- a place of a kind in a tree is what is open there
opens-in : {M : Type 0} (number : M → ℕ) (table : List Row) (t : Tree) (mount : M) (what : What) (at : Host) (dir : ℕ) (name : List ℕ) (flags : ℕ) → IsPlaceOf t table (numbered number (record { mount = mount; host = at }))
    → is_directory_at t at ≡ is_dir what → is_file_at t at ≡ is_file_open what → (is_dir what ≡ true → (dir ≡ 0) × (name ≡ [])) → (is_file_open what ≡ false → is_dir what ≡ false → ⊥) → IsNameOrNone name
    → IsOpenIn number t table (in_mount mount (opens_as what at dir name flags))
opens-in number table t mount what at dir name flags stands directory file none kind named = record {
  placed = λ p e. let same = some_is (record { mount = mount; host = at }) p e in
      subst (λ (p : Place _). IsPlaceOf t table (numbered number p) × (is_directory_at t p.host ≡ is_dir what) × (is_file_at t p.host ≡ is_file_open what)) same (stands, directory, file);
  files = λ _. refl;
  directories = λ is. let own = none is in (refl, own.0, own.1);
  others = λ no_file no_dir. absurd (kind no_file no_dir);
  name = named;
}

module _ {M : Type 0} (number : M → ℕ) (table : List Row) (mounts : Mounts M) (pid : ℕ) (s : State M Image) (l : IsLawful number table s) (lives : IsSome (process pid s)) where
  abbrev k : Known
  k = known image_layout pid s

  abbrev Can : List Change → Type 0
  Can cs = CanAllBeMade number table mounts pid s cs × AreModest s.user cs

  -- ---- what is there

  nameless : IsNameOrNone []
  nameless some = absurd (some refl)

  directory-opened : (flags : ℕ) (at : Host) → IsSeenIn number table s.tree mounts.found at → is_directory_at s.tree at ≡ true → is_file_at s.tree at ≡ false → (readable : Bool) → Allowed Can false (open_directory k flags at readable)
  directory-opened flags at seen directory file readable =
      either (wants_write flags || creates flags || truncates flags) (λ _. refuses EISDIR)
      (λ _. either (not readable) (λ _. refuses EACCES) (λ _. by (lowest_free k.caller.descs 0) refl))
    where
      by : (o : Option ℕ) → lowest_free k.caller.descs 0 ≡ o → Allowed Can false (open_under flags OfFound (opens_as Dir at 0 [] flags) [] o)
      by None e = refuses EMFILE
      by (Some fd) e =
          ended (
            (
              lives,
              record {
                free = (free-lowest pid s lives 0 fd e).0;
                mount = seen.mount;
                taken = seen.taken;
                placed = refl;
                opens = opens-in number table s.tree seen.mount Dir at 0 [] flags seen.stands directory file (λ _. (refl, refl)) (λ _ no_dir. absurd cc) nameless;
              },
              tt,
            ),
            quietly refl,
          )

  -- ---- the cut of a file that was opened before it

  has-room : (n : ℕ) → n ≤ tree.byte_limit → nat_lt tree.byte_limit n ≡ false
  has-room n few = grind (arith, nat_tests)

  some-mapped : {A B : Type 0} (f : A → B) (o : Option A) → IsSome o → IsSome (option_map f o)
  some-mapped f None there = absurd cc
  some-mapped f (Some x) there = refl

  module _ (m : M) (fd flags i dir : ℕ) (name : List ℕ) (file : body_is is_file s.tree i ≡ true) where
    abbrev after : State M Image
    after = open_in pid fd (has flags o_cloexec) (opens_as File (host.Node i) dir name flags) m s

    still-lives : IsSome (process pid after)
    still-lives =
        subst (λ (o : Option (Process M Image)). IsSome o)
        (sym (found pid (with_descs (λ d. map.insert d fd (record { number = s.files.last_file + 1; cloexec = has flags o_cloexec }))) (λ p. refl) pid s.living)) (some-mapped _ (process pid s) lives)

    still-file : body_is is_file after.tree i ≡ true
    still-file = stays-changed (λ (o : Option Inode). option_map_or (λ (x : Inode). is_file x.node.body) o false) s.tree.inodes i (tree.with_holds (λ n. n + 1)) (λ x. refl) i ∙ file

    room-left : tree.has_no_room_for i 0 after.tree ≡ false
    room-left = let few = l.tree.sound.bytes_limited in has-room (s.tree.bytes - tree.size after.tree i + 0) (omega arith)

    cut-behind : CanAllBeMade number table mounts pid after (cut_after flags i)
    cut-behind = by (truncates flags)
      where
        by : (b : Bool) → CanAllBeMade number table mounts pid after (cond b (SetSize i 0 ∷ []) [])
        by true = (still-lives, record { file = still-file; small = omega arith; room = room-left }, tt)
        by false = tt

  quiet-cut : (fd : ℕ) (cloexec : Bool) (o : Opened (Unit {0})) (i : ℕ) (b : Bool) → are_quiet (OpenFile fd cloexec OfFound o ∷ cond b (SetSize i 0 ∷ []) []) ≡ true
  quiet-cut fd cloexec o i true = refl
  quiet-cut fd cloexec o i false = refl

  file-opened : (flags i : ℕ) → IsSeenIn number table s.tree mounts.found (host.Node i) → (n : Node) → known_node k i ≡ Some n → is_file n.body ≡ true → is_directory n.body ≡ false → (dir : ℕ) (name : List ℕ) → IsNameOrNone name
      → Allowed Can false (open_file k flags i n dir name)
  file-opened flags i seen n known file no_directory dir name named =
      either (wants_directory flags) (λ _. refuses ENOTDIR) (λ _. either (not (has_rights k n flags)) (λ _. refuses EACCES) (λ _. by (lowest_free k.caller.descs 0) refl))
    where
      is : body_is is_file s.tree i ≡ true
      is = test-known pid s is_file i n known ∙ file

      by : (o : Option ℕ) → lowest_free k.caller.descs 0 ≡ o → Allowed Can false (open_under flags OfFound (opens_as File (host.Node i) dir name flags) (cut_after flags i) o)
      by None e = refuses EMFILE
      by (Some fd) e =
          ended (
            (
              lives,
              record {
                free = (free-lowest pid s lives 0 fd e).0;
                mount = seen.mount;
                taken = seen.taken;
                placed = refl;
                opens = opens-in number table s.tree seen.mount File (host.Node i) dir name flags seen.stands (test-known pid s is_directory i n known ∙ no_directory) is (λ no_dir. absurd cc) (λ no_file _. absurd cc) named;
              },
              subst (λ (o : Option M). CanAllBeMade number table mounts pid (option_map_or (λ (m : M). open_in pid fd (has flags o_cloexec) (opens_as File (host.Node i) dir name flags) m s) o s) (cut_after flags i)) (sym seen.taken)
                  (cut-behind seen.mount fd flags i dir name is),
            ),
            quietly (quiet-cut fd (has flags o_cloexec) (opens_as File (host.Node i) dir name flags) i (truncates flags)),
          )

  remembered : (looked : Looked) → IsLookedIn number table mounts s.tree looked → IsNameOrNone (option_map_or (λ (e : ℕ × List ℕ). e.1) looked.entry [])
  remembered looked is = by looked.entry refl
    where
      by : (o : Option (ℕ × List ℕ)) → looked.entry ≡ o → IsNameOrNone (option_map_or (λ (e : ℕ × List ℕ). e.1) o [])
      by None e = nameless
      by (Some x) e = is.entry x e

  found-opened : (looked : Looked) → IsLookedIn number table mounts s.tree looked → (flags : ℕ) → Allowed Can false (open_found k flags looked)
  found-opened looked is flags = either (creates flags && excludes flags) (λ _. refuses EEXIST) (λ _. at looked.host is.found)
    where
      body : (i : ℕ) → IsSeenIn number table s.tree mounts.found (host.Node i) → (n : Node) → known_node k i ≡ Some n → (b : Body) → n.body ≡ b → Allowed Can false (open_body k flags looked i n b)
      body i seen n known (Directory entries standing) e =
          directory-opened flags (host.Node i) seen (test-known pid s is_directory i n known ∙ ap is_directory e) (test-known pid s is_file i n known ∙ ap is_file e) (allows k.user n ReadRight)
      body i seen n known (ProcessDirectory standing) e =
          directory-opened flags (host.Node i) seen (test-known pid s is_directory i n known ∙ ap is_directory e) (test-known pid s is_file i n known ∙ ap is_file e) (allows k.user n ReadRight)
      body i seen n known (SymbolicLink text) e = refuses ELOOP
      body i seen n known (RegularFile bytes) e = file-opened flags i seen n known (ap is_file e) (ap is_directory e) _ _ (remembered looked is)

      at : (h : Host) → IsSeenIn number table s.tree mounts.found h → Allowed Can false (open_host k flags looked h)
      at (host.Node i) seen = maybe (known_node k i) (λ n known. body i seen n known n.body refl) (refuses ENOENT)
      at (host.Proc i q) seen = either (is_process_directory q) (λ directory. directory-opened flags (host.Proc i q) seen directory refl true) (λ _. refuses ELOOP)

  -- ---- what is made

  -- the new file, in the mount of its directory
  abbrev grown : ℕ → List ℕ → ℕ → Tree
  grown d name mode = tree.added d name (unmasked k mode) k.user.uid k.user.gid (RegularFile []) s.tree

  new-opens : (dir : Host) (seen : IsSeenIn number table s.tree mounts.directory dir) (d : ℕ) (name : List ℕ) (mode flags : ℕ) → IsName name
      → IsOpenIn number (grown d name mode) table (in_mount seen.mount (opens_as File (host.Node s.tree.next) d name flags))
  new-opens dir seen d name mode flags named =
      opens-in number table (grown d name mode) seen.mount File (host.Node s.tree.next) d name flags
      (record { mounted = seen.stands.mounted; object = ap (λ (o : Option Inode). is_there o) there })
      (ap (λ (o : Option Inode). option_map_or (λ (x : Inode). is_directory x.node.body) o false) there) (ap (λ (o : Option Inode). option_map_or (λ (x : Inode). is_file x.node.body) o false) there)
      (λ no_dir. absurd cc) (λ no_file _. absurd cc) (λ _. named)
    where
      there : inode (grown d name mode) s.tree.next ≡ Some (tree.fresh (unmasked k mode) k.user.uid k.user.gid (RegularFile []))
      there = get-insert_same (tree.with_inode d (tree.with_entry name s.tree.next false) s.tree.inodes) s.tree.next (tree.fresh (unmasked k mode) k.user.uid k.user.gid (RegularFile []))

  new-opened : (dir : Host) → IsSeenIn number table s.tree mounts.directory dir → (name : List ℕ) → IsFreeIn s.tree dir name → (flags mode : ℕ) → Allowed Can false (open_new k flags mode dir name)
  new-opened dir seen name free flags mode = written-to number table mounts pid s l lives dir _ (λ d n at takes. by d at takes (lowest_free k.caller.descs 0) refl)
    where
      by : (d : ℕ) → dir ≡ host.Node d → body_is takes_names s.tree d ≡ true → (o : Option ℕ) → lowest_free k.caller.descs 0 ≡ o → Allowed Can false (make_and_open k flags mode d name o)
      by d at takes None e = refuses EMFILE
      by d at takes (Some fd) e =
          let named = free-name number table mounts pid s l lives dir name free d at takes in
          let unused = (free-lowest pid s lives 0 fd e).0 in
          either (has_no_room 0 k) (λ _. refuses ENOSPC)
          (λ room. ended (
            (
              lives,
              record { named = named; small = small-mode number table mounts pid s l lives mode; new = refl; bytes = tt; room = room },
              (
                lives,
                record {
                  free = record { small = unused.small; free = unused.free };
                  mount = seen.mount;
                  taken = seen.taken;
                  placed = refl;
                  opens = new-opens dir seen d name mode flags ((name_decides name).0 named.well_formed);
                },
                tt,
              ),
            ),
            record { users = ((refl, refl, tt), (tt, tt)); drawn = draws-once _ refl },
          ))

  pub openat : (o : Opening) → IsOpeningIn number table mounts s.tree o → (flags mode : ℕ) → Allowed Can false (openat_row k o flags mode)
  openat (OpensNoName last) is flags mode = refuses (cond (excludes flags) EEXIST EISDIR)
  openat OpensSlashed is flags mode = refuses EISDIR
  openat (OpensFound looked) is flags mode = found-opened looked is flags
  openat (OpensNew dir name) is flags mode = new-opened dir is.0 name is.1 flags mode

-- openat(2)
pub opening-is-allowed : (M : Type 0) (number : M → ℕ) (table : List Row) (mounts : Mounts M) (pid : ℕ) (o : Opening) (flags mode : ℕ)
    → IsAllowedWhere number table mounts pid (λ t next. IsOpeningIn number table mounts t o) (λ k. openat_row k o flags mode)
opening-is-allowed M number table mounts pid o flags mode =
    row-allowed number table mounts pid (λ t next. IsOpeningIn number table mounts t o) (λ k. openat_row k o flags mode) (λ s l lives rests. openat number table mounts pid s l lives o rests flags mode)
