-- All places stand after a move of a name between directories that lie below the same sources and mount points.
use Rattle.std.specs.FinMap as map
use Rattle.std.proofs.Common.{◌≡◌, ◌≢◌, ◌⊎◌, inl, inr, ℕ, Bool, true, false, not, List, [], ◌∷◌, ◌++◌, length, Option, Some, refl, sym, ap, subst, ◌∙◌, map as map_list}
use Rattle.std.specs.Prelude.{◌==◌, ◌||◌, IsSome}
use Rattle.std.specs.Bool.{if◌then◌else◌}
use Rattle.std.specs.Option.{option_map}
use Rattle.kr_calm.proofs.pr_base.MapLemmas.{get-mapped}
use Rattle.kr_calm.specs.pr_base.Texts.{Text}
use Rattle.law_walks.proofs.kr_inode.NameLemmas.{name_decides}
use Rattle.law_walks.specs.kr_tree.Changes.{renamed}
use Rattle.law_walks.specs.kr_tree.Lawful.{IsBelow}
use Rattle.law_walks.specs.kr_tree.Tree.{Tree, entry}
use Rattle.law_walks.specs.kr_tree.Names.{reached}
use Rattle.law_walks.specs.kr_tree.declared.place.Host.{Host}
use Rattle.law_walks.specs.kr_tree.declared.place.Host.TheVariants.{Node}
use Rattle.law_walks.specs.kr_tree.declared.place.Place.{Place}
use Rattle.law_walks.proofs.kr_tree.EntryLemmas.{entry_named_well}
use Rattle.law_walks.proofs.kr_tree.NameLemmas.{map_some, some_is}
use Rattle.law_walks.specs.kr_view.Component.{Namespace, is_directory_at}
use Rattle.law_walks.specs.kr_view.HostReach.{reaches}
use Rattle.law_walks.specs.kr_view.View.{Row}
use Rattle.law_walks.proofs.kr_view.HostReachLemmas.{last_object, reached_inode}
use Rattle.law_walks.specs.kr_files.declared.opened.Opened.{Opened}
use Rattle.law_walks.specs.kr_files.Files.{Counted, file_at, on_opened, with_all_opened}
use Rattle.law_walks.specs.kr_files.Opened.{after_rename, named_at, nameless, remembers}
use Rattle.kr_calm.proofs.law_lawful.ChangeLemmas.{every-change-keeps}
use Rattle.law_walks.specs.kr_model.Applied.{Mounts, exe_after_removal, exe_after_rename, exe_remembers, with_exe_name, with_files, with_living, with_tree}
use Rattle.law_walks.specs.kr_model.Change.{MoveName}
use Rattle.law_walks.specs.kr_model.Conditions.{CanMove}
use Rattle.law_walks.specs.kr_model.FileRows.{is_dir}
use Rattle.law_walks.specs.kr_model.Lawful.{IsLawful}
use Rattle.law_walks.specs.kr_model.ProcessDirectory.{space_of}
use Rattle.law_walks.specs.kr_model.State.{Image, Process, State, process}
use Rattle.law_walks.specs.Settled.{host_text}
use Rattle.law_places.specs.Following.{Follows, pids_of}
use Rattle.law_places.specs.Losses.{KeepsUse, Losses}
use Rattle.law_places.specs.Moving.{IsComeTo, LieAlike, MovesKeepPlaces, SparesMove, names_of_move}
use Rattle.law_places.specs.Standing.{PlacesStand, StandsAs, UseStands}
use Rattle.law_places.specs.Uses.{IsUse, Use, cwd_use, exe_use, has_name, is_cwd, is_exe, is_open, open_use}
use Rattle.law_places.proofs.BelowLemmas.{below_or_not}
use Rattle.law_places.proofs.FollowLemmas.{from_process, opens_fine, pids_mapped, pids_same}
use Rattle.law_places.proofs.MoveLemmas.{directory_far, file_far, moves_leave_most, table_far}
use Rattle.law_places.proofs.MovedEntryLemmas.{entry_renamed}
use Rattle.law_places.proofs.MovedLemmas.{IsByName, by_name, entry_is, later_way, moved_way, stands_moved, to_reached}
use Rattle.law_places.proofs.RememberLemmas.{filled_length, has_name_by, other_remembered, remembering}
use Rattle.law_places.proofs.SourceLemmas.{spared_is_no_source}
use Rattle.law_places.proofs.SpaceLemmas.{settled_stays, sources_stay, use_stays}

-- a place in use with another entry
abbrev with_entry : ℕ → List ℕ → Use → Use
with_entry dir name x = record { place = x.place; is_directory = x.is_directory; dir = dir; name = name }

-- a directory remembers none, so it stands whatever its entry
of_directory : (space : Namespace) (x : Use) (dir : ℕ) (name : List ℕ) → x.is_directory ≡ true → UseStands space x → UseStands space (with_entry dir name x)
of_directory space x dir name is_dir stands =
    let at = stands.called (ap (λ b. b || not (length x.name == 0)) is_dir) in
    record {
      called = λ _. (at.0, record { on = at.1.on; kind = at.1.kind; entry = λ file. let clash : true ≡ false = sym is_dir ∙ file in absurd cc });
      nameless = λ none. let clash : true ≡ false = ap (λ b. b || not (length name == 0)) (sym is_dir) ∙ none in absurd cc;
    }

module _ (table : List Row) (s : State ℕ Image) (stand : PlacesStand table s) (dir : ℕ) (name : List ℕ) (to : ℕ) (new : List ℕ) (own : ℕ) (there : entry s.tree dir name ≡ Some own) (can : CanMove table s.tree dir name to new) (spares : SparesMove table s dir name to new)
    (target : IsComeTo (space_of table s) to) (later : State ℕ Image) (lawful : IsLawful (λ m. m) table later) (follows : Follows (names_of_move dir name to new) (λ x. Unit {0}) s later) (entered : entry later.tree to new ≡ Some own) (alike : LieAlike table s.tree dir to) where
  abbrev t : Tree
  t = s.tree

  abbrev space : Namespace
  space = space_of table s

  abbrev later_space : Namespace
  later_space = space_of table later

  abbrev lost : Losses
  lost = names_of_move dir name to new

  abbrev P : Use → Type 0
  P x = UseStands later_space x

  -- what keeps what it needs stands as before
  kept : (x : Use) → IsUse s x → KeepsUse lost space x → P x
  kept x is keeps = use_stays lost table s later stand lawful (λ x. Unit {0}) follows x (record { stood = stand.uses x is; keeps = keeps })

  directory_kept : (x : Use) → IsUse s x → x.is_directory ≡ true → P x
  directory_kept x is is_dir = kept x is (directory_far table s stand dir name to new own there can spares x is is_dir)

  -- what is called and stands at a text
  called_at : (x : Use) → has_name x ≡ true → (g : Text) × StandsAs later_space x g → P x
  called_at x called at = record { called = λ _. at; nameless = λ none. let clash : true ≡ false = sym called ∙ none in absurd cc }

  abbrev reach : Text → Option Host
  reach h = reaches t s.user space.finds h

  abbrev ByName : Text → Type 0
  ByName h = IsByName table s stand dir name to new own there can spares h

  -- at a text that leads by the name, where the entry is known behind the new one
  moved_at : (x : Use) (d : ℕ) (n : List ℕ) (guest : Text) → StandsAs space x guest → x.is_directory ≡ false → has_name (with_entry d n x) ≡ true → (h : ByName (host_text space guest)) (up : Text) → h.more ++ new ∷ target.host ≡ n ∷ up → reached later.tree s.user up ≡ Some d
      → P (with_entry d n x)
  moved_at x d n guest at file called h up text way =
      called_at (with_entry d n x) called
      (stands_moved table s stand dir name to new own there can spares target later lawful follows entered alike x guest at file h d n
      (record { up = up; text = text; way = later_way table s stand dir name to new own there can spares target later lawful follows entered up d way }))

  -- ---- what remembers neither name

  below_at : (x : Use) (guest : Text) → StandsAs space x guest → x.is_directory ≡ false → has_name x ≡ true → (up : Text) → host_text space guest ≡ x.name ∷ up → reach up ≡ Some (Node x.dir) → ByName up → P x
  below_at x guest at file called up text way h =
      let whole : ByName (host_text space guest) = record { more = x.name ∷ h.more; up = h.up; parted = text ∙ ap (λ l. x.name ∷ l) h.parted; way = h.way; ends = h.ends } in
      moved_at x x.dir x.name guest at file called whole (h.more ++ new ∷ target.host) refl
      (moved_way table s stand dir name to new own there can spares target later lawful follows entered up h h.more x.dir (reached_inode t s.user space.finds (h.more ++ name ∷ h.up) x.dir (ap reach (sym h.parted) ∙ way)))

  file_at_text : (x : Use) → IsUse s x → (guest : Text) → StandsAs space x guest → x.is_directory ≡ false → has_name x ≡ true → (up : Text) → host_text space guest ≡ x.name ∷ up → reach up ≡ Some (Node x.dir)
      → ¬ ((x.dir ≡ dir) × (x.name ≡ name)) → ¬ ((x.dir ≡ to) × (x.name ≡ new)) → P x
  file_at_text x is guest at file called up text way one two = by (below_or_not t own x.dir (stand.lawful.tree.sound.rises x.dir dir_is))
    where
      dir_is : is_directory_at t (Node x.dir) ≡ true
      dir_is = let l = last_object t s.user space.finds up x.name x.place.host (ap reach (sym text) ∙ at.on.stands.way) in ap (is_directory_at t) (some_is (Node x.dir) l.dir (sym way ∙ l.way)) ∙ l.is_dir

      by : IsBelow t own x.dir ⊎ (¬ IsBelow t own x.dir) → P x
      by (inl below) = below_at x guest at file called up text way (by_name table s stand dir name to new own there can spares up x.dir way dir_is below)
      by (inr away) = kept x is (file_far table s stand dir name to new own there can spares x is file one two away)

  stays : (x : Use) → IsUse s x → (x.is_directory ≡ false → ¬ ((x.dir ≡ dir) × (x.name ≡ name))) → (x.is_directory ≡ false → ¬ ((x.dir ≡ to) × (x.name ≡ new))) → P x
  stays x is one two = by x.is_directory refl (has_name x) refl
    where
      file : x.is_directory ≡ false → has_name x ≡ true → P x
      file is_file called =
          let at = (stand.uses x is).called called in
          let en = at.1.entry is_file in
          file_at_text x is at.0 at.1 is_file called en.up en.text en.way (one is_file) (two is_file)

      by : (b : Bool) → x.is_directory ≡ b → (c : Bool) → has_name x ≡ c → P x
      by true is_dir c called = directory_kept x is is_dir
      by false is_file true called = file is_file called
      by false is_file false none = record { called = λ called. let clash : true ≡ false = sym called ∙ none in absurd cc; nameless = λ _. (stand.uses x is).nameless none }

  -- ---- what remembers one of them

  some_new : new ≢ []
  some_new = ((name_decides new).0 can.move.well_formed).some

  -- the one that is moved
  entry_at_text : (x : Use) (guest : Text) → StandsAs space x guest → x.is_directory ≡ false → (up : Text) → host_text space guest ≡ x.name ∷ up → reach up ≡ Some (Node x.dir) → x.dir ≡ dir → x.name ≡ name → P (with_entry to new x)
  entry_at_text x guest at file up text way dirs names =
      let named_text : host_text space guest ≡ name ∷ up = text ∙ ap (λ n. n ∷ up) names in
      let high : reach up ≡ Some (Node dir) = way ∙ ap (λ d. Some (Node d)) dirs in
      let here : reach (name ∷ up) ≡ Some x.place.host = ap reach (sym named_text) ∙ at.on.stands.way in
      let whole : ByName (host_text space guest) =
      record { more = []; up = up; parted = named_text; way = high; ends = here ∙ ap Some (entry_is table s stand dir name to new own there can spares up x.place.host here high) } in
      moved_at x to new guest at file (has_name_by x.is_directory new (ap not (filled_length new some_new))) whole target.host refl (to_reached table s stand dir name to new own there can spares target later lawful follows entered)

  follows_name : (x : Use) → IsUse s x → x.dir ≡ dir → x.name ≡ name → has_name x ≡ true → P (with_entry to new x)
  follows_name x is dirs names called = by x.is_directory refl
    where
      by : (b : Bool) → x.is_directory ≡ b → P (with_entry to new x)
      by true is_dir = of_directory later_space x to new is_dir (directory_kept x is is_dir)
      by false file =
          let at = (stand.uses x is).called called in
          let en = at.1.entry file in
          entry_at_text x at.0 at.1 file en.up en.text en.way dirs names

  -- the one that is replaced is no source's
  forgets : (x : Use) → IsUse s x → x.dir ≡ to → x.name ≡ new → has_name x ≡ true → P (with_entry 0 [] x)
  forgets x is dirs names called = by x.is_directory refl
    where
      by : (b : Bool) → x.is_directory ≡ b → P (with_entry 0 [] x)
      by true is_dir = of_directory later_space x 0 [] is_dir (directory_kept x is is_dir)
      by false file =
          let at = (stand.uses x is).called called in
          record {
            called = λ as_called. let clash : false ≡ true = sym (ap (λ b. b || false) file) ∙ as_called in absurd cc;
            nameless = λ _. spared_is_no_source space stand.settled x at.0 at.1 file (λ k r row_there at_dir at_name. spares.new_source k r row_there (at_dir ∙ dirs) (at_name ∙ names));
          }

  -- ---- each place in use

  some_name : name ≢ []
  some_name = (entry_named_well t stand.lawful.tree.sound dir name own there).some

  abbrev then_moved : Opened ℕ → Opened ℕ
  then_moved o = if remembers dir name o then named_at to new o else o

  opened_moved : (n : ℕ) (o : Opened ℕ) (q : Place ℕ) → file_at s.files n ≡ Some o → (after_rename dir name to new o).place ≡ Some q → P (open_use (after_rename dir name to new o) q)
  opened_moved n o q at = first (remembers to new o) refl
    where
      second : (b : Bool) → remembers dir name o ≡ b → ¬ ((o.dir ≡ to) × (o.name ≡ new)) → (if b then named_at to new o else o).place ≡ Some q → P (open_use (if b then named_at to new o else o) q)
      second true e other is =
          let r = remembering dir name o.dir o.name e in
          subst (λ b. P (record { place = q; is_directory = is_dir o.what; dir = (if b then 0 else to); name = new })) (sym (filled_length new some_new))
          (follows_name (open_use o q) (is_open n o q at is) r.1 r.2 (has_name_by (is_dir o.what) o.name r.0))
      second false e other is = stays (open_use o q) (is_open n o q at is) (λ file. other_remembered dir name some_name o.dir o.name e) (λ file. other)

      first : (b : Bool) → remembers to new o ≡ b → (then_moved (if b then nameless o else o)).place ≡ Some q → P (open_use (then_moved (if b then nameless o else o)) q)
      first true e is = let r = remembering to new o.dir o.name e in forgets (open_use o q) (is_open n o q at is) r.1 r.2 (has_name_by (is_dir o.what) o.name r.0)
      first false e is = second (remembers dir name o) refl (other_remembered to new some_new o.dir o.name e) is

  abbrev exe_then_moved : Process ℕ Image → Process ℕ Image
  exe_then_moved p = if exe_remembers dir name p then with_exe_name to new p else p

  exe_moved : (pid : ℕ) (p : Process ℕ Image) → process pid s ≡ Some p → P (exe_use (exe_after_rename dir name to new p))
  exe_moved pid p at = first (exe_remembers to new p) refl
    where
      second : (b : Bool) → exe_remembers dir name p ≡ b → ¬ ((p.exe_dir ≡ to) × (p.exe_name ≡ new)) → P (exe_use (if b then with_exe_name to new p else p))
      second true e other = let r = remembering dir name p.exe_dir p.exe_name e in follows_name (exe_use p) (is_exe pid p at) r.1 r.2 (has_name_by false p.exe_name r.0)
      second false e other = stays (exe_use p) (is_exe pid p at) (λ file. other_remembered dir name some_name p.exe_dir p.exe_name e) (λ file. other)

      first : (b : Bool) → exe_remembers to new p ≡ b → P (exe_use (exe_then_moved (if b then with_exe_name 0 [] p else p)))
      first true e = let r = remembering to new p.exe_dir p.exe_name e in forgets (exe_use p) (is_exe pid p at) r.1 r.2 (has_name_by false p.exe_name r.0)
      first false e = second (exe_remembers dir name p) refl (other_remembered to new some_new p.exe_dir p.exe_name e)

  cwd_stays : (pid : ℕ) (p : Process ℕ Image) → process pid s ≡ Some p → P (cwd_use p)
  cwd_stays pid p at = directory_kept (cwd_use p) (is_cwd pid p at) refl

-- ---- the change

module _ (dir : ℕ) (name : List ℕ) (to : ℕ) (new : List ℕ) where
  abbrev g : Process ℕ Image → Process ℕ Image
  g p = exe_after_rename dir name to new p

  -- what is told of a process, but for its executable's entry
  told_renamed : {A : Type 0} (tell : Process ℕ Image → A) → ((d : ℕ) (n : List ℕ) (p : Process ℕ Image) → tell (with_exe_name d n p) ≡ tell p) → (p : Process ℕ Image) → tell (g p) ≡ tell p
  told_renamed tell same p = two (exe_after_removal to new p) ∙ one
    where
      one : tell (exe_after_removal to new p) ≡ tell p
      one = elim (exe_remembers to new p) as (λ b. tell (if b then with_exe_name 0 [] p else p) ≡ tell p) [ true ↦ same 0 [] p | false ↦ refl ]

      two : (q : Process ℕ Image) → tell (if exe_remembers dir name q then with_exe_name to new q else q) ≡ tell q
      two q = elim (exe_remembers dir name q) as (λ b. tell (if b then with_exe_name to new q else q) ≡ tell q) [ true ↦ same to new q | false ↦ refl ]

  pids : (p : Process ℕ Image) → (g p).pid ≡ p.pid
  pids p = told_renamed (λ p. p.pid) (λ d n p. refl) p

  abbrev moved_state : State ℕ Image → State ℕ Image
  moved_state s = with_living (map_list g) (with_files (with_all_opened (after_rename dir name to new)) (with_tree (renamed dir name to new) s))

  follows_move : (table : List Row) (s : State ℕ Image) (own : ℕ) → PlacesStand table s → entry s.tree dir name ≡ Some own → CanMove table s.tree dir name to new → SparesMove table s dir name to new → Follows (names_of_move dir name to new) (λ x. Unit {0}) s (moved_state s)
  follows_move table s own stand there can spares = record {
    user = refl;
    inodes = (moves_leave_most table s dir name to new own stand there can spares).inodes;
    pids = pids_same (names_of_move dir name to new) (pids_of s) (pids_of (moved_state s)) (pids_mapped g pids s.living) (pids_of s) (λ test pid e still. e);
    cwds = λ pid p e. tt;
    exes = λ pid p e. tt;
    opens = λ n o q e f. tt;
  }

module _ (table : List Row) (mounts : Mounts ℕ) (pid dir : ℕ) (name : List ℕ) (to : ℕ) (new : List ℕ) (s : State ℕ Image) (stand : PlacesStand table s) (lives : IsSome (process pid s)) (can : CanMove table s.tree dir name to new) (spares : SparesMove table s dir name to new)
    (alike : LieAlike table s.tree dir to) (target : IsComeTo (space_of table s) to) where
  abbrev own : ℕ
  own = can.move.moved

  abbrev there : entry s.tree dir name ≡ Some own
  there = can.move.there

  abbrev later : State ℕ Image
  later = moved_state dir name to new s

  lawful : IsLawful (λ m. m) table later
  lawful = every-change-keeps ℕ (λ m. m) table mounts pid (MoveName dir name to new) s stand.lawful lives can

  follows : Follows (names_of_move dir name to new) (λ x. Unit {0}) s later
  follows = follows_move dir name to new table s own stand there can spares

  entered : entry later.tree to new ≡ Some own
  entered = entry_renamed s.tree dir name to new own there can.move

  stands_later : (x : Use) → IsUse later x → UseStands (space_of table later) x
  stands_later _ (is_cwd k q at) =
      let p = from_process (g dir name to new) (pids dir name to new) k s.living q at in
      subst (UseStands (space_of table later)) (sym (told_renamed dir name to new cwd_use (λ d n p. refl) p.0) ∙ ap cwd_use p.2)
      (cwd_stays table s stand dir name to new own there can spares target later lawful follows entered alike k p.0 p.1)
  stands_later _ (is_exe k q at) =
      let p = from_process (g dir name to new) (pids dir name to new) k s.living q at in
      subst (UseStands (space_of table later)) (ap exe_use p.2) (exe_moved table s stand dir name to new own there can spares target later lawful follows entered alike k p.0 p.1)
  stands_later _ (is_open n o q at is) =
      opens_fine (UseStands (space_of table later)) (with_all_opened (after_rename dir name to new) s.files) (λ n h at.
      let m = map_some (on_opened (after_rename dir name to new)) (map.get s.files.files n) h (sym (get-mapped (λ n. on_opened (after_rename dir name to new)) s.files.files n) ∙ at) in
      subst (λ (h : Counted ℕ). (q : Place ℕ) → h.opened.place ≡ Some q → UseStands (space_of table later) (open_use h.opened q)) m.2
      (λ q there_at. opened_moved table s stand dir name to new own there can spares target later lawful follows entered alike n m.0.opened q (ap (option_map (λ (h : Counted ℕ). h.opened)) m.1) there_at)) n o q at is

  all_stand : PlacesStand table later
  all_stand =
      let keeps = table_far table s stand dir name to new own there can spares in
      record {
        lawful = lawful;
        settled = settled_stays (names_of_move dir name to new) table s later stand lawful (λ x. Unit {0}) follows keeps;
        sources = sources_stay (names_of_move dir name to new) table s later stand lawful (λ x. Unit {0}) follows keeps;
        uses = stands_later;
      }

pub moves_keep_places : MovesKeepPlaces
moves_keep_places table mounts pid dir name to new s stand lives can spares alike target = all_stand table mounts pid dir name to new s stand lives can spares alike target
