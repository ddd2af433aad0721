-- All places stand after a name is taken away that is neither a source's nor leads to a directory in use.
use Rattle.std.specs.FinMap as map
use Rattle.std.proofs.Common.{◌≡◌, ◌≢◌, ℕ, Bool, true, false, List, [], ◌∷◌, Option, Some, None, bytes_eq, refl, sym, ap, subst, ◌∙◌, map as map_list}
use Rattle.std.specs.Prelude.{◌==◌, ◌&&◌, ◌||◌}
use Rattle.std.specs.Bool.{if◌then◌else◌}
use Rattle.std.specs.Option.{option_map, option_map_or}
use Rattle.std.proofs.lemmas.Bool.{eq-eqb, eqb-true, false_from_ne_true}
use Rattle.std.proofs.lemmas.Slice.Eq.{bytes_eq-Decides}
use Rattle.kr_calm.proofs.pr_base.MapLemmas.{get-mapped}
use Rattle.kr_calm.specs.pr_base.MountText.{MountText}
use Rattle.kr_calm.specs.pr_base.Texts.{Text}
use Rattle.law_walks.specs.pt_bind.Binding.{host_of, located}
use Rattle.law_walks.specs.kr_tree.Changes.{removed}
use Rattle.law_walks.specs.kr_tree.declared.place.Host.{Host}
use Rattle.law_walks.specs.kr_tree.declared.place.Host.TheVariants.{Node, Proc}
use Rattle.law_walks.specs.kr_tree.declared.place.Place.{Place}
use Rattle.law_walks.specs.kr_tree.Names.{named}
use Rattle.law_walks.specs.kr_tree.Tree.{Body, Directory, RegularFile, SymbolicLink, ProcessDirectory, Entry, Inode, Tree, body_is, entries_of, entry, entry_named, inode, is_filled}
use Rattle.law_walks.proofs.kr_tree.EntryLemmas.{entry_named_well}
use Rattle.law_walks.proofs.kr_tree.NameLemmas.{map_some, some_is, then_some}
use Rattle.law_walks.specs.kr_view.Component.{Finds, Namespace}
use Rattle.law_walks.specs.kr_view.HostReach.{object_in, reaches}
use Rattle.law_walks.specs.kr_view.View.{Row, is_there, row}
use Rattle.law_walks.proofs.kr_view.HostReachLemmas.{inode_reached, last_object, named_alone, object_of_entry}
use Rattle.law_walks.specs.kr_files.declared.opened.Opened.{Opened}
use Rattle.law_walks.specs.kr_files.Files.{Counted, file_at, on_opened, with_all_opened}
use Rattle.law_walks.specs.kr_files.Opened.{after_removal, nameless, remembers}
use Rattle.law_walks.specs.kr_mounts.Standing.{texts_of}
use Rattle.kr_calm.proofs.law_lawful.ChangeLemmas.{every-change-keeps}
use Rattle.law_walks.specs.kr_model.Applied.{exe_after_removal, exe_remembers, with_exe_name, with_files, with_living, with_tree}
use Rattle.law_walks.specs.kr_model.Change.{RemoveName}
use Rattle.law_walks.specs.kr_model.Conditions.{CanRemove}
use Rattle.law_walks.specs.kr_model.ProcessDirectory.{space_of}
use Rattle.law_walks.specs.kr_model.State.{Image, Process, State, process}
use Rattle.law_walks.specs.Standing.{IsOpen}
use Rattle.law_walks.proofs.TableLemmas.{host_none, mount_below}
use Rattle.law_places.specs.Following.{Follows, StoodAndStays, pids_of}
use Rattle.law_places.specs.Losses.{KeepsAbove, KeepsGuest, KeepsNames, KeepsTable, KeepsUse, KeepsWay, Losses, name_of}
use Rattle.law_places.specs.Standing.{PlacesStand, StandsAs}
use Rattle.law_places.specs.Taking.{RemovalsKeepPlaces, SparesDirectories, SparesSources}
use Rattle.law_places.specs.Uses.{IsUse, Use, cwd_use, exe_use, has_name, is_cwd, is_exe, is_open, open_use}
use Rattle.law_places.proofs.FollowLemmas.{from_process, opens_fine, pids_mapped, pids_same}
use Rattle.law_places.proofs.KeptLemmas.{host_lasts}
use Rattle.law_places.proofs.RememberLemmas.{has_name_by, other_remembered, remembering}
use Rattle.law_places.proofs.SourceLemmas.{point_at, spared_is_no_source}
use Rattle.law_places.proofs.SpaceLemmas.{places_follow}
use Rattle.law_places.proofs.TreeLemmas.{removed_stays, stay_all}

-- what isn't filled has no entry
pub unfilled : (t : Tree) (i : ℕ) → body_is is_filled t i ≡ false → (n : List ℕ) (j : ℕ) → entry t i n ≡ Some j → ⊥
unfilled t i empty n j e = by (inode t i) empty e
  where
    of : (b : Body) → is_filled b ≡ false → option_map (λ (e : Entry). e.inode) (entry_named n (entries_of b)) ≡ Some j → ⊥
    of (Directory [] st) empty e = absurd cc
    of (Directory (x ∷ es) st) empty e = absurd cc
    of (RegularFile bytes) empty e = absurd cc
    of (SymbolicLink text) empty e = absurd cc
    of (ProcessDirectory st) empty e = absurd cc

    by : (o : Option Inode) → option_map_or (λ (x : Inode). is_filled x.node.body) o false ≡ false → option_map (λ (e : Entry). e.inode) (entry_named n (option_map_or (λ (x : Inode). entries_of x.node.body) o [])) ≡ Some j → ⊥
    by None empty e = absurd cc
    by (Some x) empty e = of x.node.body empty e

pub some_entry : (o : Option ℕ) → is_there o ≡ true → (j : ℕ) × (o ≡ Some j)
some_entry None e = absurd cc
some_entry (Some j) e = (j, refl)

module _ (table : List Row) (s : State ℕ Image) (stand : PlacesStand table s) (dir : ℕ) (name : List ℕ) (can : CanRemove table s.tree dir name) (sources : SparesSources table dir name) (uses : SparesDirectories s can.own) where
  abbrev t : Tree
  t = s.tree

  abbrev space : Namespace
  space = space_of table s

  abbrev finds : Finds
  finds = space.finds

  abbrev lost : Losses
  lost = name_of dir name

  abbrev bindings : List MountText
  bindings = texts_of table

  abbrev reach : Text → Option Host
  reach h = reaches t s.user finds h

  -- ---- ways

  -- another entry than the one that goes
  not_gone : (d : ℕ) (n : List ℕ) → ¬ ((d ≡ dir) × (n ≡ name)) → (d == dir && bytes_eq n name) ≡ false
  not_gone d n other = by (d == dir) refl
    where
      by : (b : Bool) → (d == dir) ≡ b → (b && bytes_eq n name) ≡ false
      by false e = refl
      by true e = false_from_ne_true (bytes_eq n name) (λ same. other (eqb-true d dir e, (bytes_eq-Decides n name).0 same))

  -- nothing is reached below what is taken away
  nothing_below : (n : List ℕ) (x : Host) → object_in t finds n (Node can.own) ≡ Some x → ⊥
  nothing_below n x e =
      let none : object_in t finds n (Node can.own) ≡ option_map (λ j. Node j) (entry t can.own n) = ap (λ b. if b then option_map (λ at. Proc can.own at) (finds None n) else option_map (λ j. Node j) (entry t can.own n)) can.no_processes in
      let m = map_some (λ j. Node j) (entry t can.own n) x (sym none ∙ e) in
      unfilled t can.own can.empty n m.0 m.1

  above_other : (n : List ℕ) (d x : Host) → object_in t finds n d ≡ Some x → d ≢ Node can.own
  above_other n d x e is = nothing_below n x (ap (object_in t finds n) (sym is) ∙ e)

  -- a way whose last step isn't the one that goes
  still_step : (n : List ℕ) (h : Text) (x : Host) → reach (n ∷ h) ≡ Some x → ((d : ℕ) → named t h ≡ Some d → ¬ ((d ≡ dir) × (n ≡ name))) → ((d : Host) → reach h ≡ Some d → d ≢ Node can.own → KeepsWay lost t h) → KeepsWay lost t (n ∷ h)
  still_step n h x way kept up =
      let l = last_object t s.user finds h n x way in
      (λ d nm. (not_gone d n (kept d nm), refl), up l.dir l.way (above_other n l.dir x l.there))

  still_way : (h : Text) (x : Host) → reach h ≡ Some x → x ≢ Node can.own → KeepsWay lost t h
  still_way [] x way away = tt
  still_way (n ∷ h) x way away =
      still_step n h x way (λ d nm gone.
      let l = last_object t s.user finds h n x way in
      let is : l.dir ≡ Node d = named_alone t s.user finds h d l.dir nm l.way in
      let ends : entry t d n ≡ Some can.own = ap (λ d. entry t d n) gone.0 ∙ ap (entry t dir) gone.1 ∙ can.there in
      away (some_is x (Node can.own) (sym l.there ∙ ap (object_in t finds n) is ∙ object_of_entry t finds d n can.own ends))) (λ d w a. still_way h d w a)

  named_way : (h : Text) (d : ℕ) → named t h ≡ Some d → d ≢ can.own → KeepsNames lost t h
  named_way [] d n away = tt
  named_way (c ∷ h) d n away =
      let up = then_some (λ dir. entry t dir c) (named t h) d n in
      let stays : up.0 ≢ can.own = λ e. unfilled t can.own can.empty c d (ap (λ k. entry t k c) (sym e) ∙ up.2) in (
        λ e nm. not_gone e c (λ gone.
            let same : up.0 ≡ e = some_is up.0 e (sym up.1 ∙ nm) in
            away (some_is d can.own (sym up.2 ∙ ap (λ k. entry t k c) (same ∙ gone.0) ∙ ap (entry t dir) gone.1 ∙ can.there))),
        named_way h up.0 up.1 stays,
      )

  -- the directory of a mount point has an entry
  point_other : (k : ℕ) (r : Row) (i : ℕ) (n : List ℕ) → is_there (entry t i n) ≡ true → i ≢ can.own
  point_other k r i n there is = let e = some_entry (entry t i n) there in unfilled t can.own can.empty n e.0 (ap (λ i. entry t i n) (sym is) ∙ e.1)

  -- above a guest text nothing goes
  open_way : (g : Text) (x : Host) → reach (host_of bindings g) ≡ Some x → IsOpen space g → KeepsAbove lost space g
  open_way [] x way ways = tt
  open_way (n ∷ y) x way ways =
      let up = ways.0 in
      (still_way (host_of bindings y) up.dir up.way (away (located bindings (n ∷ y)) refl), λ d nm. refl, open_way y up.dir up.way ways.1)
    where
      away : (o : Option ℕ) → located bindings (n ∷ y) ≡ o → ways.0.dir ≢ Node can.own
      away None e =
          let l = last_object t s.user finds (host_of bindings y) n x (ap reach (sym (host_none bindings n y e)) ∙ way) in
          λ is. above_other n l.dir x l.there (some_is l.dir ways.0.dir (sym l.way ∙ ways.0.way) ∙ is)
      away (Some k) e =
          let m = mount_below space stand.settled n y k e in
          let dir_is : ways.0.dir ≡ Node m.point.dir = named_alone t s.user finds (host_of bindings y) m.point.dir ways.0.dir m.dir ways.0.way in
          λ is.
          let nodes : Node m.point.dir ≡ Node can.own = sym dir_is ∙ is in
          let same : m.point.dir ≡ can.own = cc in
          point_other k m.mount m.point.dir m.point.name (stand.settled.mounts.points k m.mount m.point m.there m.stands).there same

  -- ---- the table

  table_still : KeepsTable lost space
  table_still = record {
    sources = λ k r there. source k r there r.text.source refl;
    points = λ k r n up there at.
        let p = point_at space stand.settled k r n up there at in
        named_way (host_of bindings up) p.point.dir p.dir (point_other k r p.point.dir p.point.name (stand.settled.mounts.points k r p.point there p.stands).there);
  }
    where
      source : (k : ℕ) (r : Row) → row table k ≡ Some r → (h : Text) → r.text.source ≡ h → KeepsWay lost t h
      source k r there [] e = tt
      source k r there (n ∷ up) e =
          let own = stand.sources k r n up there e in
          still_step n up (Node r.source) (ap reach (sym e) ∙ inode_reached t s.user finds r.text.source r.source (stand.settled.sources k r there)) (λ d nm gone.
          sources k r there (some_is r.source_dir d (sym own.1 ∙ nm) ∙ gone.0) (own.0 ∙ gone.1)) (λ d w a. still_way up d w a)

  -- ---- places in use

  -- a directory in use stays, and what remembers another entry
  use_still : (x : Use) → IsUse s x → (x.is_directory ≡ false → ¬ ((x.dir ≡ dir) × (x.name ≡ name))) → KeepsUse lost space x
  use_still x is other = record {
    host = λ called. host_lasts lost t x.place.host ((stand.uses x is).called called).1.on.firm (λ pid. refl);
    guest = λ called guest at. on guest at x.is_directory refl;
  }
    where
      on : (guest : Text) (at : StandsAs space x guest) (b : Bool) → x.is_directory ≡ b → KeepsGuest lost space x guest
      on guest at true e = record {
        way = still_way (host_of bindings guest) x.place.host at.on.stands.way (uses x is e);
        above = λ _. open_way guest x.place.host at.on.stands.way (at.on.stands.above (at.kind ∙ e));
      }
      on guest at false e =
          let en = at.entry e in
          record {
            way = subst (KeepsWay lost t) (sym en.text)
                (still_step x.name en.up x.place.host (ap reach (sym en.text) ∙ at.on.stands.way) (λ d nm gone.
                let nodes : Node x.dir ≡ Node d = named_alone t s.user finds en.up d (Node x.dir) nm en.way in
                let same : x.dir ≡ d = cc in
                other e (same ∙ gone.0, gone.1)) (λ d w a. still_way en.up d w a));
            above = λ dir. let clash : true ≡ false = sym dir ∙ e in absurd cc;
          }

  abbrev P : Use → Type 0
  P = StoodAndStays lost table s

  kept : (x : Use) → IsUse s x → (x.is_directory ≡ false → ¬ ((x.dir ≡ dir) × (x.name ≡ name))) → P x
  kept x is other = record { stood = stand.uses x is; keeps = use_still x is other }

  -- what forgets its entry is a directory, which stands as before, or has no name and isn't a source
  forgotten : (x : Use) → IsUse s x → x.dir ≡ dir → x.name ≡ name → has_name x ≡ true → P (record { place = x.place; is_directory = x.is_directory; dir = 0; name = [] })
  forgotten x is dirs names called = by x.is_directory refl
    where
      at : (guest : Text) × StandsAs space x guest
      at = (stand.uses x is).called called

      by : (b : Bool) → x.is_directory ≡ b → P (record { place = x.place; is_directory = x.is_directory; dir = 0; name = [] })
      by true e =
          let still = use_still x is (λ unset. let clash : true ≡ false = sym e ∙ unset in absurd cc) in
          record {
            stood = record {
              called = λ _. (at.0, record { on = at.1.on; kind = at.1.kind; entry = λ unset. let clash : true ≡ false = sym e ∙ unset in absurd cc });
              nameless = λ unset. let clash : true ≡ false = ap (λ b. b || false) (sym e) ∙ unset in absurd cc;
            };
            keeps = record {
              host = λ _. still.host called;
              guest = λ _ guest g. let k = still.guest called guest (record { on = g.on; kind = g.kind; entry = λ unset. let clash : true ≡ false = sym e ∙ unset in absurd cc }) in record { way = k.way; above = k.above };
            };
          }
      by false e = record {
        stood = record { called = λ as_called. absurd (uncalled as_called); nameless = λ unset. spared_is_no_source space stand.settled x at.0 at.1 e (λ k r there at_dir at_name. sources k r there (at_dir ∙ dirs) (at_name ∙ names)) };
        keeps = record { host = λ as_called. absurd (uncalled as_called); guest = λ as_called. absurd (uncalled as_called) };
      }
        where
          uncalled : (x.is_directory || false) ≡ true → ⊥
          uncalled as_called = let clash : false ≡ true = sym (ap (λ b. b || false) e) ∙ as_called in cc

  -- ---- the change

  some_name : name ≢ []
  some_name = (entry_named_well t stand.lawful.tree.sound dir name can.own can.there).some

  -- an open file remembers the entry no more
  opened_still : (n : ℕ) (o : Opened ℕ) (q : Place ℕ) → file_at s.files n ≡ Some o → (after_removal dir name o).place ≡ Some q → P (open_use (after_removal dir name o) q)
  opened_still n o q at = by (remembers dir name o) refl
    where
      by : (b : Bool) → remembers dir name o ≡ b → (if b then nameless o else o).place ≡ Some q → P (open_use (if b then nameless o else o) q)
      by true e there = let r = remembering dir name o.dir o.name e in forgotten (open_use o q) (is_open n o q at there) r.1 r.2 (has_name_by (open_use o q).is_directory o.name r.0)
      by false e there = kept (open_use o q) (is_open n o q at there) (λ file. other_remembered dir name some_name o.dir o.name e)

  exe_still : (pid : ℕ) (p : Process ℕ Image) → process pid s ≡ Some p → P (exe_use (exe_after_removal dir name p))
  exe_still pid p at = by (exe_remembers dir name p) refl
    where
      by : (b : Bool) → exe_remembers dir name p ≡ b → P (exe_use (if b then with_exe_name 0 [] p else p))
      by true e = let r = remembering dir name p.exe_dir p.exe_name e in forgotten (exe_use p) (is_exe pid p at) r.1 r.2 (has_name_by false p.exe_name r.0)
      by false e = kept (exe_use p) (is_exe pid p at) (λ file. other_remembered dir name some_name p.exe_dir p.exe_name e)

  cwd_still : (pid : ℕ) (p : Process ℕ Image) → process pid s ≡ Some p → P (cwd_use p)
  cwd_still pid p at = kept (cwd_use p) (is_cwd pid p at) (λ unset. let clash : true ≡ false = unset in absurd cc)

  abbrev after : State ℕ Image
  after = with_living (map_list (exe_after_removal dir name)) (with_files (with_all_opened (after_removal dir name)) (with_tree (removed dir name) s))

  pids : (p : Process ℕ Image) → (exe_after_removal dir name p).pid ≡ p.pid
  pids p = elim (exe_remembers dir name p) as (λ b. (if b then with_exe_name 0 [] p else p).pid ≡ p.pid) [ true ↦ refl | false ↦ refl ]

  cwds_same : (p : Process ℕ Image) → cwd_use (exe_after_removal dir name p) ≡ cwd_use p
  cwds_same p = elim (exe_remembers dir name p) as (λ b. cwd_use (if b then with_exe_name 0 [] p else p) ≡ cwd_use p) [ true ↦ refl | false ↦ refl ]

  pub follows_removal : Follows lost P s after
  follows_removal = record {
    user = refl;
    inodes = removed_stays s.user lost t.inodes t (stay_all s.user lost t.inodes) dir name (λ n e. ap (λ b. b && bytes_eq n name) (eq-eqb dir dir refl) ∙ (bytes_eq-Decides n name).1 e);
    pids = pids_same lost (pids_of s) (pids_of after) (pids_mapped (exe_after_removal dir name) pids s.living) (pids_of s) (λ test pid e still. e);
    cwds = λ pid q e. let p = from_process (exe_after_removal dir name) pids pid s.living q e in subst P (sym (cwds_same p.0) ∙ ap cwd_use p.2) (cwd_still pid p.0 p.1);
    exes = λ pid q e. let p = from_process (exe_after_removal dir name) pids pid s.living q e in subst P (ap exe_use p.2) (exe_still pid p.0 p.1);
    opens = opens_fine P (with_all_opened (after_removal dir name) s.files) (λ n h at.
        let m = map_some (on_opened (after_removal dir name)) (map.get s.files.files n) h (sym (get-mapped (λ n. on_opened (after_removal dir name)) s.files.files n) ∙ at) in
        subst (λ (h : Counted ℕ). (q : Place ℕ) → h.opened.place ≡ Some q → P (open_use h.opened q)) m.2
        (λ q there. opened_still n m.0.opened q (ap (option_map (λ (h : Counted ℕ). h.opened)) m.1) there));
  }

pub removals_keep_places : RemovalsKeepPlaces
removals_keep_places table mounts pid dir name s stand lives can sources uses =
    let spared = uses can.own can.there in
    places_follow (name_of dir name) table s (after table s stand dir name can sources spared) stand (table_still table s stand dir name can sources spared)
    (every-change-keeps ℕ (λ m. m) table mounts pid (RemoveName dir name) s stand.lawful lives can) (follows_removal table s stand dir name can sources spared)
