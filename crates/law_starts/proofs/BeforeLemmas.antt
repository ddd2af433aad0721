-- What stands at guest texts before a process lives stands in the state in which the first one begins.
use Rattle.std.specs.FinMap as map
use Rattle.std.proofs.Common.{◌≡◌, ◌≢◌, ◌+◌, ℕ, Bool, true, false, not, cond, List, [], ◌∷◌, length, Some, None, refl, sym, ap, subst, ◌∙◌, arith}
use Rattle.std.specs.Prelude.{◌==◌}
use Rattle.std.specs.Bool.{if◌then◌else◌}
use Rattle.std.specs.List.{find}
use Rattle.std.specs.Ordering.{nat_cmp}
use Rattle.std.proofs.lemmas.List.Elements.{All-head}
use Rattle.std.proofs.lemmas.Bool.{ne_eqb}
use Rattle.std.proofs.lemmas.Option.{none-some}
use Rattle.pr_start.specs.pr_base.Paths.{AreNames, IsName}
use Rattle.pr_start.specs.pr_base.Texts.{Text}
use Rattle.pr_start.proofs.pr_base.MapLemmas.{by_key, get-insert_other, get-insert_same}
use Rattle.pr_start.specs.kr_inode.declared.user.User.{User}
use Rattle.pr_start.specs.kr_tree.Changes.{held}
use Rattle.pr_start.specs.kr_tree.Holds.{holds_at}
use Rattle.pr_start.specs.kr_tree.Tree.{Inodes, Tree}
use Rattle.pr_start.specs.kr_tree.declared.place.Host.TheVariants.{Node}
use Rattle.pr_start.specs.kr_tree.declared.place.Place.{Place}
use Rattle.pr_start.proofs.kr_tree.NameLemmas.{map_some, some_is}
use Rattle.pr_start.specs.kr_view.Component.{Namespace}
use Rattle.pr_start.specs.kr_view.Living.{finds_among}
use Rattle.pr_start.specs.kr_view.Processes.{no_finds, no_leads}
use Rattle.pr_start.specs.kr_view.View.{Row}
use Rattle.pr_start.proofs.kr_view.HostReachLemmas.{reached_names}
use Rattle.pr_start.proofs.kr_view.ProcessLemmas.{no_processes}
use Rattle.law_turns.specs.kr_files.declared.opened.Opened.{Opened}
use Rattle.law_turns.specs.kr_files.Files.{Counted, Table, empty_table, file_at, with_file}
use Rattle.law_turns.specs.kr_model.Lawful.{IsLawful}
use Rattle.law_turns.specs.kr_model.ProcessDirectory.{space_of}
use Rattle.law_turns.specs.kr_model.State.{Image, Process, State, is_pid}
use Rattle.pr_start.specs.kr_start.Start.{First, held_once, pinned, without_processes}
use Rattle.pr_start.proofs.kr_start.StartLemmas.{empty-lawful}
use Rattle.law_turns.specs.law_walks.Settled.{IsSettled, host_text}
use Rattle.law_turns.specs.law_places.Losses.{InodesStay, nothing}
use Rattle.law_turns.specs.law_places.Standing.{PlacesStand, UseStands}
use Rattle.law_turns.specs.law_places.Uses.{IsUse, Use, is_cwd, is_exe, is_open}
use Rattle.law_turns.proofs.law_places.KeptLemmas.{table_kept, use_kept}
use Rattle.law_turns.proofs.law_places.MatchLemmas.{file_apart}
use Rattle.law_turns.proofs.law_places.SpaceLemmas.{settled_still, sources_still, use_still, whole}
use Rattle.law_turns.proofs.law_places.TreeLemmas.{held_stays, stay_all}
use Rattle.law_starts.specs.FirstStates.{BeginsAt, IsOpening}
use Rattle.law_starts.specs.Spaces.{first_space}
use Rattle.law_starts.proofs.LaterLemmas.{entry-later, on-later, settled-later}

-- ---- lists of one process, and files without places

pub alone : (q : Process ℕ Image) (pid : ℕ) (p : Process ℕ Image) → find (is_pid pid) (q ∷ []) ≡ Some p → q ≡ p
alone q pid p e = by (q.pid == pid) e
  where
    by : (b : Bool) → cond b (Some q) None ≡ Some p → q ≡ p
    by true e = some_is q p e
    by false e = absurd cc

abbrev pub HasNoPlaces : Table ℕ → Type 0
HasNoPlaces files = (n : ℕ) (h : Counted ℕ) → map.get files.files n ≡ Some h → h.opened.place ≡ None

pub no-places : HasNoPlaces empty_table
no-places n h at = absurd (none-some h (sym (map.get-empty nat_cmp n) ∙ at))

pub still-no-places : (o : Opened ℕ) (files : Table ℕ) → o.place ≡ None → HasNoPlaces files → HasNoPlaces (with_file o files)
still-no-places o files none before n h at =
    let new : Counted ℕ = record { opened = o; count = 1 } in
    by_key (λ n. map.get (with_file o files).files n ≡ Some h → h.opened.place ≡ None) (files.last_file + 1)
    (λ at. subst (λ (h : Counted ℕ). h.opened.place ≡ None) (some_is new h (sym (get-insert_same files.files (files.last_file + 1) new) ∙ at)) none)
    (λ q away at. before q h (sym (get-insert_other files.files (files.last_file + 1) new q away) ∙ at)) n at

pub unplaced : (files : Table ℕ) → HasNoPlaces files → (n : ℕ) (o : Opened ℕ) (p : Place ℕ) → file_at files n ≡ Some o → o.place ≡ Some p → ⊥
unplaced files none n o p at there =
    let h = map_some (λ (h : Counted ℕ). h.opened) (map.get files.files n) o at in
    let clash : None ≡ Some p = sym (none n h.0 h.1) ∙ ap (λ (o : Opened ℕ). o.place) h.2 ∙ there in
    none-some p clash

-- ---- before a process lives

-- the sources of mounts are held, and nothing is lost by that
pinned-stays : (user : User) (rows : List Row) (m : Inodes) (t : Tree) → InodesStay user nothing m t.inodes → InodesStay user nothing m (pinned rows t).inodes
pinned-stays user [] m t stays = stays
pinned-stays user (r ∷ rows) m t stays = pinned-stays user rows m (held_once r.source t) (by (holds_at t r.source == 0))
  where
    by : (b : Bool) → InodesStay user nothing m (if b then held r.source t else t).inodes
    by true = held_stays user nothing m t stays r.source
    by false = stays

module _ (table : List Row) (tree : Tree) (user : User) (input : List ℕ) (opening : IsOpening tree user table) where
  abbrev pub before : State ℕ Image
  before = without_processes (pinned table tree) user input

  abbrev here : Namespace
  here = record { table = table; tree = tree; user = user; finds = finds_among [] }

  stay : InodesStay user nothing tree.inodes (pinned table tree).inodes
  stay = pinned-stays user table tree.inodes tree (stay_all user nothing tree.inodes)

  lawful : IsLawful (λ m. m) table before
  lawful = empty-lawful (λ m. m) table tree user input opening.kept opening.prepared.stands opening.prepared.free

  settled : IsSettled here
  settled = settled-later table tree user (finds_among []) opening.prepared.settled

  -- what stands in the tree as it was settled
  pub use-before : (x : Use) → UseStands here x → UseStands (space_of table before) x
  use-before x stands =
      use_still user nothing tree (pinned table tree) [] [] (whole tree opening.kept) (whole (pinned table tree) lawful.tree) stay (λ test pid e kept. e) table settled x (use_kept here x stands) stands

  no-use : (x : Use) → IsUse before x → ⊥
  no-use _ (is_cwd pid p at) = none-some p at
  no-use _ (is_exe pid p at) = none-some p at
  no-use _ (is_open number o p at there) = unplaced empty_table no-places number o p at there

  pub before-stands : PlacesStand table before
  before-stands = record {
    lawful = lawful;
    settled =
        settled_still user nothing tree (pinned table tree) [] [] (whole tree opening.kept) (whole (pinned table tree) lawful.tree) stay (λ test pid e kept. e) table (table_kept here) lawful.mounts settled;
    sources = sources_still user nothing tree (pinned table tree) [] [] (whole tree opening.kept) (whole (pinned table tree) lawful.tree) stay (λ test pid e kept. e) table (table_kept here) opening.sources;
    uses = λ x is. absurd (no-use x is);
  }

  -- ---- the first process

  module _ (first : First ℕ) (working program : Text) (at : BeginsAt table tree user first working program) where
    cwd-here : UseStands here (record { place = first.cwd; is_directory = true; dir = 0; name = [] })
    cwd-here = record {
      called = λ called. (working, record { on = on-later table tree user (finds_among []) first.cwd working at.cwd; kind = at.begins.cwd.1; entry = λ file. absurd (apart file) });
      nameless = λ none. absurd (apart none);
    }
      where
        apart : true ≡ false → ⊥
        apart e = cc

    -- the program's entry has a name
    named : first.exe_name ≢ []
    named none =
        let host = host_text (first_space table tree user) program in
        let names = reached_names tree user no_finds no_leads host first.exe.host opening.kept.sound no_processes.lawful at.exe.stands.way in
        (All-head IsName first.exe_name at.entry.up (subst AreNames at.entry.text names)).some none

    exe-here : UseStands here (record { place = first.exe; is_directory = false; dir = first.exe_dir; name = first.exe_name })
    exe-here = record {
      called = λ called. (
        program,
        record {
          on = on-later table tree user (finds_among []) first.exe program at.exe;
          kind = file_apart tree first.exe.host at.begins.exe.1;
          entry = λ file. entry-later table tree user (finds_among []) (host_text here program) (Node first.exe_dir) first.exe_name at.entry;
        },
      );
      nameless = λ none. absurd (unnamed first.exe_name named none);
    }
      where
        unnamed : (name : List ℕ) → name ≢ [] → not (length name == 0) ≡ false → ⊥
        unnamed [] some none = some refl
        unnamed (b ∷ name) some none =
            let clash : true ≡ false = sym (ap not (ne_eqb (length (b ∷ name)) 0 (λ e. absurd (omega arith)))) ∙ none in
            cc

    pub cwd-stands : UseStands (space_of table before) (record { place = first.cwd; is_directory = true; dir = 0; name = [] })
    cwd-stands = use-before _ cwd-here

    pub exe-stands : UseStands (space_of table before) (record { place = first.exe; is_directory = false; dir = first.exe_dir; name = first.exe_name })
    exe-stands = use-before _ exe-here
