-- What places that stand at guest texts are called.
use Rattle.std.proofs.Common.{◌≡◌, ◌≢◌, inl, inr, ℕ, zero, suc, Bool, true, false, cond, Option, Some, None, List, [], ◌∷◌, ◌++◌, refl, subst, ap, sym, ◌∙◌, nat_eq, arith, append_assoc, length}
use Rattle.std.specs.Bool.{if◌then◌else◌}
use Rattle.std.specs.List.{find}
use Rattle.std.specs.Option.{option_map, option_map_or, option_and_then}
use Rattle.std.proofs.lemmas.Bool.{eq-eqb, ne_eqb, cases_eq}
use Rattle.std.proofs.lemmas.List.{append_cancel_right, length-append}
use Rattle.std.proofs.lemmas.List.Elements.{All-append, All-cons, All-head, All-nil, All-tail}
use Rattle.pt_canon.specs.pr_base.MountText.{MountText}
use Rattle.pt_canon.specs.pr_base.Paths.{AreNames, IsName}
use Rattle.pt_canon.specs.pr_base.Texts.{Text, below, names_below}
use Rattle.pt_canon.proofs.pr_base.TextLemmas.{below_found, below_there}
use Rattle.pt_canon.specs.pt_bind.Binding.{guest_in, guest_of, host_of, located, owner}
use Rattle.kr_mounts.specs.kr_tree.declared.place.Host.{Host}
use Rattle.kr_mounts.specs.kr_tree.declared.place.Host.TheVariants.{Node, Proc}
use Rattle.kr_mounts.specs.kr_tree.declared.place.Place.{Place}
use Rattle.kr_mounts.specs.kr_tree.declared.place.ProcAt.{ProcAt}
use Rattle.kr_mounts.specs.kr_tree.declared.place.ProcAt.TheVariants.{SelfLink, Dir, Cwd, Root, Exe, FdDir, Fd}
use Rattle.kr_mounts.specs.kr_tree.Names.{host_name, process_names, reached}
use Rattle.kr_mounts.specs.kr_tree.Tree.{Tree, Body, Directory, RegularFile, SymbolicLink, ProcessDirectory, body, body_is, is_directory}
use Rattle.kr_mounts.proofs.kr_tree.EntryLemmas.{body_test, reached-named}
use Rattle.kr_mounts.proofs.kr_tree.NameLemmas.{map_some, named-host_name, some_is}
use Rattle.kr_mounts.specs.kr_view.declared.procs.Lead.{Lead}
use Rattle.kr_mounts.specs.kr_view.Component.{Namespace, is_directory_at, is_process_directory, is_processes, is_shown}
use Rattle.kr_mounts.specs.kr_view.Names.{directory_name, guest_name, process_name, process_object_name}
use Rattle.kr_mounts.specs.kr_view.Processes.{LawsOfProcesses}
use Rattle.kr_mounts.specs.kr_view.View.{Row, node_in, root_source, row}
use Rattle.kr_mounts.proofs.kr_view.GuestNameLemmas.{below_source, entries, file_source, processes}
use Rattle.kr_mounts.proofs.kr_view.HostReachLemmas.{IsFoundIn, at_top, below_processes, below_top, found_in, inode_reached, last_object, reached_inode, reached_names, reached_process}
use Rattle.kr_mounts.proofs.kr_view.ArrivalLemmas.{directory_firm}
use Rattle.kr_mounts.specs.Standing.{texts_of}
use Rattle.law_walks.specs.Settled.{IsSettled, host_text}
use Rattle.law_walks.specs.Standing.{IsEntryAt, IsOpen, IsUncovered, Stands, place_in, reached_in}
use Rattle.law_walks.specs.Start.{RootsStand}
use Rattle.law_walks.specs.Translation.{DirectoriesStandOnce, IsCalled, StandingPlacesAreCalled, StandingPlacesAreUncovered, TaggedPlacesStand}
use Rattle.law_walks.proofs.TableLemmas.{root_directory, root_source_is, host_none, host_some, located_none, located_some, mount_below, one_text, owned, owner_none, owner_some, root_row, root_there, source_named, source_text}

-- ---- the row of an index

-- of what is left of a table
left_index : (r : Row) (q : Row) (o : Option MountText) → (q.text.index ≡ r.text.index → q ≡ r) → (q.text.index ≢ r.text.index → o ≡ Some r.text) → cond (nat_eq q.text.index r.text.index) (Some q.text) o ≡ Some r.text
left_index r q o own later = elim (cases_eq q.text.index r.text.index) [
  | inl e ↦ ap (λ b. cond b (Some q.text) o) (eq-eqb q.text.index r.text.index e) ∙ ap (λ (q : Row). Some q.text) (own e)
  | inr away ↦ ap (λ b. cond b (Some q.text) o) (ne_eqb q.text.index r.text.index away) ∙ later away
]

found_index : (table : List Row) (k : ℕ) (r : Row) → row table k ≡ Some r → ((j : ℕ) (q : Row) → row table j ≡ Some q → q.text.index ≡ r.text.index → q ≡ r) → find (λ (m : MountText). nat_eq m.index r.text.index) (texts_of table) ≡ Some r.text
found_index [] k r h own = absurd cc
found_index (q ∷ table) zero r h own =
    left_index r q (find (λ (m : MountText). nat_eq m.index r.text.index) (texts_of table)) (own 0 q refl) (λ away. absurd (away (ap (λ (q : Row). q.text.index) (some_is q r h))))
found_index (q ∷ table) (suc k) r h own =
    left_index r q (find (λ (m : MountText). nat_eq m.index r.text.index) (texts_of table)) (own 0 q refl) (λ away. found_index table k r h (λ j q e. own (suc j) q e))

-- ---- names in front

names_in_front : (rest more : Text) → AreNames (rest ++ more) → AreNames rest
names_in_front [] more h = All-nil IsName
names_in_front (name ∷ rest) more h = All-cons IsName name rest (All-head IsName name (rest ++ more) h) (names_in_front rest more (All-tail IsName name (rest ++ more) h))

-- a process directory is a directory
pub processes_directory : (t : Tree) (i : ℕ) → body_is is_processes t i ≡ true → body_is is_directory t i ≡ true
processes_directory t i h = body_test is_directory t i ∙ by (body t i) (sym (body_test is_processes t i) ∙ h)
  where
    by : (o : Option Body) → option_map_or is_processes o false ≡ true → option_map_or is_directory o false ≡ true
    by None h = absurd cc
    by (Some (Directory es st)) h = absurd cc
    by (Some (RegularFile bytes)) h = absurd cc
    by (Some (SymbolicLink text)) h = absurd cc
    by (Some (ProcessDirectory st)) h = refl

module _ (space : Namespace) (set : IsSettled space) where
  abbrev table : List Row
  table = space.table

  abbrev bindings : List MountText
  bindings = texts_of space.table

  abbrev tree : Tree
  tree = space.tree

  abbrev reach : Text → Option Host
  reach h = reached_in space h

  by_index : (k : ℕ) (r : Row) → row table k ≡ Some r → find (λ (m : MountText). nat_eq m.index r.text.index) bindings ≡ Some r.text
  by_index k r there = found_index table k r there (λ j q e i. let same : j ≡ k = set.mounts.lawful.own_index j k q r e there i in some_is q r (sym e ∙ ap (row table) same ∙ there))

  -- ---- what a host text reaches

  pub node_reached : (h : Text) (i : ℕ) → reach h ≡ Some (Node i) → reached tree space.user h ≡ Some i
  node_reached h i way = reached_inode tree space.user space.finds h i way

  -- what has a directory below it is one
  pub above_directory : (rest h : Text) (x y : Host) → reach (rest ++ h) ≡ Some x → is_directory_at tree x ≡ true → reach h ≡ Some y → is_directory_at tree y ≡ true
  above_directory [] h x y way dir there = ap (is_directory_at tree) (some_is y x (sym there ∙ way)) ∙ dir
  above_directory (name ∷ rest) h x y way dir there = let s = last_object tree space.user space.finds (rest ++ h) name x way in above_directory rest h s.dir y s.way s.is_dir there

  pub source_reached : (k : ℕ) (r : Row) → row table k ≡ Some r → reach r.text.source ≡ Some (Node r.source)
  source_reached k r there = inode_reached tree space.user space.finds r.text.source r.source (set.sources k r there)

  pub root_reached : reach (host_of bindings []) ≡ Some (Node (root_source table))
  root_reached = ap reach (source_text table 0 (root_row space set) (root_there space set)) ∙ source_reached 0 (root_row space set) (root_there space set) ∙ ap (λ i. Some (Node i)) (sym (root_source_is space set))

  -- a source is of the kind of which it was settled
  pub kind_of_source : (k : ℕ) (r : Row) (b : Bool) → row table k ≡ Some r → body_is is_directory tree r.source ≡ b → r.is_dir ≡ b
  kind_of_source k r b there is = by (body tree r.source) (set.mounts.sources k r there) (sym (body_test is_directory tree r.source) ∙ is)
    where
      by : (o : Option Body) → option_map is_directory o ≡ Some r.is_dir → option_map_or is_directory o false ≡ b → r.is_dir ≡ b
      by None kind is = absurd cc
      by (Some x) kind is = sym (some_is (is_directory x) r.is_dir kind) ∙ is

  -- the mount to which the text of a directory belongs is of a directory
  mount_of_directory : (u : Text) (x : Host) → reach (host_of bindings u) ≡ Some x → is_directory_at tree x ≡ true → (owned space set u).mount.is_dir ≡ true
  mount_of_directory u x way dir =
      let w = owned space set u in
      let source = source_reached (owner bindings u) w.mount w.there in
      kind_of_source (owner bindings u) w.mount true w.there (above_directory w.rest w.mount.text.source x (Node w.mount.source) (ap reach (sym w.host) ∙ way) dir source)

  -- ---- directories of the tree

  pub host_called : (h : Text) (i : ℕ) → reach h ≡ Some (Node i) → body_is is_directory tree i ≡ true → host_name tree i ≡ Some h
  host_called h i way dir = named-host_name tree set.sound h i (reached-named tree space.user h i (node_reached h i way)) dir

  called_directory : (m i : ℕ) (u : Text) → m ≡ owner bindings u → reach (host_of bindings u) ≡ Some (Node i) → body_is is_directory tree i ≡ true → guest_name space (node_in m i) None ≡ Some u
  called_directory m i u mount way dir =
      let w = owned space set u in
      let there : row table m ≡ Some w.mount = ap (row table) mount ∙ w.there in
      let kind = mount_of_directory u (Node i) way dir in
      let top = named-host_name tree set.sound w.mount.text.source w.mount.source (source_named space set m w.mount there) (above_directory w.rest w.mount.text.source (Node i) (Node w.mount.source) (ap reach (sym w.host) ∙ way) dir (source_reached m w.mount there)) in
      let own : host_name tree i ≡ Some (w.rest ++ w.mount.text.source) = host_called (host_of bindings u) i way dir ∙ ap Some w.host in
      below_source space m i w.mount None w.mount.text.source w.rest set.sound there kind top own ∙ ap Some (sym w.parted)

  -- ---- other inodes

  called_entry : (m i dir : ℕ) (name : List ℕ) (t : Text) → m ≡ owner bindings t → reach (host_of bindings t) ≡ Some (Node i) → body_is is_directory tree i ≡ false → IsEntryAt space (host_of bindings t) (Node dir) name
      → guest_name space (node_in m i) (Some (dir, name)) ≡ Some t
  called_entry m i dir name [] mount way file at =
      let root_is : Node (root_row space set).source ≡ Node i = some_is (Node (root_row space set).source) (Node i) (sym (ap reach (source_text table 0 (root_row space set) (root_there space set)) ∙ source_reached 0 (root_row space set) (root_there space set)) ∙ way) in
      let same : (root_row space set).source ≡ i = cc in
      let kind = kind_of_source 0 (root_row space set) false (root_there space set) (ap (body_is is_directory tree) same ∙ file) in
      let clash : true ≡ false = sym set.mounts.rooted.2 ∙ kind in absurd cc
  called_entry m i dir name (c ∷ u) mount way file at = by (located bindings (c ∷ u)) refl
    where
      by : (o : Option ℕ) → located bindings (c ∷ u) ≡ o → guest_name space (node_in m i) (Some (dir, name)) ≡ Some (c ∷ u)
      by (Some k) e =
          let l = located_some table (c ∷ u) k e in
          let m_is : m ≡ k = mount ∙ owner_some bindings c u k e in
          let nodes : Node l.mount.source ≡ Node i = some_is (Node l.mount.source) (Node i) (sym (ap reach (host_some bindings c u k e ∙ source_text table k l.mount l.there) ∙ source_reached k l.mount l.there) ∙ way) in
          let same : l.mount.source ≡ i = cc in
          let kind = kind_of_source k l.mount false l.there (ap (body_is is_directory tree) same ∙ file) in
          let P : ℕ → Type 0 = λ i. guest_name space (node_in m i) (Some (dir, name)) ≡ Some (c ∷ u) in
          subst P same (file_source space m l.mount (dir, name) (ap (row table) m_is ∙ l.there) kind ∙ ap Some l.at)
      by None e =
          let h : host_of bindings (c ∷ u) ≡ c ∷ host_of bindings u = host_none bindings c u e in
          let m_is : m ≡ owner bindings u = mount ∙ owner_none bindings c u e in
          let heads : c ∷ host_of bindings u ≡ name ∷ at.up = sym h ∙ at.text in
          let called : c ≡ name = cc in
          let up_is : host_of bindings u ≡ at.up = cc in
          let s = last_object tree space.user space.finds (host_of bindings u) c (Node i) (ap reach (sym h) ∙ way) in
          let up : reach (host_of bindings u) ≡ Some (Node dir) = ap reach up_is ∙ at.way in
          let dir_is : body_is is_directory tree dir ≡ true = ap (is_directory_at tree) (some_is (Node dir) s.dir (sym up ∙ s.way)) ∙ s.is_dir in
          let w = owned space set u in
          let kind = mount_of_directory u (Node dir) up dir_is in
          entries space m i dir w.mount name (ap (row table) m_is ∙ w.there) kind file dir_is ∙ ap (below name) (called_directory m dir u m_is up dir_is) ∙ ap (λ n. Some (n ∷ u)) (sym called)

  -- ---- in the process directory

  module _ (leads : ProcAt → Lead ℕ) (laws : LawsOfProcesses space.finds leads) where
    -- what stands in the process directory stands at its names below the text of that
    record IsInProcesses (m i : ℕ) (at : ProcAt) (t : Text) : Type 0 where
      top : Text
      parted : t ≡ process_names at ++ top
      mount : m ≡ owner bindings top
      way : reach (host_of bindings top) ≡ Some (Node i)

    -- no mount has such a source
    pub not_located : (name : List ℕ) (u : Text) (i : ℕ) (at : ProcAt) → reach (host_of bindings (name ∷ u)) ≡ Some (Proc i at) → located bindings (name ∷ u) ≡ None
    not_located name u i at way = by (located bindings (name ∷ u)) refl
      where
        by : (o : Option ℕ) → located bindings (name ∷ u) ≡ o → o ≡ None
        by None e = refl
        by (Some k) e =
            let l = located_some table (name ∷ u) k e in
            let clash : Node l.mount.source ≡ Proc i at = some_is (Node l.mount.source) (Proc i at) (sym (ap reach (host_some bindings name u k e ∙ source_text table k l.mount l.there) ∙ source_reached k l.mount l.there) ∙ way) in absurd cc

    in_processes : (m i : ℕ) (at : ProcAt) (t : Text) → m ≡ owner bindings t → reach (host_of bindings t) ≡ Some (Proc i at) → IsInProcesses m i at t
    in_processes m i at [] mount way =
        let r = root_row space set in
        let clash : Node r.source ≡ Proc i at = some_is (Node r.source) (Proc i at) (sym (ap reach (source_text table 0 r (root_there space set)) ∙ source_reached 0 r (root_there space set)) ∙ way) in absurd cc
    in_processes m i at (name ∷ u) mount way =
        let e = not_located name u i at way in
        let m_is : m ≡ owner bindings u = mount ∙ owner_none bindings name u e in
        let s = last_object tree space.user space.finds (host_of bindings u) name (Proc i at) (ap reach (sym (host_none bindings name u e)) ∙ way) in
        by s.dir s.way m_is (λ up there. in_processes m i up u m_is there) (found_in tree space.finds name s.dir i at s.there)
      where
        by : (dir : Host) → reach (host_of bindings u) ≡ Some dir → m ≡ owner bindings u → ((up : ProcAt) → reach (host_of bindings u) ≡ Some (Proc i up) → IsInProcesses m i up u) → IsFoundIn tree space.finds name i at dir → IsInProcesses m i at (name ∷ u)
        by _ there m_is above (at_top is found) = record { top = u; parted = ap (λ names. names ++ u) (sym (laws.named None name at found)); mount = m_is; way = there }
        by _ there m_is above (below_top up found) =
            let b = above up there in
            record { top = b.top; parted = ap (λ text. name ∷ text) b.parted ∙ ap (λ names. names ++ b.top) (sym (laws.named (Some up) name at found)); mount = b.mount; way = b.way }

    -- a process in whose directory one is, is shown
    pub process_shown : (h : Text) (i pid : ℕ) → reach h ≡ Some (Proc i (Dir pid)) → is_shown space pid ≡ true
    process_shown [] i pid way = absurd cc
    process_shown (name ∷ h) i pid way =
        let s = last_object tree space.user space.finds h name (Proc i (Dir pid)) way in by s.dir (found_in tree space.finds name s.dir i (Dir pid) s.there)
      where
        by : (dir : Host) → IsFoundIn tree space.finds name i (Dir pid) dir → is_shown space pid ≡ true
        by _ (at_top is found) = laws.shown name pid found
        by _ (below_top up found) = let clash : None ≡ Some up = laws.stands (Some up) name (Dir pid) found in absurd cc

    pub descriptors_shown : (h : Text) (i pid : ℕ) → reach h ≡ Some (Proc i (FdDir pid)) → is_shown space pid ≡ true
    descriptors_shown [] i pid way = absurd cc
    descriptors_shown (name ∷ h) i pid way =
        let s = last_object tree space.user space.finds h name (Proc i (FdDir pid)) way in by s.dir s.way (found_in tree space.finds name s.dir i (FdDir pid) s.there)
      where
        by : (dir : Host) → reach h ≡ Some dir → IsFoundIn tree space.finds name i (FdDir pid) dir → is_shown space pid ≡ true
        by _ there (at_top is found) = let clash : Some (Dir pid) ≡ None = laws.stands None name (FdDir pid) found in absurd cc
        by _ there (below_top up found) =
            let is : Dir pid ≡ up = some_is (Dir pid) up (laws.stands (Some up) name (FdDir pid) found) in
            process_shown h i pid (there ∙ ap (λ d. Some (Proc i d)) (sym is))

    -- the names of a directory there, below a name of the process directory
    named_there : (at : ProcAt) (h top : Text) (i : ℕ) → is_process_directory at ≡ true → reach h ≡ Some (Proc i at) → process_object_name space at (Some top) ≡ Some (process_names at ++ top)
    named_there SelfLink h top i dir way = absurd cc
    named_there (Cwd pid) h top i dir way = absurd cc
    named_there (Root pid) h top i dir way = absurd cc
    named_there (Exe pid) h top i dir way = absurd cc
    named_there (Fd pid fd) h top i dir way = absurd cc
    named_there (Dir pid) h top i dir way = ap (λ b. if b then process_name (Dir pid) (Some top) else None) (process_shown h i pid way)
    named_there (FdDir pid) h top i dir way = ap (λ b. if b then process_name (FdDir pid) (Some top) else None) (descriptors_shown h i pid way)

    pub process_holder : (h : Text) (i : ℕ) (at : ProcAt) → reach h ≡ Some (Proc i at) → body_is is_directory tree i ≡ true
    process_holder h i at way = processes_directory tree i (below_processes tree space.user space.finds h i at way).processes

    -- ---- directories

    host_directory : (h : Text) (x : Host) → reach h ≡ Some x → is_directory_at tree x ≡ true → directory_name space x ≡ Some h
    host_directory h (Node i) way dir = host_called h i way dir
    host_directory h (Proc i at) way dir =
        let p = reached_process tree space.user space.finds leads h i at laws way in
        let top = named-host_name tree set.sound p.0 i (reached-named tree space.user p.0 i p.2) (process_holder h i at way) in
        ap (process_object_name space at) top ∙ named_there at h p.0 i dir way ∙ ap Some (sym p.1)

    guest_called : (m : ℕ) (x : Host) (t : Text) → m ≡ owner bindings t → reach (host_of bindings t) ≡ Some x → is_directory_at tree x ≡ true → guest_name space (place_in m x) None ≡ Some t
    guest_called m (Node i) t mount way dir = called_directory m i t mount way dir
    guest_called m (Proc i at) t mount way dir =
        let p = in_processes m i at t mount way in
        let holder_is = process_holder (host_of bindings t) i at way in
        let w = owned space set p.top in
        let kind = mount_of_directory p.top (Node i) p.way holder_is in
        processes space m i at w.mount None (ap (row table) p.mount ∙ w.there) kind holder_is dir
        ∙ ap (process_object_name space at) (called_directory m i p.top p.mount p.way holder_is)
        ∙ named_there at (host_of bindings t) p.top i dir way
        ∙ ap Some (sym p.parted)

    pub standing_names : (t : Text) (x : Host) → reach (host_of bindings t) ≡ Some x → AreNames t
    standing_names t x way =
        let w = owned space set t in
        let host : AreNames (w.rest ++ w.mount.text.source) = subst AreNames w.host (reached_names tree space.user space.finds leads (host_of bindings t) x set.sound laws way) in
        subst AreNames (sym w.parted) (All-append IsName w.rest w.mount.text.location (names_in_front w.rest w.mount.text.source host) (set.mounts.lawful.location_names (owner bindings t) w.mount w.there))

    pub tag_called : (t : Text) (r : Row) → row table (owner bindings t) ≡ Some r → guest_of bindings r.text.index (host_of bindings t) ≡ Some t
    tag_called t r there =
        let w = owned space set t in
        let same : w.mount ≡ r = some_is w.mount r (sym w.there ∙ there) in
        let host : host_of bindings t ≡ w.rest ++ r.text.source = w.host ∙ ap (λ (x : Row). w.rest ++ x.text.source) same in
        let text : t ≡ w.rest ++ r.text.location = w.parted ∙ ap (λ (x : Row). w.rest ++ x.text.location) same in
        ap (option_and_then (λ row. guest_in row (host_of bindings t))) (by_index (owner bindings t) r there)
        ∙ ap (λ h. option_map (λ rest. rest ++ r.text.location) (names_below r.text.source h)) host
        ∙ ap (option_map (λ rest. rest ++ r.text.location)) (below_there r.text.source w.rest)
        ∙ ap Some (sym text)

    called : (p : Place ℕ) (t : Text) → Stands space p t → IsCalled space p t
    called p t s = record {
      tagged = λ r there. tag_called t r (ap (row table) (sym s.mount) ∙ there);
      on_host = λ dir. host_directory (host_of bindings t) p.host s.way dir;
      directory = λ dir. guest_called p.mount p.host t s.mount s.way dir;
      entry = λ i dir name is other at.
          ap (λ x. guest_name space (place_in p.mount x) (Some (dir, name))) is
          ∙ called_entry p.mount i dir name t s.mount (s.way ∙ ap Some is) (ap (is_directory_at tree) (sym is) ∙ other) at;
    }

    -- a directory is reached by one host text
    host_once : (one two : Text) (x : Host) → is_directory_at tree x ≡ true → reach one ≡ Some x → reach two ≡ Some x → one ≡ two
    host_once one two x dir way also = some_is one two (sym (host_directory one x way dir) ∙ host_directory two x also dir)

  -- ---- tags

  -- the location of a row belongs to it
  at_location : (k : ℕ) (r : Row) → row table k ≡ Some r → (owner bindings r.text.location ≡ k) × (host_of bindings r.text.location ≡ r.text.source)
  at_location zero r there =
      let none = set.mounts.lawful.root_location r there in
      (ap (owner bindings) none, ap (host_of bindings) none ∙ source_text table 0 r there)
  at_location (suc j) r there =
      let p = set.mounts.lawful.later_point j r there in
      let s = set.points (suc j) r p.0 there p.1 in
      let found = at p.0.name s.up s.location (located bindings (p.0.name ∷ s.up)) refl in
      (ap (owner bindings) s.location ∙ owner_some bindings p.0.name s.up (suc j) found, ap (host_of bindings) s.location ∙ host_some bindings p.0.name s.up (suc j) found ∙ source_text table (suc j) r there)
    where
      at : (name : List ℕ) (up : Text) → r.text.location ≡ name ∷ up → (o : Option ℕ) → located bindings (name ∷ up) ≡ o → located bindings (name ∷ up) ≡ Some (suc j)
      at name up is None e = absurd (located_none table (name ∷ up) e (suc j) r there is)
      at name up is (Some i) e =
          let l = located_some table (name ∷ up) i e in
          e ∙ ap Some (set.mounts.lawful.own_location i (suc j) l.mount r l.there there (l.at ∙ sym is))

  append_one : (front : Text) (name : List ℕ) (more : Text) → (front ++ name ∷ []) ++ more ≡ front ++ name ∷ more
  append_one [] name more = refl
  append_one (x ∷ front) name more = ap (λ l. x ∷ l) (append_one front name more)

  -- so does what is below it, where its mount doesn't cover a name on the way
  pub below_location : (k : ℕ) (r : Row) → row table k ≡ Some r → (rest front : Text) → IsUncovered space k (front ++ (rest ++ r.text.source))
      → (owner bindings (rest ++ r.text.location) ≡ k) × (host_of bindings (rest ++ r.text.location) ≡ rest ++ r.text.source)
  below_location k r there [] front free = at_location k r there
  below_location k r there (name ∷ rest) front free =
      at (located bindings (name ∷ (rest ++ r.text.location))) refl (below_location k r there rest (front ++ name ∷ []) (subst (IsUncovered space k) (sym (append_one front name (rest ++ r.text.source))) free))
    where
      at : (o : Option ℕ) → located bindings (name ∷ (rest ++ r.text.location)) ≡ o → (owner bindings (rest ++ r.text.location) ≡ k) × (host_of bindings (rest ++ r.text.location) ≡ rest ++ r.text.source)
          → (owner bindings (name ∷ (rest ++ r.text.location)) ≡ k) × (host_of bindings (name ∷ (rest ++ r.text.location)) ≡ name ∷ (rest ++ r.text.source))
      at None e above = (owner_none bindings name (rest ++ r.text.location) e ∙ above.0, host_none bindings name (rest ++ r.text.location) e ∙ ap (λ l. name ∷ l) above.1)
      at (Some j) e above =
          let b = mount_below space set name (rest ++ r.text.location) j e in
          let s = set.points j b.mount b.point b.there b.stands in
          let heads : b.point.name ∷ s.up ≡ name ∷ (rest ++ r.text.location) = sym {b = b.point.name ∷ s.up} s.location ∙ b.at in
          let up_is : s.up ≡ rest ++ r.text.location = cc in
          let host : b.point.name ∷ host_of bindings s.up ≡ name ∷ (rest ++ r.text.source) = ap (λ n. n ∷ host_of bindings s.up) b.called ∙ ap (λ h. name ∷ h) (ap (host_of bindings) up_is ∙ above.1) in
          absurd (free j b.mount b.point (b.point.name ∷ host_of bindings s.up) front b.there b.stands (b.in_mount ∙ above.0) s.text (ap (λ h. front ++ h) (sym host)))

  tagged : (k : ℕ) (r : Row) (host guest : Text) (x : Host) → row table k ≡ Some r → guest_of bindings r.text.index host ≡ Some guest → IsUncovered space k host → reach host ≡ Some x → (is_directory_at tree x ≡ true → IsOpen space guest)
      → (host_of bindings guest ≡ host) × Stands space (place_in k x) guest
  tagged k r host guest x there is free way above =
      let b = map_some (λ rest. rest ++ r.text.location) (names_below r.text.source host) guest (sym (ap (option_and_then (λ row. guest_in row host)) (by_index k r there)) ∙ is) in
      let host_is : host ≡ b.0 ++ r.text.source = below_found r.text.source host b.0 b.1 in
      let both = below_location k r there b.0 [] (subst (IsUncovered space k) host_is free) in
      let hosts : host_of bindings guest ≡ host = ap (host_of bindings) (sym b.2) ∙ both.1 ∙ sym host_is in
      (hosts, record { mount = sym (ap (owner bindings) (sym b.2) ∙ both.0); way = ap reach hosts ∙ way; above = above })

pub standing_places_are_called : StandingPlacesAreCalled
standing_places_are_called space leads p t set laws s = (called space set leads laws p t s, standing_names space set leads laws t p.host s.way)

pub directories_stand_once : DirectoriesStandOnce
directories_stand_once space leads p t u set laws dir one two =
    one_text space set t u (sym one.mount ∙ two.mount) (host_once space set leads laws (host_text space t) (host_text space u) p.host dir one.way two.way)

pub roots_stand : RootsStand
roots_stand space set = record {
  stands = record { mount = refl; way = root_reached space set; above = λ _. tt };
  firm = directory_firm space.tree (Node (root_source space.table)) (root_directory space set);
}

pub tagged_places_stand : TaggedPlacesStand
tagged_places_stand space k r host guest x set there is free way above = tagged space set k r host guest x there is free way above

-- ---- what stands isn't covered

-- below a mount's own point its names would belong to the mount there, whose location is longer
pub standing_places_are_uncovered : StandingPlacesAreUncovered
standing_places_are_uncovered space p t set own j r q point below there stands mount told is =
    let bindings = texts_of space.table in
    let s = set.points j r q there stands in
    let w = owned space set t in
    let v = owned space set s.up in
    let same : v.mount ≡ w.mount = some_is v.mount w.mount (sym v.there ∙ ap (row space.table) (sym s.mount ∙ mount ∙ own.mount) ∙ w.there) in
    let text : point ≡ q.name ∷ host_text space s.up = some_is point (q.name ∷ host_text space s.up) (sym told ∙ s.text) in
    let up : host_text space s.up ≡ v.rest ++ w.mount.text.source = v.host ∙ ap (λ (x : Row). v.rest ++ x.text.source) same in
    let whole : w.rest ++ w.mount.text.source ≡ (below ++ q.name ∷ v.rest) ++ w.mount.text.source =
    sym w.host ∙ is ∙ ap (λ point. below ++ point) (text ∙ ap (λ up. q.name ∷ up) up) ∙ sym (append_assoc below (q.name ∷ v.rest) w.mount.text.source) in
    let rest : w.rest ≡ below ++ q.name ∷ v.rest = append_cancel_right w.rest (below ++ q.name ∷ v.rest) w.mount.text.source whole in
    let location : r.text.location ≡ (q.name ∷ v.rest) ++ w.mount.text.location = s.location ∙ ap (λ up. q.name ∷ up) (v.parted ∙ ap (λ (x : Row). v.rest ++ x.text.location) same) in
    let parted : t ≡ below ++ r.text.location =
    w.parted ∙ ap (λ rest. rest ++ w.mount.text.location) rest ∙ append_assoc below (q.name ∷ v.rest) w.mount.text.location ∙ ap (λ l. below ++ l) (sym location) in
    let most = w.longest j r below there parted in
    omega (arith, most, ap length location, length-append v.rest w.mount.text.location)
