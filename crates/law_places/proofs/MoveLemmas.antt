-- What a move of a name leaves of ways, of the table and of directories in use.
use Rattle.std.proofs.Common.{◌≡◌, ◌≢◌, ℕ, Bool, true, false, not, List, [], ◌∷◌, Option, Some, None, bytes_eq, nat_eq, refl, sym, ap, subst, ◌∙◌, inl, inr, ◌⊎◌}
use Rattle.std.specs.Prelude.{◌==◌, ◌&&◌, ◌||◌}
use Rattle.std.specs.Bool.{if◌then◌else◌}
use Rattle.std.specs.Option.{option_map_or}
use Rattle.std.proofs.lemmas.Bool.{cases_eq, eq-eqb, eqb-true}
use Rattle.std.proofs.lemmas.Slice.Eq.{bytes_eq-Decides}
use Rattle.kr_calm.specs.pr_base.MountText.{MountText}
use Rattle.kr_calm.specs.pr_base.Texts.{Text}
use Rattle.law_walks.specs.pt_bind.Binding.{host_of, located}
use Rattle.law_walks.specs.kr_inode.declared.standing.Standing.{Standing}
use Rattle.law_walks.specs.kr_inode.declared.user.User.{User}
use Rattle.law_walks.specs.kr_tree.Changes.{moved, renamed, renamed_onto, unlinked}
use Rattle.law_walks.specs.kr_tree.declared.place.Host.{Host}
use Rattle.law_walks.specs.kr_tree.declared.place.Host.TheVariants.{Node, Proc}
use Rattle.law_walks.specs.kr_tree.Lawful.{Below, Here, IsBelow, IsIn}
use Rattle.law_walks.specs.kr_tree.Names.{named}
use Rattle.law_walks.specs.kr_tree.Tree.{Body, Directory, RegularFile, SymbolicLink, ProcessDirectory, Entry, Inode, Inodes, Tree, body, body_is, entries, entries_of, entry, inode, is_directory, is_filled, standing, takes_names}
use Rattle.law_walks.specs.kr_tree.declared.place.ProcAt.{ProcAt}
use Rattle.law_walks.proofs.kr_tree.EntryLemmas.{body_test, filled_body}
use Rattle.law_walks.proofs.kr_tree.NameLemmas.{map_some, some_is, then_some}
use Rattle.law_walks.specs.kr_view.Component.{Finds, Namespace, is_directory_at, is_processes}
use Rattle.law_walks.specs.kr_view.HostReach.{is_link_at, object_in, reaches}
use Rattle.law_walks.specs.kr_view.View.{Row, row}
use Rattle.law_walks.proofs.kr_view.HostReachLemmas.{IsFoundIn, at_top, below_top, entry_in, found_in, inode_reached, last_object, named_alone, object_of_entry}
use Rattle.law_walks.specs.kr_mounts.Standing.{texts_of}
use Rattle.law_walks.specs.kr_model.Conditions.{CanMove}
use Rattle.law_walks.specs.kr_model.ProcessDirectory.{space_of}
use Rattle.law_walks.specs.kr_model.State.{Image, State, inode_of}
use Rattle.law_walks.specs.Standing.{IsOpen}
use Rattle.law_walks.proofs.TableLemmas.{host_none, mount_below}
use Rattle.law_places.specs.Losses.{InodesStay, KeepsAbove, KeepsNames, KeepsTable, KeepsUse, KeepsWay, Losses}
use Rattle.law_places.specs.Moving.{MovesLeaveMost, SparesMove, names_of_move}
use Rattle.law_places.specs.Standing.{PlacesStand}
use Rattle.law_places.specs.Uses.{IsUse, Use}
use Rattle.law_places.proofs.BelowLemmas.{above_within}
use Rattle.law_places.proofs.KeptLemmas.{host_lasts}
use Rattle.law_places.proofs.RemoveLemmas.{some_entry, unfilled}
use Rattle.law_places.proofs.SourceLemmas.{point_at}
use Rattle.law_places.proofs.TreeLemmas.{moved_stays, stay_all, unlinked_stays}

-- ---- the tree

-- where both names are gone
pub renamed_stays : (user : User) (lost : Losses) (m : Inodes) (t : Tree) → InodesStay user lost m t.inodes → (dir : ℕ) (name : List ℕ) (to : ℕ) (new : List ℕ)
    → ((n : List ℕ) → n ≡ name → lost.gone dir n ≡ true) → ((n : List ℕ) → n ≡ new → lost.gone to n ≡ true) → InodesStay user lost m (renamed dir name to new t).inodes
renamed_stays user lost m t before dir name to new one two = by (entry t dir name)
  where
    apart : (i old : ℕ) (b : Bool) → InodesStay user lost m (if b then t else moved dir name to new i (unlinked to new old t)).inodes
    apart i old true = before
    apart i old false = moved_stays user lost m (unlinked to new old t) (unlinked_stays user lost m t before to new old two) dir name to new i one

    onto : (i : ℕ) (o : Option ℕ) → InodesStay user lost m (renamed_onto dir name to new i o t).inodes
    onto i None = moved_stays user lost m t before dir name to new i one
    onto i (Some old) = apart i old (nat_eq i old)

    by : (o : Option ℕ) → InodesStay user lost m (option_map_or (λ i. renamed_onto dir name to new i (entry t to new) t) o t).inodes
    by None = before
    by (Some i) = onto i (entry t to new)

module _ (table : List Row) (s : State ℕ Image) (stand : PlacesStand table s) (dir : ℕ) (name : List ℕ) (to : ℕ) (new : List ℕ) (own : ℕ) (there : entry s.tree dir name ≡ Some own) (can : CanMove table s.tree dir name to new) (spares : SparesMove table s dir name to new) where
  abbrev t : Tree
  t = s.tree

  abbrev space : Namespace
  space = space_of table s

  abbrev finds : Finds
  finds = space.finds

  abbrev lost : Losses
  lost = names_of_move dir name to new

  abbrev bindings : List MountText
  bindings = texts_of table

  abbrev reach : Text → Option Host
  reach h = reaches t s.user finds h

  -- an entry that is neither of the two
  pub not_gone : (d : ℕ) (n : List ℕ) → ¬ ((d ≡ dir) × (n ≡ name)) → ¬ ((d ≡ to) × (n ≡ new)) → lost.gone d n ≡ false
  not_gone d n one two = by (d == dir && bytes_eq n name) (d == to && bytes_eq n new) refl refl
    where
      both : (a : ℕ) (b : List ℕ) → (d == a && bytes_eq n b) ≡ true → (d ≡ a) × (n ≡ b)
      both a b e = let p = parts (d == a) (bytes_eq n b) e in (eqb-true d a p.0, (bytes_eq-Decides n b).0 p.1)
        where
          parts : (p q : Bool) → (p && q) ≡ true → (p ≡ true) × (q ≡ true)
          parts true q e = (refl, e)
          parts false q e = absurd cc

      by : (a b : Bool) → (d == dir && bytes_eq n name) ≡ a → (d == to && bytes_eq n new) ≡ b → (a || b) ≡ false
      by true b e f = absurd (one (both dir name e))
      by false true e f = absurd (two (both to new f))
      by false false e f = refl

  -- ---- what isn't below what moves

  -- below neither of the two
  abbrev pub IsFar : ℕ → Type 0
  IsFar d = (¬ IsBelow t own d) × ((old : ℕ) → entry t to new ≡ Some old → ¬ IsBelow t old d)

  far_up : (n : List ℕ) (d x : Host) → is_directory_at t x ≡ true → object_in t finds n d ≡ Some x → IsFar (inode_of x) → IsFar (inode_of d)
  far_up n d x is_dir e far = (λ below. far.0 (above_within t stand.lawful.tree.sound s.user finds own n d x is_dir e below), λ old at below. far.1 old at (above_within t stand.lawful.tree.sound s.user finds old n d x is_dir e below))

  node_is : (a b : ℕ) → Node a ≡ Node b → a ≡ b
  node_is a b e = cc

  -- what takes names is no process directory
  no_processes : option_map_or is_processes (body t to) false ≡ true → ⊥
  no_processes e = by (body t to) e (sym (body_test takes_names t to) ∙ can.move.takes)
    where
      by : (o : Option Body) → option_map_or is_processes o false ≡ true → option_map_or takes_names o false ≡ true → ⊥
      by None e f = absurd cc
      by (Some (Directory es st)) e f = absurd cc
      by (Some (RegularFile bytes)) e f = absurd cc
      by (Some (SymbolicLink text)) e f = absurd cc
      by (Some (ProcessDirectory st)) e f = absurd cc

  -- a step that leads to what is far isn't gone
  far_step : (n : List ℕ) (h : Text) (l x : Host) → reach h ≡ Some l → object_in t finds n l ≡ Some x → IsFar (inode_of x) → (d : ℕ) → named t h ≡ Some d → lost.gone d n ≡ false
  far_step n h l x way e far d nm =
      let is : l ≡ Node d = named_alone t s.user finds h d l nm way in
      not_gone d n
      (λ same.
      let ends : x ≡ Node own = some_is x (Node own) (sym e ∙ ap (object_in t finds n) is ∙ object_of_entry t finds d n own (ap (λ d. entry t d n) same.0 ∙ ap (entry t dir) same.1 ∙ there)) in
      far.0 (subst (λ x. IsBelow t own (inode_of x)) (sym ends) Here))
      (λ same. other n d x (ap (object_in t finds n) (sym is) ∙ e) far same)
    where
      other : (n : List ℕ) (d : ℕ) (x : Host) → object_in t finds n (Node d) ≡ Some x → IsFar (inode_of x) → (d ≡ to) × (n ≡ new) → ⊥
      other n d (Node j) e far same =
          let at = entry_in t finds n (Node d) j e in
          let ino : d ≡ at.ino = node_is d at.ino at.is in
          far.1 j (ap (entry t to) (sym same.1) ∙ ap (λ d. entry t d n) (sym same.0 ∙ ino) ∙ at.there) Here
      other n d (Proc j at) e far same = processes n d (Node d) j at refl (found_in t finds n (Node d) j at e) same
        where
          processes : (n : List ℕ) (d : ℕ) (y : Host) (j : ℕ) (at : ProcAt) → y ≡ Node d → IsFoundIn t finds n j at y → (d ≡ to) × (n ≡ new) → ⊥
          processes n d _ j at y_is (at_top is found) same = no_processes (sym (body_test is_processes t to) ∙ ap (body_is is_processes t) (sym same.0 ∙ sym (node_is j d y_is)) ∙ is)
          processes n d _ j at y_is (below_top up found) same = absurd cc

  pub way_far : (h : Text) (x : Host) → reach h ≡ Some x → is_directory_at t x ≡ true → IsFar (inode_of x) → KeepsWay lost t h
  way_far [] x way is_dir far = tt
  way_far (n ∷ h) x way is_dir far =
      let l = last_object t s.user finds h n x way in
      (λ d nm. (far_step n h l.dir x l.way l.there far d nm, refl), way_far h l.dir l.way l.is_dir (far_up n l.dir x is_dir l.there far))

  -- a name in a directory that isn't below what moves, if it is neither of the two
  entry_far : (n : List ℕ) (h : Text) (d : ℕ) (x : Host) → reach (n ∷ h) ≡ Some x → reach h ≡ Some (Node d) → ¬ ((d ≡ dir) × (n ≡ name)) → ¬ ((d ≡ to) × (n ≡ new)) → IsFar d → KeepsWay lost t (n ∷ h)
  entry_far n h d x way up one two far =
      let l = last_object t s.user finds h n x way in
      let is : l.dir ≡ Node d = some_is l.dir (Node d) (sym l.way ∙ up) in (
        λ e nm.
            let nodes : Node d ≡ Node e = named_alone t s.user finds h e (Node d) nm up in
            let same : d ≡ e = cc in
            (subst (λ d. lost.gone d n ≡ false) same (not_gone d n one two), refl),
        way_far h (Node d) up (ap (is_directory_at t) (sym is) ∙ l.is_dir) far,
      )

  -- what is named, where it isn't below what moves
  names_far : (h : Text) (d : ℕ) → named t h ≡ Some d → is_directory_at t (Node d) ≡ true → IsFar d → KeepsNames lost t h
  names_far [] d n is_dir far = tt
  names_far (c ∷ h) d n is_dir far =
      let up = then_some (λ dir. entry t dir c) (named t h) d n in
      let filled = filled_body t up.0 c d up.2 in
      let high : is_directory_at t (Node up.0) ≡ true = body_test is_directory t up.0 ∙ ap (λ o. option_map_or is_directory o false) filled.2 in (
        λ e nm. not_gone e c
            (λ same. far.0 (subst (IsBelow t own) (ends e nm same up) Here))
            (λ same. far.1 d (ap (entry t to) (sym same.1) ∙ ap (λ k. entry t k c) (sym same.0 ∙ sym (some_is up.0 e (sym up.1 ∙ nm))) ∙ up.2) Here),
        names_far h up.0 up.1 high (far_up c (Node up.0) (Node d) is_dir (object_of_entry t finds up.0 c d up.2) far),
      )
    where
      ends : (e : ℕ) → named t h ≡ Some e → (e ≡ dir) × (c ≡ name) → (up : (x : ℕ) × (named t h ≡ Some x) × (entry t x c ≡ Some d)) → own ≡ d
      ends e nm same up = some_is own d (sym there ∙ ap (entry t dir) (sym same.1) ∙ ap (λ k. entry t k c) (sym same.0 ∙ sym (some_is up.0 e (sym up.1 ∙ nm))) ∙ up.2)

  -- ---- what isn't below what is replaced

  -- what stands below an inode that isn't filled is that inode
  unfilled_below : (i d : ℕ) → body_is is_filled t i ≡ false → IsBelow t i d → d ≡ i
  unfilled_below i d empty Here = refl
  unfilled_below i d empty (Below {up = up} away at below) =
      let is : up ≡ i = unfilled_below i up empty below in
      let st = map_some (λ (x : Standing). x.inode) (standing t d) up at in
      let e = stand.lawful.tree.sound.stands d st.0 away st.1 in
      absurd (unfilled_in (inode t i) empty _ (subst (λ j. IsIn (record { name = e.0; serial = st.0.serial; inode = d }) (entries t j)) (st.2 ∙ is) e.1))
    where
      of : (b : Body) → is_filled b ≡ false → (e : Entry) → IsIn e (entries_of b) → ⊥
      of (Directory [] st) empty e in_ = in_
      of (Directory (x ∷ es) st) empty e in_ = absurd cc
      of (RegularFile bytes) empty e in_ = in_
      of (SymbolicLink text) empty e in_ = in_
      of (ProcessDirectory st) empty e in_ = in_

      unfilled_in : (o : Option Inode) → option_map_or (λ (x : Inode). is_filled x.node.body) o false ≡ false → (e : Entry) → IsIn e (option_map_or (λ (x : Inode). entries_of x.node.body) o []) → ⊥
      unfilled_in None empty e in_ = in_
      unfilled_in (Some x) empty e in_ = of x.node.body empty e in_

  -- a directory with an entry isn't below what is replaced, if it isn't below what moves
  pub far_filled : (d : ℕ) (n : List ℕ) (j : ℕ) → entry t d n ≡ Some j → ¬ IsBelow t own d → IsFar d
  far_filled d n j e away = (away, λ old at below. by old at below (cases_eq old own))
    where
      by : (old : ℕ) → entry t to new ≡ Some old → IsBelow t old d → (old ≡ own) ⊎ (old ≢ own) → ⊥
      by old at below (inl same) = away (subst (λ i. IsBelow t i d) same below)
      by old at below (inr other) =
          let empty = (can.move.like old at (λ e. other (e ∙ some_is can.move.moved own (sym can.move.there ∙ there)))).1 in
          let is = unfilled_below old d empty below in
          unfilled t old empty n j (ap (λ d. entry t d n) (sym is) ∙ e)

  -- ---- the table

  pub table_far : KeepsTable lost space
  table_far = record {
    sources = λ k r row_there. source k r row_there r.text.source refl;
    points = λ k r n up row_there at.
        let p = point_at space stand.settled k r n up row_there at in
        let stands = stand.settled.mounts.points k r p.point row_there p.stands in
        let e = some_entry (entry t p.point.dir p.point.name) stands.there in
        let filled = filled_body t p.point.dir p.point.name e.0 e.1 in
        let is_dir : is_directory_at t (Node p.point.dir) ≡ true = body_test is_directory t p.point.dir ∙ ap (λ o. option_map_or is_directory o false) filled.2 in
        names_far (host_of bindings up) p.point.dir p.dir is_dir (far_filled p.point.dir p.point.name e.0 e.1 ((spares.rows own there k r row_there).1 p.point p.stands));
  }
    where
      source : (k : ℕ) (r : Row) → row table k ≡ Some r → (h : Text) → r.text.source ≡ h → KeepsWay lost t h
      source k r row_there [] e = tt
      source k r row_there (n ∷ up) e =
          let named_ = stand.sources k r n up row_there e in
          let way = ap reach (sym e) ∙ inode_reached t s.user finds r.text.source r.source (stand.settled.sources k r row_there) in
          let l = last_object t s.user finds up n (Node r.source) way in
          let dir_is : l.dir ≡ Node r.source_dir = named_alone t s.user finds up r.source_dir l.dir named_.1 l.way in
          let at = entry_in t finds n l.dir r.source l.there in
          let nodes : Node r.source_dir ≡ Node at.ino = sym dir_is ∙ at.is in
          let ino : r.source_dir ≡ at.ino = cc in
          entry_far n up r.source_dir (Node r.source) way (l.way ∙ ap Some dir_is)
          (λ same. spares.old_source k r row_there same.0 (named_.0 ∙ same.1)) (λ same. spares.new_source k r row_there same.0 (named_.0 ∙ same.1))
          (far_filled r.source_dir n r.source (ap (λ d. entry t d n) ino ∙ at.there) (spares.rows own there k r row_there).0)

  -- ---- directories in use

  above_far : (g : Text) (x : Host) → reach (host_of bindings g) ≡ Some x → is_directory_at t x ≡ true → IsFar (inode_of x) → IsOpen space g → KeepsAbove lost space g
  above_far [] x way is_dir far ways = tt
  above_far (n ∷ y) x way is_dir far ways =
      let up = ways.0 in
      let away = by (located bindings (n ∷ y)) refl in
      (way_far (host_of bindings y) up.dir up.way up.is_dir away, λ d nm. refl, above_far y up.dir up.way up.is_dir away ways.1)
    where
      by : (o : Option ℕ) → located bindings (n ∷ y) ≡ o → IsFar (inode_of ways.0.dir)
      by None e =
          let l = last_object t s.user finds (host_of bindings y) n x (ap reach (sym (host_none bindings n y e)) ∙ way) in
          subst (λ (d : Host). IsFar (inode_of d)) (some_is l.dir ways.0.dir (sym l.way ∙ ways.0.way)) (far_up n l.dir x is_dir l.there far)
      by (Some k) e =
          let m = mount_below space stand.settled n y k e in
          let node : ways.0.dir ≡ Node m.point.dir = named_alone t s.user finds (host_of bindings y) m.point.dir ways.0.dir m.dir ways.0.way in
          let stands = stand.settled.mounts.points k m.mount m.point m.there m.stands in
          let f = some_entry (entry t m.point.dir m.point.name) stands.there in
          subst (λ (d : Host). IsFar (inode_of d)) (sym node) (far_filled m.point.dir m.point.name f.0 f.1 ((spares.rows own there k m.mount m.there).1 m.point m.stands))

  pub directory_far : (x : Use) → IsUse s x → x.is_directory ≡ true → KeepsUse lost space x
  directory_far x is is_dir = record {
    host = λ called. host_lasts lost t x.place.host ((stand.uses x is).called called).1.on.firm (λ pid. refl);
    guest = λ called guest at.
        let far : IsFar (inode_of x.place.host) = (spares.moved own there x is is_dir, λ old e. spares.replaced old e x is is_dir) in
        record { way = way_far (host_of bindings guest) x.place.host at.on.stands.way (at.kind ∙ is_dir) far; above = λ _. above_far guest x.place.host at.on.stands.way (at.kind ∙ is_dir) far (at.on.stands.above (at.kind ∙ is_dir)) };
  }

  -- what is no directory, where its entry is neither of the two and its directory isn't below what moves
  pub file_far : (x : Use) → IsUse s x → x.is_directory ≡ false → ¬ ((x.dir ≡ dir) × (x.name ≡ name)) → ¬ ((x.dir ≡ to) × (x.name ≡ new)) → ¬ IsBelow t own x.dir → KeepsUse lost space x
  file_far x is file one two away = record {
    host = λ called. host_lasts lost t x.place.host ((stand.uses x is).called called).1.on.firm (λ pid. refl);
    guest = λ called guest at.
        let en = at.entry file in
        let way = ap reach (sym en.text) ∙ at.on.stands.way in
        let l = last_object t s.user finds en.up x.name x.place.host way in
        let is_ : l.dir ≡ Node x.dir = some_is l.dir (Node x.dir) (sym l.way ∙ en.way) in
        record { way = subst (KeepsWay lost t) (sym en.text) (entry_far x.name en.up x.dir x.place.host way en.way one two (far_entered x.dir x.name x.place.host (at.kind ∙ file) at.on.firm (ap (object_in t finds x.name) (sym is_) ∙ l.there) away)); above = λ d. let clash : true ≡ false = sym d ∙ file in absurd cc };
  }
    where
      far_entered : (d : ℕ) (n : List ℕ) (y : Host) → is_directory_at t y ≡ false → is_link_at t y ≡ false → object_in t finds n (Node d) ≡ Some y → ¬ IsBelow t own d → IsFar d
      far_entered d n (Node j) flat firm e away =
          let at = entry_in t finds n (Node d) j e in
          let ino : Node d ≡ Node at.ino = at.is in
          let same : d ≡ at.ino = cc in
          far_filled d n j (ap (λ d. entry t d n) same ∙ at.there) away
      far_entered d n (Proc j at) flat firm e away = let clash : true ≡ false = sym (ap not flat) ∙ firm in absurd cc

-- ---- what a move leaves

pub gone_one : (dir : ℕ) (name : List ℕ) (to : ℕ) (new n : List ℕ) → n ≡ name → (names_of_move dir name to new).gone dir n ≡ true
gone_one dir name to new n e = ap (λ b. b || (dir == to && bytes_eq n new)) (ap (λ b. b && bytes_eq n name) (eq-eqb dir dir refl) ∙ (bytes_eq-Decides n name).1 e)

pub gone_two : (dir : ℕ) (name : List ℕ) (to : ℕ) (new n : List ℕ) → n ≡ new → (names_of_move dir name to new).gone to n ≡ true
gone_two dir name to new n e = right (to == dir && bytes_eq n name) (ap (λ b. b && bytes_eq n new) (eq-eqb to to refl) ∙ (bytes_eq-Decides n new).1 e)
  where
    right : (a : Bool) {b : Bool} → b ≡ true → (a || b) ≡ true
    right true e = refl
    right false e = e

pub moves_leave_most : MovesLeaveMost
moves_leave_most table s dir name to new own stand there can spares = record {
  inodes = renamed_stays s.user (names_of_move dir name to new) s.tree.inodes s.tree (stay_all s.user (names_of_move dir name to new) s.tree.inodes) dir name to new (gone_one dir name to new) (gone_two dir name to new);
  rows = table_far table s stand dir name to new own there can spares;
  directories = directory_far table s stand dir name to new own there can spares;
  files = file_far table s stand dir name to new own there can spares;
}
