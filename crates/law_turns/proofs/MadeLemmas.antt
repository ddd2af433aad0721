-- A file that is made in a directory that stands, and that the user may search, stands at the name below the directory's guest text.
use Rattle.std.proofs.Common.{◌≡◌, ◌≢◌, ℕ, Bool, true, false, cond, List, [], ◌∷◌, ◌++◌, Option, Some, None, refl, sym, ap, ◌∙◌, arith}
use Rattle.std.specs.Prelude.{IsSome, bytes_eq}
use Rattle.std.specs.Option.{option_map, option_map_or, option_or}
use Rattle.std.proofs.lemmas.List.Folds.{find-append}
use Rattle.std.proofs.lemmas.Slice.Eq.{bytes_eq-Decides}
use Rattle.kr_core.proofs.pr_base.MapLemmas.{get-changed_same, get-insert_other, get-insert_same}
use Rattle.kr_core.specs.pr_base.Texts.{Text}
use Rattle.pt_results.specs.pt_bind.Binding.{host_of, located}
use Rattle.law_places.specs.kr_inode.declared.user.Right.TheVariants.{Search}
use Rattle.law_places.specs.kr_inode.declared.user.User.{User}
use Rattle.kr_core.specs.kr_tree.Changes.{added, with_entries, with_entry, with_inode}
use Rattle.kr_core.specs.kr_tree.Rights.{allows, may}
use Rattle.kr_core.specs.kr_tree.Tree.{Body, Directory, Entry, Inode, ProcessDirectory, RegularFile, SymbolicLink, Tree, body_is, entries_of, entry, entry_named, inode, is_directory, takes_names}
use Rattle.kr_core.specs.kr_tree.Names.{is_name}
use Rattle.kr_core.specs.kr_tree.declared.place.Host.TheVariants.{Node}
use Rattle.kr_core.specs.kr_tree.declared.place.Place.{Place}
use Rattle.kr_core.proofs.kr_tree.EntryLemmas.{reached-named}
use Rattle.kr_core.proofs.kr_tree.NameLemmas.{some_is}
use Rattle.kr_core.proofs.law_lawful.ChangeLemmas.{every-change-keeps}
use Rattle.law_places.specs.kr_mounts.Standing.{texts_of}
use Rattle.law_places.specs.kr_view.Component.{Namespace, is_directory_at, may_search}
use Rattle.law_places.specs.kr_view.Laws.{is_link}
use Rattle.law_places.specs.kr_view.View.{Row}
use Rattle.law_places.proofs.kr_view.HostReachLemmas.{object_more, object_of_entry}
use Rattle.law_places.proofs.kr_view.TableLemmas.{there_is}
use Rattle.law_places.specs.kr_model.Applied.{Mounts, applied, images}
use Rattle.law_places.specs.kr_model.Change.{Change, AddNode}
use Rattle.law_places.specs.kr_model.Conditions.{CanAdd}
use Rattle.law_places.specs.kr_model.Lawful.{IsLawful}
use Rattle.law_places.specs.kr_model.ProcessDirectory.{space_of}
use Rattle.law_places.specs.kr_model.State.{Image, State, process}
use Rattle.law_places.specs.law_walks.Settled.{host_text}
use Rattle.law_places.specs.law_walks.Standing.{StandsOn, reached_in}
use Rattle.law_places.proofs.law_walks.StandingLemmas.{node_reached}
use Rattle.law_places.proofs.law_walks.TableLemmas.{host_none, mount_below, owner_none}
use Rattle.law_places.specs.Standing.{PlacesStand, StandsAs, UseStands}
use Rattle.law_places.specs.Uses.{Use}
use Rattle.law_places.proofs.ChangeLemmas.{change_carries, change_keeps}
use Rattle.law_turns.proofs.FoundLemmas.{IsFound, file_use}

none_some : {A B : Type 0} {a : A} → None ≡ Some a → B
none_some e = absurd cc

-- ---- a tree with one node more

inode_there : (test : Body → Bool) (t : Tree) (i : ℕ) → body_is test t i ≡ true → (x : Inode) × (inode t i ≡ Some x) × (test x.node.body ≡ true)
inode_there test t i is = by (inode t i) refl is
  where
    by : (o : Option Inode) → inode t i ≡ o → option_map_or (λ (x : Inode). test x.node.body) o false ≡ true → (x : Inode) × (inode t i ≡ Some x) × (test x.node.body ≡ true)
    by None e is = absurd cc
    by (Some x) e is = (x, e, is)

module _ (d : ℕ) (name : List ℕ) (mode uid gid : ℕ) (t : Tree) where
  abbrev body : Body
  body = RegularFile []

  abbrev pub more : Tree
  more = added d name mode uid gid body t

  -- the new node is a file
  pub new_is : (test : Body → Bool) → body_is test more t.next ≡ test (RegularFile [])
  new_is test = ap (λ o. option_map_or (λ (x : Inode). test x.node.body) o false) (get-insert_same (with_inode d (with_entry name t.next false) t.inodes) t.next _)

  -- an older one has an entry more if it is the directory, and the same rights
  dir_more : (x : Inode) → inode t d ≡ Some x → d ≢ t.next → inode more d ≡ Some (with_entry name t.next false x)
  dir_more x there other = get-insert_other (with_inode d (with_entry name t.next false) t.inodes) t.next _ d other ∙ get-changed_same t.inodes d (with_entry name t.next false) ∙ ap (option_map (with_entry name t.next false)) there

  search_more : (user : User) (x : Inode) → inode t d ≡ Some x → d ≢ t.next → may t user d Search ≡ may more user d Search
  search_more user x there other = ap (λ o. option_map_or (λ n. allows user n Search) (option_map (λ (x : Inode). x.node) o) false) there ∙ sym (ap (λ o. option_map_or (λ n. allows user n Search) (option_map (λ (x : Inode). x.node) o) false) (dir_more x there other))

  -- under a name that was free
  module _ (free : entry t d name ≡ None) where
    abbrev pub fresh_entry : Inode → Entry
    fresh_entry x = record { name = name; serial = x.next_serial; inode = t.next }

    none_named : (o : Option Entry) → option_map (λ (e : Entry). e.inode) o ≡ None → o ≡ None
    none_named None none = refl
    none_named (Some e) none = absurd cc

    named_last : (x : Inode) (es : List Entry) → entry_named name es ≡ None → option_map (λ (e : Entry). e.inode) (entry_named name (es ++ fresh_entry x ∷ [])) ≡ Some t.next
    named_last x es none =
        ap (option_map (λ (e : Entry). e.inode)) (find-append (λ (e : Entry). bytes_eq name e.name) es (fresh_entry x ∷ []) ∙ ap (λ o. option_or o (entry_named name (fresh_entry x ∷ []))) none)
        ∙ ap (λ b. option_map (λ (e : Entry). e.inode) (cond b (Some (fresh_entry x)) None)) ((bytes_eq-Decides name name).1 refl)

    pub entry_more : (x : Inode) → inode t d ≡ Some x → takes_names x.node.body ≡ true → d ≢ t.next → entry more d name ≡ Some t.next
    entry_more x there takes other =
        ap (λ o. option_map (λ (e : Entry). e.inode) (entry_named name (option_map_or (λ (x : Inode). entries_of x.node.body) o []))) (dir_more x there other)
        ∙ by x.node.body takes (sym (ap (λ o. option_map (λ (e : Entry). e.inode) (entry_named name (option_map_or (λ (x : Inode). entries_of x.node.body) o []))) there) ∙ free)
      where
        by : (b : Body) → takes_names b ≡ true → option_map (λ (e : Entry). e.inode) (entry_named name (entries_of b)) ≡ None → option_map (λ (e : Entry). e.inode) (entry_named name (entries_of (with_entries (λ es. es ++ fresh_entry x ∷ []) b))) ≡ Some t.next
        by (Directory es st) takes none = named_last x es (none_named (entry_named name es) none)
        by (RegularFile bytes) takes none = absurd cc
        by (SymbolicLink text) takes none = absurd cc
        by (ProcessDirectory st) takes none = absurd cc

-- ---- in a state

takes_directory : (b : Body) → takes_names b ≡ true → is_directory b ≡ true
takes_directory (Directory es st) takes = refl
takes_directory (RegularFile bytes) takes = absurd cc
takes_directory (SymbolicLink text) takes = absurd cc
takes_directory (ProcessDirectory st) takes = absurd cc

not_empty : (name : List ℕ) → is_name name ≡ true → name ≢ []
not_empty [] well = absurd cc
not_empty (b ∷ name) well = λ e. absurd cc

module _ (table : List Row) (mounts : Mounts ℕ) (pid : ℕ) (t : State ℕ Image) (stand : PlacesStand table t) (lives : IsSome (process pid t)) (d : ℕ) (name : List ℕ) (mode uid gid : ℕ) (can : CanAdd t.tree d name mode (RegularFile [])) where
  abbrev adds : Change
  adds = AddNode d name mode uid gid (RegularFile [])

  abbrev pub after : State ℕ Image
  after = applied images mounts pid adds t

  lawful : IsLawful (λ m. m) table after
  lawful = every-change-keeps ℕ (λ m. m) table mounts pid adds t stand.lawful lives can

  later : PlacesStand table after
  later = change_keeps table mounts pid t stand adds refl tt lawful

  abbrev space : Namespace
  space = space_of table after

  own : (x : Inode) × (inode t.tree d ≡ Some x) × (takes_names x.node.body ≡ true)
  own = inode_there takes_names t.tree d can.named.takes

  dir : is_directory_at t.tree (Node d) ≡ true
  dir = ap (λ o. option_map_or (λ (x : Inode). is_directory x.node.body) o false) own.1 ∙ takes_directory own.0.node.body own.2

  elsewhere : d ≢ t.tree.next
  elsewhere same = let low = (stand.lawful.tree.sound.numbered d own.0 own.1).1 in absurd (omega (arith, low, same))

  there_now : entry after.tree d name ≡ Some t.tree.next
  there_now = entry_more d name mode uid gid t.tree can.named.free own.0 own.1 own.2 elsewhere

  -- a mount point has an entry, so no mount is located at the name
  unlocated : (guest : Text) → reached_in space (host_text space guest) ≡ Some (Node d) → located (texts_of table) (name ∷ guest) ≡ None
  unlocated guest way = by (located (texts_of table) (name ∷ guest)) refl
    where
      by : (o : Option ℕ) → located (texts_of table) (name ∷ guest) ≡ o → o ≡ None
      by None l = refl
      by (Some k) l =
          let m = mount_below space later.settled name guest k l in
          let is : m.point.dir ≡ d = some_is m.point.dir d (sym m.dir ∙ reached-named after.tree after.user (host_text space guest) d (node_reached space later.settled (host_text space guest) d way)) in
          let e = there_is (entry t.tree m.point.dir m.point.name) (stand.settled.mounts.points k m.mount m.point m.there m.stands).there in
          none_some (sym can.named.free ∙ ap (λ n. entry t.tree d n) (sym m.called) ∙ ap (λ i. entry t.tree i m.point.name) (sym is) ∙ e.1)

  module _ (m : ℕ) (guest : Text) (on : StandsOn (space_of table t) (record { mount = m; host = Node d }) guest) (search : may_search t.tree t.user (Node d) ≡ true) where
    abbrev place : Place ℕ
    place = record { mount = m; host = Node d }

    abbrev entered : Use
    entered = record { place = place; is_directory = true; dir = 0; name = [] }

    -- the directory still stands somewhere
    still : (g : Text) × StandsAs space entered g
    still =
        let before : UseStands (space_of table t) entered = record { called = λ called. (guest, record { on = on; kind = dir; entry = λ file. absurd cc }); nameless = λ none. absurd cc } in
        (change_carries table mounts pid t stand adds entered refl tt lawful before).called refl

    abbrev host : Text
    host = host_of (texts_of table) still.0

    free_there : located (texts_of table) (name ∷ still.0) ≡ None
    free_there = unlocated still.0 still.1.on.stands.way

    way : reached_in space (name ∷ host) ≡ Some (Node t.tree.next)
    way =
        object_more after.tree after.user space.finds host name (Node d) (Node t.tree.next) still.1.on.stands.way still.1.kind
        (sym (search_more d name mode uid gid t.tree t.user own.0 own.1 elsewhere) ∙ search) (object_of_entry after.tree space.finds d name t.tree.next there_now)

    made : IsFound space (record { mount = m; host = Node t.tree.next }) (d, name)
    made = record {
      guest = name ∷ still.0;
      on = record {
        stands = record {
          mount = still.1.on.stands.mount ∙ sym (owner_none (texts_of table) name still.0 free_there);
          way = ap (reached_in space) (host_none (texts_of table) name still.0 free_there) ∙ way;
          above = λ is. absurd (no (sym is ∙ new_is d name mode uid gid t.tree is_directory));
        };
        firm = new_is d name mode uid gid t.tree is_link;
      };
      entry = λ file. record { up = host; text = host_none (texts_of table) name still.0 free_there; way = still.1.on.stands.way };
      called = λ file. not_empty name can.named.well_formed;
    }
      where
        no : true ≡ false → ⊥
        no e = cc

    -- and the new file at the name below it
    pub made_use : UseStands space (record { place = record { mount = m; host = Node t.tree.next }; is_directory = false; dir = d; name = name })
    made_use = file_use space (record { mount = m; host = Node t.tree.next }) (d, name) made (new_is d name mode uid gid t.tree is_directory)
