-- What each change of a tree leaves of its inodes.
use Rattle.std.specs.FinMap as map
use Rattle.std.proofs.Common.{◌≡◌, ℕ, ◌+◌, ◌-◌, Bool, true, false, List, [], ◌∷◌, ◌++◌, Option, Some, None, refl, sym, ap, subst, ◌∙◌, cond, bytes_eq}
use Rattle.std.specs.Option.{option_map, option_map_or, option_or}
use Rattle.std.proofs.lemmas.Bool.{false_from_ne_true}
use Rattle.std.proofs.lemmas.List.Folds.{find-append}
use Rattle.std.proofs.lemmas.Slice.Eq.{bytes_eq-Decides}
use Rattle.kr_calm.proofs.pr_base.MapLemmas.{by_key, get-changed_other, get-changed_same, get-insert_other, get-remove_same}
use Rattle.law_walks.specs.kr_inode.declared.user.User.{User}
use Rattle.law_walks.specs.kr_inode.declared.user.Right.TheVariants.{Search}
use Rattle.law_walks.specs.kr_inode.declared.standing.Standing.{Standing}
use Rattle.law_walks.proofs.kr_inode.EntryLemmas.{named-without}
use Rattle.law_walks.specs.kr_tree.Changes.{added, bytes_set, held, linked, mode_set, moved, next_standing, owner_set, released, removed, unlinked, unnamed, with_body, with_bytes, with_entries, with_entry, with_holds, with_inode, with_mode, with_names, with_owner, with_standing, without_entry, without_name, without_unused, is_unused_at}
use Rattle.law_walks.specs.kr_tree.Rights.{allows}
use Rattle.law_walks.specs.kr_tree.Tree.{Body, Directory, RegularFile, SymbolicLink, ProcessDirectory, Entry, Inode, Inodes, Tree, body_is, entries_of, entry, entry_named, is_directory}
use Rattle.law_walks.proofs.kr_tree.InodesLemmas.{get-unused_other}
use Rattle.law_walks.proofs.kr_tree.NameLemmas.{map_some, some_is}
use Rattle.law_walks.specs.kr_view.Component.{is_processes}
use Rattle.law_walks.specs.kr_view.Laws.{is_link}
use Rattle.law_places.specs.Losses.{InodeStays, InodesStay, Losses}

-- the inode under a name among the entries of a body
abbrev pub under : List ℕ → Body → Option ℕ
under name b = option_map (λ (e : Entry). e.inode) (entry_named name (entries_of b))

module _ (user : User) (lost : Losses) where
  abbrev S : ℕ → Inode → Inode → Type 0
  S = InodeStays user lost

  stays_same : (i : ℕ) (x : Inode) → S i x x
  stays_same i x = record { directory = refl; processes = refl; link = refl; search = λ kept e. e; entries = λ name j e kept. e }

  stays_on : (i : ℕ) (x y z : Inode) → S i x y → S i y z → S i x z
  stays_on i x y z a b = record {
    directory = b.directory ∙ a.directory;
    processes = b.processes ∙ a.processes;
    link = b.link ∙ a.link;
    search = λ kept e. b.search kept (a.search kept e);
    entries = λ name j e kept. b.entries name j (a.entries name j e kept) kept;
  }

  pub stay_all : (m : Inodes) → InodesStay user lost m m
  stay_all m i x y at_x at_y = subst (λ z. S i x z) (some_is x y (sym at_x ∙ at_y)) (stays_same i x)

  -- one inode changed
  stay_with : (m n : Inodes) (k : ℕ) (F : Inode → Inode) → InodesStay user lost m n → ((y : Inode) → map.get n k ≡ Some y → S k y (F y)) → InodesStay user lost m (with_inode k F n)
  stay_with m n k F before one i x y at_x =
      by_key (λ i. map.get m i ≡ Some x → map.get (with_inode k F n) i ≡ Some y → S i x y) k
      (λ at_x at_y.
      let z = map_some F (map.get n k) y (sym (get-changed_same n k F) ∙ at_y) in
      subst (λ w. S k x w) z.2 (stays_on k x z.0 (F z.0) (before k x z.0 at_x z.1) (one z.0 z.1)))
      (λ q away at_x at_y. before q x y at_x (sym (get-changed_other n k F q away) ∙ at_y)) i at_x

  -- one inode dropped
  stay_drop : (m n : Inodes) (k : ℕ) → InodesStay user lost m n → InodesStay user lost m (without_unused k n)
  stay_drop m n k before i x y at_x =
      by_key (λ i. map.get m i ≡ Some x → map.get (without_unused k n) i ≡ Some y → S i x y) k
      (λ at_x at_y. before k x y at_x (here (is_unused_at k n) at_y))
      (λ q away at_x at_y. before q x y at_x (sym (get-unused_other n k q away) ∙ at_y)) i at_x
    where
      here : (b : Bool) → map.get (cond b (map.remove n k) n) k ≡ Some y → map.get n k ≡ Some y
      here true e = let no : None ≡ Some y = sym (get-remove_same n k) ∙ e in absurd cc
      here false e = e

  -- one inode more
  stay_insert : (m n : Inodes) (k : ℕ) (z : Inode) → map.get m k ≡ None → InodesStay user lost m n → InodesStay user lost m (map.insert n k z)
  stay_insert m n k z free before i x y at_x =
      by_key (λ i. map.get m i ≡ Some x → map.get (map.insert n k z) i ≡ Some y → S i x y) k
      (λ at_x at_y. let no : None ≡ Some x = sym free ∙ at_x in absurd cc)
      (λ q away at_x at_y. before q x y at_x (sym (get-insert_other n k z q away) ∙ at_y)) i at_x

  -- ---- one inode

  -- a body changed by f, which leaves its kind, and of its entries what isn't gone
  record IsQuiet (k : ℕ) (f : Body → Body) : Type 0 where
    pub directory : (b : Body) → is_directory (f b) ≡ is_directory b
    pub processes : (b : Body) → is_processes (f b) ≡ is_processes b
    pub link : (b : Body) → is_link (f b) ≡ is_link b
    pub entries : (b : Body) (name : List ℕ) (j : ℕ) → under name b ≡ Some j → lost.gone k name ≡ false → under name (f b) ≡ Some j

  -- an inode with another body, and the same mode and owner
  quiet_stays : (k : ℕ) (f : Body → Body) (y z : Inode) → z.node.body ≡ f y.node.body → (allows user y.node Search ≡ true → allows user z.node Search ≡ true) → IsQuiet k f → S k y z
  quiet_stays k f y z is search q = record {
    directory = ap is_directory is ∙ q.directory y.node.body;
    processes = ap is_processes is ∙ q.processes y.node.body;
    link = ap is_link is ∙ q.link y.node.body;
    search = λ kept e. search e;
    entries = λ name j e kept. ap (under name) is ∙ q.entries y.node.body name j e kept;
  }

  bytes_quiet : (k : ℕ) (f : List ℕ → List ℕ) → IsQuiet k (with_bytes f)
  bytes_quiet k f = record {
    directory = λ b. elim b as (λ b. is_directory (with_bytes f b) ≡ is_directory b) [ Directory es st ↦ refl | RegularFile bytes ↦ refl | SymbolicLink text ↦ refl | ProcessDirectory st ↦ refl ];
    processes = λ b. elim b as (λ b. is_processes (with_bytes f b) ≡ is_processes b) [ Directory es st ↦ refl | RegularFile bytes ↦ refl | SymbolicLink text ↦ refl | ProcessDirectory st ↦ refl ];
    link = λ b. elim b as (λ b. is_link (with_bytes f b) ≡ is_link b) [ Directory es st ↦ refl | RegularFile bytes ↦ refl | SymbolicLink text ↦ refl | ProcessDirectory st ↦ refl ];
    entries = λ b name j e kept. ap (λ es. option_map (λ (e : Entry). e.inode) (entry_named name es)) (same b) ∙ e;
  }
    where
      same : (b : Body) → entries_of (with_bytes f b) ≡ entries_of b
      same (Directory es st) = refl
      same (RegularFile bytes) = refl
      same (SymbolicLink text) = refl
      same (ProcessDirectory st) = refl

  standing_quiet : (k : ℕ) (s : Option Standing) → IsQuiet k (with_standing s)
  standing_quiet k s = record {
    directory = λ b. elim b as (λ b. is_directory (with_standing s b) ≡ is_directory b) [ Directory es st ↦ refl | RegularFile bytes ↦ refl | SymbolicLink text ↦ refl | ProcessDirectory st ↦ refl ];
    processes = λ b. elim b as (λ b. is_processes (with_standing s b) ≡ is_processes b) [ Directory es st ↦ refl | RegularFile bytes ↦ refl | SymbolicLink text ↦ refl | ProcessDirectory st ↦ refl ];
    link = λ b. elim b as (λ b. is_link (with_standing s b) ≡ is_link b) [ Directory es st ↦ refl | RegularFile bytes ↦ refl | SymbolicLink text ↦ refl | ProcessDirectory st ↦ refl ];
    entries = λ b name j e kept. ap (λ es. option_map (λ (e : Entry). e.inode) (entry_named name es)) (same b) ∙ e;
  }
    where
      same : (b : Body) → entries_of (with_standing s b) ≡ entries_of b
      same (Directory es st) = refl
      same (RegularFile bytes) = refl
      same (SymbolicLink text) = refl
      same (ProcessDirectory st) = refl

  -- entries changed by f, which leaves what isn't gone
  entries_quiet : (k : ℕ) (f : List Entry → List Entry) → ((es : List Entry) (name : List ℕ) (e : Entry) → entry_named name es ≡ Some e → lost.gone k name ≡ false → entry_named name (f es) ≡ Some e) → IsQuiet k (with_entries f)
  entries_quiet k f keeps = record {
    directory = λ b. elim b as (λ b. is_directory (with_entries f b) ≡ is_directory b) [ Directory es st ↦ refl | RegularFile bytes ↦ refl | SymbolicLink text ↦ refl | ProcessDirectory st ↦ refl ];
    processes = λ b. elim b as (λ b. is_processes (with_entries f b) ≡ is_processes b) [ Directory es st ↦ refl | RegularFile bytes ↦ refl | SymbolicLink text ↦ refl | ProcessDirectory st ↦ refl ];
    link = λ b. elim b as (λ b. is_link (with_entries f b) ≡ is_link b) [ Directory es st ↦ refl | RegularFile bytes ↦ refl | SymbolicLink text ↦ refl | ProcessDirectory st ↦ refl ];
    entries = keep;
  }
    where
      keep : (b : Body) (name : List ℕ) (j : ℕ) → under name b ≡ Some j → lost.gone k name ≡ false → under name (with_entries f b) ≡ Some j
      keep (Directory es st) name j e kept =
          let m = map_some (λ (e : Entry). e.inode) (entry_named name es) j e in
          ap (option_map (λ (e : Entry). e.inode)) (keeps es name m.0 m.1 kept) ∙ ap Some m.2
      keep (RegularFile bytes) name j e kept = e
      keep (SymbolicLink text) name j e kept = e
      keep (ProcessDirectory st) name j e kept = e

  more_entries : (new : Entry) (es : List Entry) (name : List ℕ) (e : Entry) → entry_named name es ≡ Some e → entry_named name (es ++ new ∷ []) ≡ Some e
  more_entries new es name e found = find-append (λ e. bytes_eq name e.name) es (new ∷ []) ∙ ap (λ o. option_or o (entry_named name (new ∷ []))) found

  entry_stays : (k : ℕ) (name : List ℕ) (i : ℕ) (dirs : Bool) (y : Inode) → S k y (with_entry name i dirs y)
  entry_stays k name i dirs y =
      let new : Entry = record { name = name; serial = y.next_serial; inode = i } in
      quiet_stays k (with_entries (λ es. es ++ new ∷ [])) y (with_entry name i dirs y) refl (λ e. e) (entries_quiet k (λ es. es ++ new ∷ []) (λ es n e found kept. more_entries new es n e found))

  -- where the name that is taken away is gone
  without_stays : (k : ℕ) (gone : List ℕ) (dirs : Bool) (y : Inode) → ((name : List ℕ) → name ≡ gone → lost.gone k name ≡ true) → S k y (without_entry gone dirs y)
  without_stays k gone dirs y is_gone =
      quiet_stays k (with_entries (without_name gone)) y (without_entry gone dirs y) refl (λ e. e)
      (entries_quiet k (without_name gone) (λ es n e found kept. named-without n gone es (false_from_ne_true _ (λ same. let clash : true ≡ false = sym (is_gone n (sym ((bytes_eq-Decides gone n).0 same))) ∙ kept in absurd cc)) ∙ found))

  unnamed_stays : (k : ℕ) (y : Inode) → S k y (unnamed y)
  unnamed_stays k y = quiet_stays k (with_standing None) y (unnamed y) refl (λ e. e) (standing_quiet k None)

  -- ---- the changes of a tree, after others of a tree that had these inodes

  module _ (m : Inodes) (t : Tree) (before : InodesStay user lost m t.inodes) where
    pub bytes_set_stays : (i : ℕ) (f : List ℕ → List ℕ) → InodesStay user lost m (bytes_set i f t).inodes
    bytes_set_stays i f = stay_with m t.inodes i (with_body (with_bytes f)) before (λ y e. quiet_stays i (with_bytes f) y (with_body (with_bytes f) y) refl (λ e. e) (bytes_quiet i f))

    pub held_stays : (i : ℕ) → InodesStay user lost m (held i t).inodes
    held_stays i = stay_with m t.inodes i (with_holds (λ n. n + 1)) before (λ y e. record { directory = refl; processes = refl; link = refl; search = λ kept e. e; entries = λ name j e kept. e })

    pub released_stays : (i : ℕ) → InodesStay user lost m (released i t).inodes
    released_stays i =
        stay_drop m (with_inode i (with_holds (λ n. n - 1)) t.inodes) i
        (stay_with m t.inodes i (with_holds (λ n. n - 1)) before (λ y e. record { directory = refl; processes = refl; link = refl; search = λ kept e. e; entries = λ name j e kept. e }))

    -- at a number that was never drawn
    pub added_stays : (dir : ℕ) (name : List ℕ) (mode uid gid : ℕ) (b : Body) → map.get m t.next ≡ None → InodesStay user lost m (added dir name mode uid gid b t).inodes
    added_stays dir name mode uid gid b free =
        stay_insert m _ t.next _ free (stay_with m t.inodes dir (with_entry name t.next (is_directory b)) before (λ y e. entry_stays dir name t.next (is_directory b) y))

    pub linked_stays : (dir : ℕ) (name : List ℕ) (file : ℕ) → InodesStay user lost m (linked dir name file t).inodes
    linked_stays dir name file =
        stay_with m (with_inode dir (with_entry name file false) t.inodes) file (with_names (λ n. n + 1)) (stay_with m t.inodes dir (with_entry name file false) before (λ y e. entry_stays dir name file false y))
        (λ y e. record { directory = refl; processes = refl; link = refl; search = λ kept e. e; entries = λ name j e kept. e })

    -- where search of the inode is lost, or isn't really
    pub mode_set_stays : (i mode : ℕ) → ((y : Inode) → map.get t.inodes i ≡ Some y → lost.shut i ≡ false → allows user y.node Search ≡ true → allows user (with_mode mode y).node Search ≡ true) → InodesStay user lost m (mode_set i mode t).inodes
    mode_set_stays i mode gives =
        stay_with m t.inodes i (with_mode mode) before (λ y at. record { directory = refl; processes = refl; link = refl; search = gives y at; entries = λ name j e kept. e })

    pub owner_set_stays : (i uid gid : ℕ) → ((y : Inode) → map.get t.inodes i ≡ Some y → lost.shut i ≡ false → allows user y.node Search ≡ true → allows user (with_owner uid gid y).node Search ≡ true)
        → InodesStay user lost m (owner_set i uid gid t).inodes
    owner_set_stays i uid gid gives =
        stay_with m t.inodes i (with_owner uid gid) before (λ y at. record { directory = refl; processes = refl; link = refl; search = gives y at; entries = λ name j e kept. e })

    -- where the name is gone
    pub unlinked_stays : (dir : ℕ) (name : List ℕ) (i : ℕ) → ((n : List ℕ) → n ≡ name → lost.gone dir n ≡ true) → InodesStay user lost m (unlinked dir name i t).inodes
    unlinked_stays dir name i is_gone =
        let dirs = body_is is_directory t i in
        let less = with_inode dir (without_entry name dirs) t.inodes in
        stay_drop m (with_inode i unnamed less) i
        (stay_with m less i unnamed (stay_with m t.inodes dir (without_entry name dirs) before (λ y e. without_stays dir name dirs y is_gone)) (λ y e. unnamed_stays i y))

    pub removed_stays : (dir : ℕ) (name : List ℕ) → ((n : List ℕ) → n ≡ name → lost.gone dir n ≡ true) → InodesStay user lost m (removed dir name t).inodes
    removed_stays dir name is_gone = by (entry t dir name)
      where
        by : (o : Option ℕ) → InodesStay user lost m (option_map_or (λ i. unlinked dir name i t) o t).inodes
        by None = before
        by (Some i) = unlinked_stays dir name i is_gone

    pub moved_stays : (dir : ℕ) (name : List ℕ) (to : ℕ) (new : List ℕ) (i : ℕ) → ((n : List ℕ) → n ≡ name → lost.gone dir n ≡ true) → InodesStay user lost m (moved dir name to new i t).inodes
    moved_stays dir name to new i is_gone =
        let dirs = body_is is_directory t i in
        let less = with_inode dir (without_entry name dirs) t.inodes in
        let more = with_inode to (with_entry new i dirs) less in
        stay_with m more i (with_body (with_standing (next_standing t to)))
        (stay_with m less to (with_entry new i dirs) (stay_with m t.inodes dir (without_entry name dirs) before (λ y e. without_stays dir name dirs y is_gone)) (λ y e. entry_stays to new i dirs y))
        (λ y e. quiet_stays i (with_standing (next_standing t to)) y (with_body (with_standing (next_standing t to)) y) refl (λ e. e) (standing_quiet i (next_standing t to)))
