-- What has a name is named by a text, and which changes alter the shape, exactly.
use Rattle.std.specs.FinMap as map
use Rattle.std.proofs.Common.{◌≡◌, ◌≢◌, inl, inr, ℕ, zero, suc, ◌+◌, ◌<◌, Bool, true, false, not, ◌&&◌, cond, nat_eq, List, [], ◌∷◌, ◌++◌, Option, Some, None, refl, sym, ap, subst, ◌∙◌, arith}
use Rattle.std.specs.Prelude.{◌↔◌, ◌==◌}
use Rattle.std.specs.Option.{option_map, option_map_or, option_and_then}
use Rattle.std.proofs.lemmas.Bool.{and_cases, and_parts, cases_eq, eq-eqb, eqb-true, lt-ltb, ltb-true, not-false}
use Rattle.std.proofs.lemmas.Slice.Eq.{bytes_eq-Decides}
use Rattle.law_lawful.proofs.kr_inode.BodyLemmas.{entries-with_entries, entries-with_standing, entries-is_listed, filled-entries, is_listed-with_entries, is_listed-with_standing, takes-is_listed, takes-stands}
use Rattle.law_lawful.proofs.kr_inode.EntryLemmas.{in_above, in_named, in-last, named-gone}
use Rattle.law_lawful.proofs.pr_base.MapLemmas.{by_key, get-changed_other, get-changed_same, get-insert_other, stays-changed}
use Rattle.law_lawful.specs.kr_inode.declared.standing.Standing.{Standing}
use Rattle.law_lawful.specs.kr_tree.Changes as tree
use Rattle.law_lawful.specs.kr_tree.Holds.{names_at}
use Rattle.law_lawful.specs.kr_tree.Lawful.{IsIn, IsKept, count_in, sum_below}
use Rattle.law_lawful.specs.kr_tree.Names.{named}
use Rattle.law_lawful.specs.kr_tree.Tree.{Body, Entry, Inode, Inodes, Node, Tree, body_is, body_without_bytes, entries, entries_of, entry, entry_named, inode, is_directory, is_filled, is_listed, node, root, standing, standing_of, takes_names}
use Rattle.law_lawful.proofs.kr_tree.AddLemmas.{passing}
use Rattle.law_lawful.proofs.kr_tree.CountLemmas.{counted-other, entries_there, value}
use Rattle.law_lawful.proofs.kr_tree.EntryLemmas.{entered}
use Rattle.law_lawful.proofs.kr_tree.InodesLemmas.{get-unused_other}
use Rattle.law_lawful.proofs.kr_tree.NameLemmas.{host_names-lead, listed_in, some_is, standing-host_name, stands_above}
use Rattle.law_lawful.specs.kr_view.View.{Row}
use Rattle.law_lawful.specs.kr_model.Applied.{Mounts, applied, images}
use Rattle.law_lawful.specs.kr_model.Change.{Change, AddNode, LinkNode, RemoveName, MoveName, SetMode, SetOwner}
use Rattle.law_lawful.specs.kr_model.Conditions.{CanBeMade}
use Rattle.law_lawful.specs.kr_model.Judged.{HasShape, without_bytes}
use Rattle.law_lawful.specs.kr_model.State.{Image, State}
use Rattle.law_lawful.proofs.kr_model.ShapeLemmas.{Tells, reached_named, reached_still, shape_stays}
use Rattle.law_lawful.proofs.kr_model.StayLemmas.{Stay}
use Rattle.law_steady.specs.Exact.{LessIsTold, NamesAreTexts, ShapeIsTold, alters_shape_of, are_one, has_mode, has_name, has_owner}
use Rattle.law_steady.proofs.ShapeLemmas.{blind_entries, same_entries}

-- ---- what has a name is named by a text

-- an entry that counts is there
counted_in : (i : ℕ) (es : List Entry) → 0 < count_in i es → (e : Entry) × IsIn e es × (e.inode ≡ i)
counted_in i [] some = absurd (omega arith)
counted_in i (e ∷ es) some = elim (cases_eq i e.inode) [
  | inl same ↦ (e, inl refl, sym same)
  | inr away ↦
      let none = counted-other i e.inode away in
      let rest = counted_in i es (omega arith) in
      (rest.0, inr rest.1, rest.2)
]

sum-zero : (f : Inode → ℕ) (m : Inodes) → sum_below f m zero ≡ 0
unfolding sum_below
sum-zero f m = refl

sum-more : (f : Inode → ℕ) (m : Inodes) (k : ℕ) → sum_below f m (suc k) ≡ value f (map.get m k) + sum_below f m k
unfolding sum_below
sum-more f m k = refl

-- and so is an inode that counts
counted_below : (f : Inode → ℕ) (m : Inodes) (k : ℕ) → 0 < sum_below f m k → (i : ℕ) × (0 < value f (map.get m i))
counted_below f m zero some = absurd (let none = sum-zero f m in omega arith)
counted_below f m (suc k) some = at (value f (map.get m k)) refl (λ none. counted_below f m k (let sum = sum-more f m k in omega arith))
  where
    at : (n : ℕ) → value f (map.get m k) ≡ n → (value f (map.get m k) ≡ 0 → (i : ℕ) × (0 < value f (map.get m i))) → (i : ℕ) × (0 < value f (map.get m i))
    at zero is rest = rest is
    at (suc n) is rest = (k, omega arith)

module _ (t : Tree) (kept : IsKept t) where
  -- a directory with an entry is named
  filled_named : (dir : ℕ) (e : Entry) → IsIn e (entries t dir) → (text : List (List ℕ)) × (named t text ≡ Some dir)
  filled_named dir e inside =
      let stood = stands_above t kept.sound dir e (standing t dir) refl inside in
      let text = standing-host_name t kept.sound dir stood.0 stood.1 in
      (text.0, (host_names-lead t kept.sound dir text.0 text.1).0)

  -- and so is what its entry stands for
  entry_is_named : (dir : ℕ) (e : Entry) → IsIn e (entries t dir) → (text : List (List ℕ)) × (named t text ≡ Some e.inode)
  entry_is_named dir e inside =
      let above = filled_named dir e inside in
      let list = listed_in t kept.sound dir e inside in
      let here : entry t dir e.name ≡ Some e.inode = ap (option_map (λ e. e.inode)) (in_named e.name (entries t dir) e list.1.distinct inside ((bytes_eq-Decides e.name e.name).1 refl)) in
      (e.name ∷ above.0, ap (option_and_then (λ d. entry t d e.name)) above.1 ∙ here)

  counts_in : (i dir : ℕ) → value (λ x. count_in i (entries_of x.node.body)) (inode t dir) ≡ count_in i (entries t dir)
  counts_in i dir = by (inode t dir)
    where
      by : (o : Option Inode) → value (λ x. count_in i (entries_of x.node.body)) o ≡ count_in i (option_map_or (λ x. entries_of x.node.body) o [])
      by None = refl
      by (Some x) = refl

  as_named : (i : ℕ) (e : Entry) → e.inode ≡ i → (text : List (List ℕ)) × (named t text ≡ Some e.inode) → (text : List (List ℕ)) × (named t text ≡ Some i)
  as_named i e same text = (text.0, text.1 ∙ ap Some same)

  text_of_name : (i : ℕ) → 0 < names_at t i → (text : List (List ℕ)) × (named t text ≡ Some i)
  text_of_name i some = elim (cases_eq i root) [
    | inl same ↦ ([], ap Some (sym same))
    | inr away ↦
        let none = counted-other i root away in
        let is = kept.counted.names i in
        let at = counted_below (λ x. count_in i (entries_of x.node.body)) t.inodes t.next (omega arith) in
        let here = counts_in i at.0 in
        let e = counted_in i (entries t at.0) (let more = at.1 in omega arith) in
        as_named i e.0 e.2 (entry_is_named at.0 e.0 e.1)
  ]

  name_of_text : (text : List (List ℕ)) (i : ℕ) → named t text ≡ Some i → 0 < names_at t i
  name_of_text text i way = let own = reached_named t kept text i way in subst (λ (o : Option Inode). 0 < option_map_or (λ x. x.names) o 0) (sym own.there) own.some

pub names_are_texts : NamesAreTexts
names_are_texts t kept i =
    (λ h. text_of_name t kept i (ltb-true 0 (names_at t i) h), λ text. lt-ltb 0 (names_at t i) (name_of_text t kept text.0 i text.1))

-- ---- a directory that can take an entry

-- an inode that lists entries, and the serial that the next one takes
record Lists (m : Inodes) (dir serial : ℕ) : Type 0 where
  own : Inode
  there : map.get m dir ≡ Some own
  listed : is_listed own.node.body ≡ true
  next : own.next_serial ≡ serial

abbrev entries_in : Inodes → ℕ → List Entry
entries_in m dir = option_map_or (λ x. entries_of x.node.body) (map.get m dir) []

-- what leaves the kind of a body and the next serial
record LeavesLists (g : Inode → Inode) : Type 0 where
  listed : (x : Inode) → is_listed (g x).node.body ≡ is_listed x.node.body
  next : (x : Inode) → (g x).next_serial ≡ x.next_serial

module _ (m : Inodes) (dir serial : ℕ) (lists : Lists m dir serial) where
  lists_changed : (k : ℕ) (g : Inode → Inode) → LeavesLists g → Lists (tree.with_inode k g m) dir serial
  lists_changed k g leaves = elim (cases_eq dir k) [
    | inl same ↦
        record {
          own = g lists.own;
          there = ap (λ d. map.get (tree.with_inode k g m) d) same ∙ get-changed_same m k g ∙ ap (option_map g) (ap (map.get m) (sym same) ∙ lists.there);
          listed = leaves.listed lists.own ∙ lists.listed;
          next = leaves.next lists.own ∙ lists.next;
        }
    | inr away ↦ record { own = lists.own; there = get-changed_other m k g dir away ∙ lists.there; listed = lists.listed; next = lists.next }
  ]

  lists_without : (k : ℕ) → dir ≢ k → Lists (tree.without_unused k m) dir serial
  lists_without k away = record { own = lists.own; there = get-unused_other m k dir away ∙ lists.there; listed = lists.listed; next = lists.next }

  -- an entry that is made is there
  made : (name : List ℕ) (i : ℕ) (is_dir : Bool) → IsIn (record { name = name; serial = lists.own.next_serial; inode = i }) (entries_in (tree.with_inode dir (tree.with_entry name i is_dir) m) dir)
  made name i is_dir =
      let e : Entry = record { name = name; serial = lists.own.next_serial; inode = i } in
      let here : entries_in (tree.with_inode dir (tree.with_entry name i is_dir) m) dir ≡ entries_of lists.own.node.body ++ e ∷ [] =
      ap (λ o. option_map_or (λ (x : Inode). entries_of x.node.body) o []) (get-changed_same m dir (tree.with_entry name i is_dir) ∙ ap (option_map (tree.with_entry name i is_dir)) lists.there)
      ∙ entries-with_entries (λ es. es ++ e ∷ []) lists.own.node.body lists.listed
      in
      subst (λ es. IsIn e es) (sym here) (in-last e (entries_of lists.own.node.body))

unlisted : (name : List ℕ) (is_dir : Bool) → LeavesLists (tree.without_entry name is_dir)
unlisted name is_dir = record { listed = λ x. is_listed-with_entries (tree.without_name name) x.node.body; next = λ x. refl }

unstood : LeavesLists tree.unnamed
unstood = record { listed = λ x. is_listed-with_standing None x.node.body; next = λ x. refl }

-- what leaves entries as they are
entries_stay : (m : Inodes) (k : ℕ) (g : Inode → Inode) → ((x : Inode) → entries_of (g x).node.body ≡ entries_of x.node.body) → (dir : ℕ) → entries_in (tree.with_inode k g m) dir ≡ entries_in m dir
entries_stay m k g each dir = stays-changed (λ o. option_map_or (λ x. entries_of x.node.body) o []) m k g each dir

-- ---- names that are made

-- an entry that a directory had yet to number
record Grows (t u : Tree) : Type 0 where
  dir : ℕ
  is : Lists t.inodes dir (tree.next_serial t dir)
  stands : (s : Standing) × (standing t dir ≡ Some s)
  e : Entry
  numbered : e.serial ≡ tree.next_serial t dir
  inside : IsIn e (entries u dir)

module _ (t : Tree) (kept : IsKept t) where
  grown : (u : Tree) → Grows t u → HasShape t u → ⊥
  grown u grows shape =
      let text = standing-host_name t kept.sound grows.dir grows.stands.0 grows.stands.1 in
      let way = (host_names-lead t kept.sound grows.dir text.0 text.1).0 in
      let old = subst (λ es. IsIn grows.e es) (same_entries t u grows.dir (shape.nodes text.0 grows.dir way)) grows.inside in
      let list = kept.sound.listed grows.dir grows.is.own grows.is.there in
      let own = subst (λ es. IsIn grows.e es) (ap (λ o. option_map_or (λ (x : Inode). entries_of x.node.body) o []) grows.is.there) old in
      let low = in_above 2 grows.is.own.next_serial (entries_of grows.is.own.node.body) grows.e list.rises own in
      let next = grows.is.next in
      let numbered = grows.numbered in
      omega arith

  -- a directory that takes names
  taking : (dir : ℕ) → body_is takes_names t dir ≡ true → Lists t.inodes dir (tree.next_serial t dir) × ((s : Standing) × (standing t dir ≡ Some s))
  taking dir takes =
      let x = passing takes_names (inode t dir) takes in
      let s = takes-stands x.0.node.body x.2 in (
        record { own = x.0; there = x.1; listed = takes-is_listed x.0.node.body x.2; next = sym (ap (λ o. option_map_or (λ (x : Inode). x.next_serial) o 0) x.1) },
        (s.0, ap (option_and_then (λ (x : Inode). standing_of x.node.body)) x.1 ∙ s.1),
      )

  added_grows : (dir : ℕ) (name : List ℕ) (mode uid gid : ℕ) (body : Body) → body_is takes_names t dir ≡ true → Grows t (tree.added dir name mode uid gid body t)
  added_grows dir name mode uid gid body takes =
      let at = taking dir takes in
      let below = kept.sound.numbered dir at.0.own at.0.there in
      let away : dir ≢ t.next = λ same. let two = below.1 in absurd (omega arith) in
      let g = tree.with_entry name t.next (is_directory body) in
      let rest = get-insert_other (tree.with_inode dir g t.inodes) t.next (tree.fresh mode uid gid (tree.with_standing (tree.next_standing t dir) body)) dir away in
      record {
        dir = dir;
        is = at.0;
        stands = at.1;
        e = record { name = name; serial = at.0.own.next_serial; inode = t.next };
        numbered = at.0.next;
        inside = subst (λ o. IsIn (record { name = name; serial = at.0.own.next_serial; inode = t.next }) (option_map_or (λ (x : Inode). entries_of x.node.body) o [])) (sym rest)
            (made t.inodes dir (tree.next_serial t dir) at.0 name t.next (is_directory body));
      }

  linked_grows : (dir : ℕ) (name : List ℕ) (file : ℕ) → body_is takes_names t dir ≡ true → Grows t (tree.linked dir name file t)
  linked_grows dir name file takes =
      let at = taking dir takes in
      record {
        dir = dir;
        is = at.0;
        stands = at.1;
        e = record { name = name; serial = at.0.own.next_serial; inode = file };
        numbered = at.0.next;
        inside = subst (λ es. IsIn (record { name = name; serial = at.0.own.next_serial; inode = file }) es)
            (sym (entries_stay (tree.with_inode dir (tree.with_entry name file false) t.inodes) file (tree.with_names (λ n. n + 1)) (λ x. refl) dir))
            (made t.inodes dir (tree.next_serial t dir) at.0 name file false);
      }

  -- a name that is moved is made in its new directory, over any inodes of which that is one
  moved_grows : (v : Tree) (dir : ℕ) (name : List ℕ) (to : ℕ) (new : List ℕ) (i : ℕ) → body_is takes_names t to ≡ true → Lists v.inodes to (tree.next_serial t to) → Grows t (tree.moved dir name to new i v)
  moved_grows v dir name to new i takes lists =
      let at = taking to takes in
      let is_dir = body_is is_directory v i in
      let less = tree.with_inode dir (tree.without_entry name is_dir) v.inodes in
      let room = lists_changed v.inodes to (tree.next_serial t to) lists dir (tree.without_entry name is_dir) (unlisted name is_dir) in
      let stood = tree.with_standing (tree.next_standing v to) in
      record {
        dir = to;
        is = at.0;
        stands = at.1;
        e = record { name = new; serial = room.own.next_serial; inode = i };
        numbered = room.next;
        inside = subst (λ es. IsIn (record { name = new; serial = room.own.next_serial; inode = i }) es)
            (sym (entries_stay (tree.with_inode to (tree.with_entry new i is_dir) less) i (tree.with_body stood) (λ x. entries-with_standing (tree.next_standing v to) x.node.body) to))
            (made less to (tree.next_serial t to) room new i is_dir);
      }

  -- what has no entries isn't the directory that has an entry
  apart : (dir : ℕ) (name : List ℕ) (i : ℕ) → entry t dir name ≡ Some i → body_is is_filled t i ≡ false → dir ≢ i
  apart dir name i there empty same =
      let e = entered t dir name i there in
      let none : entries t i ≡ [] = by (inode t i) empty in
      subst (λ es. IsIn e.own es) (ap (entries t) same ∙ none) e.inside
    where
      by : (o : Option Inode) → option_map_or (λ x. is_filled x.node.body) o false ≡ false → option_map_or (λ x. entries_of x.node.body) o [] ≡ []
      by None h = refl
      by (Some x) h = filled-entries x.node.body h

  onto_grows : (dir : ℕ) (name : List ℕ) (to : ℕ) (new : List ℕ) (i old : ℕ) → body_is takes_names t to ≡ true → entry t to new ≡ Some old → body_is is_filled t old ≡ false
      → Grows t (tree.moved dir name to new i (tree.unlinked to new old t))
  onto_grows dir name to new i old takes there empty =
      let at = taking to takes in
      let serial = tree.next_serial t to in
      let is_dir = body_is is_directory t old in
      let less = tree.with_inode to (tree.without_entry new is_dir) t.inodes in
      let first = lists_changed t.inodes to serial at.0 to (tree.without_entry new is_dir) (unlisted new is_dir) in
      let second = lists_changed less to serial first old tree.unnamed unstood in
      moved_grows (tree.unlinked to new old t) dir name to new i takes (lists_without (tree.with_inode old tree.unnamed less) to serial second old (apart to new old there empty))

  -- ---- a name that is taken away

  removed_alters : (dir : ℕ) (name : List ℕ) (i : ℕ) → entry t dir name ≡ Some i → body_is is_filled t i ≡ false → HasShape t (tree.unlinked dir name i t) → ⊥
  removed_alters dir name i there empty shape =
      let e = entered t dir name i there in
      let way = filled_named t kept dir e.own e.inside in
      let x = entries_there t dir e.own e.inside in
      let listed = entries-is_listed x.0.node.body e.own (subst (λ es. IsIn e.own es) (ap (λ o. option_map_or (λ (x : Inode). entries_of x.node.body) o []) x.1) e.inside) in
      let is_dir = body_is is_directory t i in
      let less = tree.with_inode dir (tree.without_entry name is_dir) t.inodes in
      let parted = tree.with_inode i tree.unnamed less in
      let here : entries_in (tree.without_unused i parted) dir ≡ tree.without_name name (entries_of x.0.node.body) =
      ap (λ o. option_map_or (λ (x : Inode). entries_of x.node.body) o []) (get-unused_other parted i dir (apart dir name i there empty))
      ∙ entries_stay less i tree.unnamed (λ x. entries-with_standing None x.node.body) dir
      ∙ ap (λ o. option_map_or (λ (x : Inode). entries_of x.node.body) o []) (get-changed_same t.inodes dir (tree.without_entry name is_dir) ∙ ap (option_map (tree.without_entry name is_dir)) x.1)
      ∙ entries-with_entries (tree.without_name name) x.0.node.body listed
      in
      let none : entry t dir name ≡ None =
      ap (λ es. option_map (λ (e : Entry). e.inode) (entry_named name es)) (sym (same_entries t (tree.unlinked dir name i t) dir (shape.nodes way.0 dir way.1)) ∙ here)
      ∙ ap (option_map (λ (e : Entry). e.inode)) (named-gone name (entries_of x.0.node.body))
      in
      let clash : Some i ≡ None = sym there ∙ none in
      absurd cc

  remove_alters : (dir : ℕ) (name : List ℕ) (o : Option ℕ) → entry t dir name ≡ o → (i : ℕ) → o ≡ Some i → body_is is_filled t i ≡ false → HasShape t (option_map_or (λ i. tree.unlinked dir name i t) o t) → ⊥
  remove_alters dir name None there i is empty shape = absurd cc
  remove_alters dir name (Some j) there i is empty shape =
      let same : j ≡ i = ap (λ o. option_map_or (λ n. n) o i) is in
      removed_alters dir name j there (ap (body_is is_filled t) same ∙ empty) shape

  -- ---- a name that is moved

  module _ (dir : ℕ) (name : List ℕ) (to : ℕ) (new : List ℕ) (takes : body_is takes_names t to ≡ true)
      (like : (i old : ℕ) → entry t dir name ≡ Some i → entry t to new ≡ Some old → old ≢ i → body_is is_filled t old ≡ false) where
    abbrev renamed_by : Option ℕ → Option ℕ → Tree
    renamed_by o p = option_map_or (λ i. tree.renamed_onto dir name to new i p t) o t

    move_alters : (o p : Option ℕ) → entry t dir name ≡ o → entry t to new ≡ p → HasShape t (renamed_by o p) → not (are_one o p) ≡ true → o ≢ None → ⊥
    move_alters None p there onto shape other some = some refl
    move_alters (Some i) None there onto shape other some = grown (tree.moved dir name to new i t) (moved_grows t dir name to new i takes (taking to takes).0) shape
    move_alters (Some i) (Some old) there onto shape other some = by (nat_eq i old) refl shape other
      where
        by : (b : Bool) → nat_eq i old ≡ b → HasShape t (cond b t (tree.moved dir name to new i (tree.unlinked to new old t))) → not b ≡ true → ⊥
        by true e shape other = absurd cc
        by false e shape other =
            let away : old ≢ i = λ same. let one = eq-eqb i old (sym same) in let clash : true ≡ false = sym one ∙ e in absurd cc in
            grown (tree.moved dir name to new i (tree.unlinked to new old t)) (onto_grows dir name to new i old takes onto (like i old there onto away)) shape

  -- names of one inode stay
  move_leaves : (dir : ℕ) (name : List ℕ) (to : ℕ) (new : List ℕ) (o p : Option ℕ) → not (are_one o p) ≡ false → option_map_or (λ i. tree.renamed_onto dir name to new i p t) o t ≡ t
  move_leaves dir name to new None p h = refl
  move_leaves dir name to new (Some i) None h = absurd cc
  move_leaves dir name to new (Some i) (Some old) h = by (nat_eq i old) h
    where
      by : (b : Bool) → not b ≡ false → cond b t (tree.moved dir name to new i (tree.unlinked to new old t)) ≡ t
      by true h = refl
      by false h = absurd cc

-- ---- numbers of a node

pub tells_shape : Tells without_bytes
tells_shape n k same = sym (blind_entries n.body) ∙ ap (λ (n : Node). entries_of n.body) same ∙ blind_entries k.body

-- numbers that are set, with a test that tells whether they were those before
module _ (t : Tree) (kept : IsKept t) (i : ℕ) (g : Inode → Inode) (pass : Node → Bool) (names : (x : Inode) → (g x).names ≡ x.names)
    (alike : (x : Inode) → pass x.node ≡ true → without_bytes (g x).node ≡ without_bytes x.node)
    (differ : (x : Inode) → without_bytes (g x).node ≡ without_bytes x.node → pass x.node ≡ true) where
  abbrev set : Tree
  set = tree.with_inodes (tree.with_inode i g t.inodes) t

  abbrev alters : Bool
  alters = has_name t i && not (option_map_or pass (node t i) false)

  passes : alters ≡ false → (x : Inode) → map.get t.inodes i ≡ Some x → 0 < x.names → pass x.node ≡ true
  passes h x is some =
      let own : has_name t i ≡ true = lt-ltb 0 (names_at t i) (subst (λ (o : Option Inode). 0 < option_map_or (λ x. x.names) o 0) (sym is) some) in
      elim (and_cases (has_name t i) (not (option_map_or pass (node t i) false)) h) [
        | inl unnamed ↦ absurd (let clash : true ≡ false = sym own ∙ unnamed in cc)
        | inr other ↦ sym (ap (λ (o : Option Inode). option_map_or pass (option_map (λ x. x.node) o) false) is) ∙ not-false (option_map_or pass (node t i) false) other
      ]

  set_stays : alters ≡ false → Stay without_bytes t.inodes set.inodes
  set_stays h = record {
    each = by_key (λ k. (x : Inode) → map.get t.inodes k ≡ Some x → 0 < x.names → (y : Inode) × (map.get set.inodes k ≡ Some y) × (without_bytes y.node ≡ without_bytes x.node) × (y.names ≡ x.names)) i
        (λ x is some. (g x, get-changed_same t.inodes i g ∙ ap (option_map g) is, alike x (passes h x is some), names x))
        (λ q away x is some. (x, get-changed_other t.inodes i g q away ∙ is, refl, refl));
  }

  set_leaves : alters ≡ false → HasShape t set
  set_leaves h = reached_still without_bytes tells_shape t set kept (set_stays h)

  set_alters : HasShape t set → alters ≡ false
  set_alters shape = by (has_name t i) refl
    where
      by : (b : Bool) → has_name t i ≡ b → (b && not (option_map_or pass (node t i) false)) ≡ false
      by false h = refl
      by true h =
          let text = text_of_name t kept i (ltb-true 0 (names_at t i) h) in
          let own = reached_named t kept text.0 i text.1 in
          let seen : (o : Option Inode) → Option Node = λ o. option_map without_bytes (option_map (λ x. x.node) o) in
          let same : Some (without_bytes (g own.own).node) ≡ Some (without_bytes own.own.node) =
          sym (ap seen (get-changed_same t.inodes i g ∙ ap (option_map g) own.there)) ∙ shape.nodes text.0 i text.1 ∙ ap seen own.there
          in
          ap not (ap (λ (o : Option Inode). option_map_or pass (option_map (λ x. x.node) o) false) own.there ∙ differ own.own (some_is (without_bytes (g own.own).node) (without_bytes own.own.node) same))

module _ (t : Tree) (kept : IsKept t) (i : ℕ) where
  mode_told : (mode : ℕ) → ((has_name t i && not (has_mode t i mode)) ≡ false) ↔ HasShape t (tree.mode_set i mode t)
  mode_told mode = (set_leaves t kept i g pass (λ x. refl) alike differ, set_alters t kept i g pass (λ x. refl) alike differ)
    where
      g : Inode → Inode
      g = tree.with_mode mode

      pass : Node → Bool
      pass n = n.mode == mode

      alike : (x : Inode) → pass x.node ≡ true → without_bytes (g x).node ≡ without_bytes x.node
      alike x h = ap (λ m. record { mode = m; uid = x.node.uid; gid = x.node.gid; body = body_without_bytes x.node.body }) (sym (eqb-true x.node.mode mode h))

      differ : (x : Inode) → without_bytes (g x).node ≡ without_bytes x.node → pass x.node ≡ true
      differ x same = eq-eqb x.node.mode mode (sym (ap (λ (n : Node). n.mode) same))

  owner_told : (uid gid : ℕ) → ((has_name t i && not (has_owner t i uid gid)) ≡ false) ↔ HasShape t (tree.owner_set i uid gid t)
  owner_told uid gid = (set_leaves t kept i g pass (λ x. refl) alike differ, set_alters t kept i g pass (λ x. refl) alike differ)
    where
      g : Inode → Inode
      g = tree.with_owner uid gid

      pass : Node → Bool
      pass n = (n.uid == uid) && (n.gid == gid)

      alike : (x : Inode) → pass x.node ≡ true → without_bytes (g x).node ≡ without_bytes x.node
      alike x h =
          let two = and_parts (x.node.uid == uid) (x.node.gid == gid) h in
          let first = eqb-true x.node.uid uid two.0 in
          let second = eqb-true x.node.gid gid two.1 in
          λ j. record { mode = x.node.mode; uid = sym first j; gid = sym second j; body = body_without_bytes x.node.body }

      differ : (x : Inode) → without_bytes (g x).node ≡ without_bytes x.node → pass x.node ≡ true
      differ x same =
          let first = eq-eqb x.node.uid uid (sym (ap (λ (n : Node). n.uid) same)) in
          let second = eq-eqb x.node.gid gid (sym (ap (λ (n : Node). n.gid) same)) in
          ap (λ b. b && (x.node.gid == gid)) first ∙ second

-- ---- all changes

pub same_shape : (t : Tree) → HasShape t t
same_shape t = record { names = λ text. refl; nodes = λ text i way. refl }

module _ {M : Type 0} (number : M → ℕ) (table : List Row) (mounts : Mounts M) (pid : ℕ) (s : State M Image) (kept : IsKept s.tree) where
  leaves : (c : Change) → alters_shape_of s.tree c ≡ false → HasShape s.tree (applied images mounts pid c s).tree
  leaves (AddNode dir name mode uid gid body) h = absurd cc
  leaves (LinkNode dir name i) h = absurd cc
  leaves (RemoveName dir name) h = absurd cc
  leaves (MoveName dir name to new) h = subst (HasShape s.tree) (sym (move_leaves s.tree kept dir name to new (entry s.tree dir name) (entry s.tree to new) h)) (same_shape s.tree)
  leaves (SetMode i mode) h = (mode_told s.tree kept i mode).0 h
  leaves (SetOwner i uid gid) h = (owner_told s.tree kept i uid gid).0 h
  leaves c h = shape_stays images mounts pid c s kept refl

  alters_it : (c : Change) → CanBeMade number table mounts pid s c → HasShape s.tree (applied images mounts pid c s).tree → alters_shape_of s.tree c ≡ false
  alters_it (AddNode dir name mode uid gid body) can shape =
      absurd (grown s.tree kept (tree.added dir name mode uid gid body s.tree) (added_grows s.tree kept dir name mode uid gid body can.named.takes) shape)
  alters_it (LinkNode dir name i) can shape = absurd (grown s.tree kept (tree.linked dir name i s.tree) (linked_grows s.tree kept dir name i can.named.takes) shape)
  alters_it (RemoveName dir name) can shape = absurd (remove_alters s.tree kept dir name (entry s.tree dir name) refl can.own can.there can.empty shape)
  alters_it (MoveName dir name to new) can shape =
      let o = entry s.tree dir name in
      let p = entry s.tree to new in
      let like : (i old : ℕ) → o ≡ Some i → p ≡ Some old → old ≢ i → body_is is_filled s.tree old ≡ false =
      λ i old there onto away. (can.move.like old onto (λ same. away (same ∙ some_is can.move.moved i (sym can.move.there ∙ there)))).1
      in
      by (not (are_one o p)) refl (λ other. move_alters s.tree kept dir name to new can.move.takes like o p refl refl shape other (λ none. let clash : Some can.move.moved ≡ None = sym can.move.there ∙ none in absurd cc))
    where
      by : (b : Bool) → not (are_one (entry s.tree dir name) (entry s.tree to new)) ≡ b → (not (are_one (entry s.tree dir name) (entry s.tree to new)) ≡ true → ⊥) → not (are_one (entry s.tree dir name) (entry s.tree to new)) ≡ false
      by true e never = absurd (never e)
      by false e never = e
  alters_it (SetMode i mode) can shape = (mode_told s.tree kept i mode).1 shape
  alters_it (SetOwner i uid gid) can shape = (owner_told s.tree kept i uid gid).1 shape
  alters_it c can shape = refl

pub shape_is_told : (M : Type 0) → ShapeIsTold M
shape_is_told M number table mounts pid c s kept can = (leaves number table mounts pid s kept c, alters_it number table mounts pid s kept c can)

pub less_is_told : LessIsTold
less_is_told t (AddNode dir name mode uid gid body) h = absurd cc
less_is_told t (LinkNode dir name i) h = absurd cc
less_is_told t (RemoveName dir name) h = absurd cc
less_is_told t (MoveName dir name to new) h = absurd cc
less_is_told t (SetMode i mode) h = absurd cc
less_is_told t (SetOwner i uid gid) h = absurd cc
less_is_told t c h = refl
