-- Trees with one more entry, and what their texts name.
use Rattle.std.proofs.Common.{◌≡◌, ◌≢◌, ℕ, ◌+◌, true, false, cond, List, [], ◌∷◌, ◌++◌, Option, Some, None, refl, sym, ap, subst, ◌∙◌, arith, inl, inr, ◌⊎◌}
use Rattle.std.specs.Prelude.{bytes_eq}
use Rattle.std.specs.Option.{option_map, option_map_or, option_and_then}
use Rattle.std.proofs.lemmas.Slice.Eq.{bytes_eq-Decides}
use Rattle.kr_tree.specs.kr_inode.declared.standing.Standing.{Standing}
use Rattle.kr_tree.specs.Tree.{Tree, Inodes, Inode, Node, Entry, Body, Directory, RegularFile, SymbolicLink, ProcessDirectory, root, inode, node, entry, entries, entries_of, entry_named, standing, body_is, is_directory, is_file, takes_names}
use Rattle.kr_tree.specs.Names.{named}
use Rattle.kr_tree.specs.Changes.{added, linked, fresh, with_inode, with_entry, with_names, with_entries, with_standing, next_standing}
use Rattle.kr_tree.specs.Lawful.{IsKept, IsIn}
use Rattle.kr_tree.proofs.AddLemmas.{passing}
use Rattle.kr_tree.proofs.kr_inode.BodyLemmas.{entries-with_entries, entries-with_standing, takes-is_listed}
use Rattle.kr_tree.proofs.CountLemmas.{there as entry_there, root_directory}
use Rattle.kr_tree.proofs.kr_inode.EntryLemmas.{named_in, serial_alone}
use Rattle.kr_tree.proofs.pr_base.MapLemmas.{by_key, get-insert_same, get-insert_other, get-changed_same, get-changed_other}
use Rattle.kr_text.specs.Same.{bare, bare_body}
use Rattle.kr_text.proofs.OrderLemmas.{entries_rise}
use Rattle.kr_text.proofs.DepthLemmas.{entry_in, named_above, has_entries, root_is_no_entry, one_standing}
use Rattle.kr_tree.proofs.NameLemmas.{some_is}

-- ---- what is named is there, and a directory has one text

pub named_there : (t : Tree) → IsKept t → (text : List (List ℕ)) (i : ℕ) → named t text ≡ Some i → (x : Inode) × (inode t i ≡ Some x)
named_there t kept [] i is = let x = passing is_directory (inode t root) (root_directory t kept.sound) in (x.0, ap (inode t) (sym (some_is root i is)) ∙ x.1)
named_there t kept (name ∷ text) i is =
    let at = named_above t name text i is in
    let e = entry_in t at.0 name i at.2 in
    let x = entry_there t kept.sound kept.counted at.0 e.0 e.1 in
    (x.0, ap (inode t) (sym e.2) ∙ x.1)

pub found_entry : (t : Tree) (dir : ℕ) (name : List ℕ) (i : ℕ) → entry t dir name ≡ Some i → (e : Entry) × IsIn e (entries t dir) × (e.inode ≡ i) × (name ≡ e.name)
found_entry t dir name i is = go (entry_named name (entries t dir)) refl is
  where
    go : (o : Option Entry) → entry_named name (entries t dir) ≡ o → option_map (λ e. e.inode) o ≡ Some i → (e : Entry) × IsIn e (entries t dir) × (e.inode ≡ i) × (name ≡ e.name)
    go None found same = cc
    go (Some e) found same = let at = named_in name (entries t dir) e found in (e, at.0, cc, (bytes_eq-Decides name e.name).0 at.1)

pub one_text : (t : Tree) → IsKept t → (a b : List (List ℕ)) (i : ℕ) → named t a ≡ Some i → named t b ≡ Some i → body_is is_directory t i ≡ true → a ≡ b
one_text t kept [] [] i is also directory = refl
one_text t kept [] (name ∷ b) i is also directory = let at = named_above t name b i also in absurd (root_is_no_entry t kept at.0 name (at.2 ∙ sym is))
one_text t kept (name ∷ a) [] i is also directory = let at = named_above t name a i is in absurd (root_is_no_entry t kept at.0 name (at.2 ∙ sym also))
one_text t kept (name ∷ a) (other ∷ b) i is also directory =
    let one = named_above t name a i is in
    let two = named_above t other b i also in
    let e = found_entry t one.0 name i one.2 in
    let f = found_entry t two.0 other i two.2 in
    let se : Standing = record { inode = one.0; serial = e.0.serial } in
    let sf : Standing = record { inode = two.0; serial = f.0.serial } in
    let at_e : standing t i ≡ Some se = ap (standing t) (sym e.2) ∙ kept.sound.alone one.0 e.0 e.1 (subst (λ j. body_is is_directory t j ≡ true) (sym e.2) directory) in
    let at_f : standing t i ≡ Some sf = ap (standing t) (sym f.2) ∙ kept.sound.alone two.0 f.0 f.1 (subst (λ j. body_is is_directory t j ≡ true) (sym f.2) directory) in
    let same = one_standing (standing t i) se sf at_e at_f in
    let dirs : one.0 ≡ two.0 = ap (λ s. s.inode) same in
    let rises = entries_rise t one.0 kept in
    let entry_same : e.0 ≡ f.0 = serial_alone 2 rises.0 (entries t one.0) e.0 f.0 rises.1 e.1 (subst (λ d. IsIn f.0 (entries t d)) (sym dirs) f.1) (ap (λ s. s.serial) same) in
    let names : name ≡ other = e.3 ∙ ap (λ x. x.name) entry_same ∙ sym f.3 in
    let above : a ≡ b = one_text t kept a b one.0 one.1 (two.1 ∙ ap Some (sym dirs)) (has_entries t one.0 e.0 e.1) in
    λ k. names k ∷ above k

-- ---- one more entry

-- v is u with one more entry, of a name that was free, for an inode that has no entries
pub record Grows (u v : Tree) (dir : ℕ) (name : List ℕ) (j : ℕ) : Type 0 where
  pub new : Entry
  pub new_name : new.name ≡ name
  pub new_inode : new.inode ≡ j
  pub at_dir : entries v dir ≡ entries u dir ++ new ∷ []
  pub elsewhere : (d : ℕ) (x : Inode) → inode u d ≡ Some x → d ≢ dir → entries v d ≡ entries u d
  pub leaf : entries v j ≡ []
  pub free : entry u dir name ≡ None
  pub bare_kept : (i : ℕ) (x : Node) → node u i ≡ Some x → option_map bare (node v i) ≡ Some (bare x)

found_before : (c : List ℕ) (es : List Entry) (new e : Entry) → entry_named c es ≡ Some e → entry_named c (es ++ new ∷ []) ≡ Some e
found_before c [] new e is = cc
found_before c (x ∷ es) new e is =
    elim (bytes_eq c x.name) as (λ b. cond b (Some x) (entry_named c es) ≡ Some e → cond b (Some x) (entry_named c (es ++ new ∷ [])) ≡ Some e)
    [ true ↦ λ h. h | false ↦ λ h. found_before c es new e h ] is

found_last : (c : List ℕ) (es : List Entry) (new : Entry) → entry_named c es ≡ None → c ≡ new.name → entry_named c (es ++ new ∷ []) ≡ Some new
found_last c [] new is same = let yes : bytes_eq c new.name ≡ true = (bytes_eq-Decides c new.name).1 same in rw yes refl
found_last c (x ∷ es) new is same =
    elim (bytes_eq c x.name) as (λ b. cond b (Some x) (entry_named c es) ≡ None → cond b (Some x) (entry_named c (es ++ new ∷ [])) ≡ Some new)
    [ true ↦ λ h. cc | false ↦ λ h. found_last c es new h same ] is

found_either : (c : List ℕ) (es : List Entry) (new e : Entry) → entry_named c (es ++ new ∷ []) ≡ Some e → (entry_named c es ≡ Some e) ⊎ ((c ≡ new.name) × (new ≡ e))
found_either c [] new e is =
    elim (bytes_eq c new.name) as (λ b. bytes_eq c new.name ≡ b → cond b (Some new) None ≡ Some e → (None ≡ Some e) ⊎ ((c ≡ new.name) × (new ≡ e)))
    [ true ↦ λ t h. inr ((bytes_eq-Decides c new.name).0 t, cc) | false ↦ λ t h. inl h ] refl is
found_either c (x ∷ es) new e is =
    elim (bytes_eq c x.name) as (λ b. cond b (Some x) (entry_named c (es ++ new ∷ [])) ≡ Some e → (cond b (Some x) (entry_named c es) ≡ Some e) ⊎ ((c ≡ new.name) × (new ≡ e)))
    [ true ↦ λ h. inl h | false ↦ λ h. found_either c es new e h ] is

some_entry : (o : Option Entry) (i : ℕ) → option_map (λ e. e.inode) o ≡ Some i → (e : Entry) × (o ≡ Some e) × (e.inode ≡ i)
some_entry None i is = cc
some_entry (Some e) i is = (e, refl, cc)

no_entry : (o : Option Entry) → option_map (λ e. e.inode) o ≡ None → o ≡ None
no_entry None is = refl
no_entry (Some e) is = cc

same_there : (t : Tree) (dir : ℕ) (e : Entry) → IsIn e (entries t dir) → (x : Inode) × (inode t dir ≡ Some x)
same_there t dir e is = go (inode t dir) refl is
  where
    go : (o : Option Inode) → inode t dir ≡ o → IsIn e (option_map_or (λ x. entries_of x.node.body) o []) → (x : Inode) × (inode t dir ≡ Some x)
    go None none in_none = absurd in_none
    go (Some x) is_x in_some = (x, is_x)

module _ {u v : Tree} {dir : ℕ} {name : List ℕ} {j : ℕ} (grows : Grows u v dir name j) where
  pub entry_new : entry v dir name ≡ Some j
  entry_new = ap (λ es. option_map (λ e. e.inode) (entry_named name es)) grows.at_dir ∙ ap (option_map (λ e. e.inode)) (found_last name (entries u dir) grows.new (no_entry (entry_named name (entries u dir)) grows.free) (sym grows.new_name)) ∙ ap Some grows.new_inode

  entry_kept : (d : ℕ) (c : List ℕ) (i : ℕ) → entry u d c ≡ Some i → entry v d c ≡ Some i
  entry_kept d c i is = by_key (λ q. entry u q c ≡ Some i → entry v q c ≡ Some i) dir
      (λ h. let e = some_entry (entry_named c (entries u dir)) i h in
      ap (λ es. option_map (λ e. e.inode) (entry_named c es)) grows.at_dir ∙ ap (option_map (λ e. e.inode)) (found_before c (entries u dir) grows.new e.0 e.1) ∙ ap Some e.2)
      (λ q other h. let e = entry_in u q c i h in let x = same_there u q e.0 e.1 in
      ap (λ es. option_map (λ e. e.inode) (entry_named c es)) (grows.elsewhere q x.0 x.1 other) ∙ h) d is

  entry_only : (d : ℕ) (c : List ℕ) (i : ℕ) (x : Inode) → inode u d ≡ Some x → entry v d c ≡ Some i → (entry u d c ≡ Some i) ⊎ ((d ≡ dir) × (c ≡ name) × (i ≡ j))
  entry_only d c i x there is = by_key (λ q. inode u q ≡ Some x → entry v q c ≡ Some i → (entry u q c ≡ Some i) ⊎ ((q ≡ dir) × (c ≡ name) × (i ≡ j))) dir
      (λ _ h.
      let e = some_entry (entry_named c (entries v dir)) i h in
      elim (found_either c (entries u dir) grows.new e.0 (ap (entry_named c) (sym grows.at_dir) ∙ e.1)) [
        | inl old ↦ inl (ap (option_map (λ f. f.inode)) old ∙ ap Some e.2)
        | inr fresh_one ↦ inr (refl, fresh_one.0 ∙ grows.new_name, sym e.2 ∙ ap (λ f. f.inode) (sym fresh_one.1) ∙ grows.new_inode)
      ])
      (λ q other h e. inl (ap (λ es. option_map (λ f. f.inode) (entry_named c es)) (sym (grows.elsewhere q x h other)) ∙ e)) d there is

  no_entry_below : (c : List ℕ) (i : ℕ) → entry v j c ≡ Some i → ⊥
  no_entry_below c i is = let none : entry v j c ≡ None = ap (λ es. option_map (λ e. e.inode) (entry_named c es)) grows.leaf in cc

  pub named_kept : (text : List (List ℕ)) (i : ℕ) → named u text ≡ Some i → named v text ≡ Some i
  named_kept [] i is = is
  named_kept (c ∷ text) i is =
      let at = named_above u c text i is in
      ap (option_and_then (λ d. entry v d c)) (named_kept text at.0 at.1) ∙ entry_kept at.0 c i at.2

  pub named_new : (text : List (List ℕ)) → named u text ≡ Some dir → named v (name ∷ text) ≡ Some j
  named_new text at = ap (option_and_then (λ d. entry v d name)) (named_kept text dir at) ∙ entry_new

  pub named_only : IsKept u → (text : List (List ℕ)) → named u text ≡ Some dir → body_is is_directory u dir ≡ true → (tx : List (List ℕ)) (i : ℕ) → named v tx ≡ Some i → (named u tx ≡ Some i) ⊎ ((tx ≡ name ∷ text) × (i ≡ j))
  named_only kept text at directory [] i is = inl is
  named_only kept text at directory (c ∷ tx) i is =
      let up = named_above v c tx i is in
      elim (named_only kept text at directory tx up.0 up.1) [
        | inl old ↦
            let x = named_there u kept tx up.0 old in
            elim (entry_only up.0 c i x.0 x.1 up.2) [
              | inl e ↦ inl (ap (option_and_then (λ d. entry u d c)) old ∙ e)
              | inr is_new ↦
                  let above : tx ≡ text = one_text u kept tx text up.0 old (at ∙ ap Some (sym is_new.0)) (subst (λ d. body_is is_directory u d ≡ true) (sym is_new.0) directory) in
                  inr ((λ k. is_new.1 k ∷ above k), is_new.2)
            ]
        | inr below_new ↦ absurd (no_entry_below c i (subst (λ d. entry v d c ≡ Some i) below_new.1 up.2))
      ]

-- ---- what an added node and a further name change

bare_entries : (f : List Entry → List Entry) (b : Body) → bare_body (with_entries f b) ≡ bare_body b
bare_entries f (Directory es standing) = refl
bare_entries f (RegularFile bytes) = refl
bare_entries f (SymbolicLink text) = refl
bare_entries f (ProcessDirectory standing) = refl

bare_standing : (s : Option Standing) (b : Body) → bare_body (with_standing s b) ≡ bare_body b
bare_standing s (Directory es standing) = refl
bare_standing s (RegularFile bytes) = refl
bare_standing s (SymbolicLink text) = refl
bare_standing s (ProcessDirectory standing) = refl

-- a node of an inode
node_at : (o : Option Inode) (n : Node) → option_map (λ x. x.node) o ≡ Some n → (x : Inode) × (o ≡ Some x) × (x.node ≡ n)
node_at None n is = cc
node_at (Some x) n is = (x, refl, cc)

entries_at : (t : Tree) (d : ℕ) (x : Inode) → inode t d ≡ Some x → entries t d ≡ entries_of x.node.body
entries_at t d x is = ap (λ o. option_map_or (λ z. entries_of z.node.body) o []) is

same_entries_at : (t u : Tree) (d : ℕ) → inode u d ≡ inode t d → entries u d ≡ entries t d
same_entries_at t u d same = ap (λ o. option_map_or (λ z. entries_of z.node.body) o []) same

module _ (u : Tree) (kept : IsKept u) (dir : ℕ) (name : List ℕ) (takes : body_is takes_names u dir ≡ true) (free : entry u dir name ≡ None) where
  pub directory_there : (x : Inode) × (inode u dir ≡ Some x) × (takes_names x.node.body ≡ true)
  directory_there = passing takes_names (inode u dir) takes

  pub added_grows : (mode uid gid : ℕ) (b : Body) → entries_of b ≡ [] → Grows u (added dir name mode uid gid b u) dir name u.next
  added_grows mode uid gid b none =
      let v : Tree = added dir name mode uid gid b u in
      let at = directory_there in
      let x : Inode = at.0 in
      let f : Inode → Inode = with_entry name u.next (is_directory b) in
      let m : Inodes = with_inode dir f u.inodes in
      let y : Inode = fresh mode uid gid (with_standing (next_standing u dir) b) in
      let numbered : (d : ℕ) (z : Inode) → inode u d ≡ Some z → d ≢ u.next = (λ d z is same. let below = (kept.sound.numbered d z is).1 in omega (arith, below, same)) in
      let here : inode v dir ≡ Some (f x) = get-insert_other m u.next y dir (numbered dir x at.1) ∙ get-changed_same u.inodes dir f ∙ ap (option_map f) at.1 in
      let away : (d : ℕ) (z : Inode) → inode u d ≡ Some z → d ≢ dir → inode v d ≡ inode u d = (λ d z is other. get-insert_other m u.next y d (numbered d z is) ∙ get-changed_other u.inodes dir f d other) in
      let e : Entry = record { name = name; serial = x.next_serial; inode = u.next } in
      record {
        new = e;
        new_name = refl;
        new_inode = refl;
        at_dir = entries_at v dir (f x) here ∙ entries-with_entries (λ es. es ++ e ∷ []) x.node.body (takes-is_listed x.node.body at.2) ∙ ap (λ es. es ++ e ∷ []) (sym (entries_at u dir x at.1));
        elsewhere = λ d z is other. same_entries_at u v d (away d z is other);
        leaf = entries_at v u.next y (get-insert_same m u.next y) ∙ entries-with_standing (next_standing u dir) b ∙ none;
        free = free;
        bare_kept = λ i n is. let z = node_at (inode u i) n is in
            by_key (λ q. inode u q ≡ Some z.0 → option_map bare (node v q) ≡ Some (bare n)) dir
            (λ h.
            let same : x ≡ z.0 = some_is x z.0 (sym at.1 ∙ h) in
            let body : bare_body (f x).node.body ≡ bare_body x.node.body = bare_entries (λ es. es ++ e ∷ []) x.node.body in
            ap (λ o. option_map bare (option_map (λ w. w.node) o)) here
            ∙ ap (λ bb. Some (record { mode = x.node.mode; uid = x.node.uid; gid = x.node.gid; body = bb })) body
            ∙ ap (λ w. Some (bare w.node)) same ∙ ap (λ w. Some (bare w)) z.2)
            (λ q other h. ap (λ o. option_map bare (option_map (λ w. w.node) o)) (away q z.0 h other ∙ h) ∙ ap (λ w. Some (bare w)) z.2) i z.1;
      }

  pub added_shows : (mode uid gid : ℕ) (b : Body) → option_map bare (node (added dir name mode uid gid b u) u.next) ≡ Some (record { mode = mode; uid = uid; gid = gid; body = bare_body b })
  added_shows mode uid gid b =
      let y : Inode = fresh mode uid gid (with_standing (next_standing u dir) b) in
      ap (λ o. option_map bare (option_map (λ w. w.node) o)) (get-insert_same (with_inode dir (with_entry name u.next (is_directory b)) u.inodes) u.next y)
      ∙ ap (λ bb. Some (record { mode = mode; uid = uid; gid = gid; body = bb })) (bare_standing (next_standing u dir) b)

  pub linked_grows : (file : ℕ) → body_is is_file u file ≡ true → Grows u (linked dir name file u) dir name file
  linked_grows file is_a_file =
      let v : Tree = linked dir name file u in
      let at = directory_there in
      let x : Inode = at.0 in
      let f : Inode → Inode = with_entry name file false in
      let g : Inode → Inode = with_names (λ n. n + 1) in
      let m : Inodes = with_inode dir f u.inodes in
      let w = passing is_file (inode u file) is_a_file in
      let apart : dir ≢ file = (λ same. not_both x.node.body at.2 (subst (λ z. is_file z.node.body ≡ true) (some_is w.0 x (sym w.1 ∙ ap (inode u) (sym same) ∙ at.1)) w.2)) in
      let here : inode v dir ≡ Some (f x) = get-changed_other m file g dir apart ∙ get-changed_same u.inodes dir f ∙ ap (option_map f) at.1 in
      let there : inode v file ≡ Some (g w.0) = get-changed_same m file g ∙ ap (option_map g) (get-changed_other u.inodes dir f file (λ same. apart (sym same)) ∙ w.1) in
      let away : (d : ℕ) → d ≢ dir → d ≢ file → inode v d ≡ inode u d = (λ d other another. get-changed_other m file g d another ∙ get-changed_other u.inodes dir f d other) in
      let e : Entry = record { name = name; serial = x.next_serial; inode = file } in
      let no_entries : entries_of w.0.node.body ≡ [] = leaf_body w.0.node.body w.2 in
      record {
        new = e;
        new_name = refl;
        new_inode = refl;
        at_dir = entries_at v dir (f x) here ∙ entries-with_entries (λ es. es ++ e ∷ []) x.node.body (takes-is_listed x.node.body at.2) ∙ ap (λ es. es ++ e ∷ []) (sym (entries_at u dir x at.1));
        elsewhere = λ d z is other. by_key (λ q. q ≢ dir → entries v q ≡ entries u q) file
            (λ _. entries_at v file (g w.0) there ∙ sym (entries_at u file w.0 w.1))
            (λ q another o. same_entries_at u v q (away q o another)) d other;
        leaf = entries_at v file (g w.0) there ∙ no_entries;
        free = free;
        bare_kept = λ i n is. let z = node_at (inode u i) n is in
            by_key (λ q. inode u q ≡ Some z.0 → option_map bare (node v q) ≡ Some (bare n)) dir
            (λ h.
            let same : x ≡ z.0 = some_is x z.0 (sym at.1 ∙ h) in
            let body : bare_body (f x).node.body ≡ bare_body x.node.body = bare_entries (λ es. es ++ e ∷ []) x.node.body in
            ap (λ o. option_map bare (option_map (λ k. k.node) o)) here
            ∙ ap (λ bb. Some (record { mode = x.node.mode; uid = x.node.uid; gid = x.node.gid; body = bb })) body
            ∙ ap (λ k. Some (bare k.node)) same ∙ ap (λ k. Some (bare k)) z.2)
            (λ q other h. by_key (λ r. r ≢ dir → inode u r ≡ Some z.0 → option_map bare (node v r) ≡ Some (bare n)) file
            (λ _ h2. ap (λ o. option_map bare (option_map (λ k. k.node) o)) there ∙ ap (λ k. Some (bare k.node)) (some_is w.0 z.0 (sym w.1 ∙ h2)) ∙ ap (λ k. Some (bare k)) z.2)
            (λ r another o h2. ap (λ k. option_map bare (option_map (λ l. l.node) k)) (away r o another ∙ h2) ∙ ap (λ k. Some (bare k)) z.2) q other h) i z.1;
      }
    where
      not_both : (b : Body) → takes_names b ≡ true → is_file b ≡ true → ⊥
      not_both (Directory es standing) one two = cc
      not_both (RegularFile bytes) one two = cc
      not_both (SymbolicLink text) one two = cc
      not_both (ProcessDirectory standing) one two = cc

      leaf_body : (b : Body) → is_file b ≡ true → entries_of b ≡ []
      leaf_body (Directory es standing) two = cc
      leaf_body (RegularFile bytes) two = refl
      leaf_body (SymbolicLink text) two = refl
      leaf_body (ProcessDirectory standing) two = refl
