-- A tree after an entry was moved onto another's name.
use Rattle.std.specs.FinMap as map
use Rattle.std.proofs.Common.{◌≡◌, ◌≢◌, inl, inr, subst, ℕ, ◌-◌, ◌≤◌, ◌<◌, Bool, true, false, List, [], length, cond, refl, sym, ap, ◌∙◌, arith, Option, Some, None}
use Rattle.std.specs.Prelude.{bytes_eq, IfSome}
use Rattle.std.specs.Option.{option_map, option_map_or, option_and_then}
use Rattle.std.proofs.lemmas.Bool.{cases_eq}
use Rattle.std.proofs.lemmas.Slice.Eq.{bytes_eq-Decides}
use Rattle.kr_tree.specs.Tree.{Tree, Inode, Inodes, inode, entry, entry_named, entries, entries_of, standing, standing_of, above, body_is, is_directory, is_filled, takes_names, bytes_of}
use Rattle.kr_tree.specs.Names.{is_name}
use Rattle.kr_tree.specs.Changes.{with_inode, with_body, with_standing, with_entry, without_entry, without_name, next_serial, next_standing, moved, unlinked, unnamed, without_unused, freed, is_unused, counted}
use Rattle.kr_tree.specs.Lawful.{IsKept, IsBelow, Here, Below, directories_in, AreBytes}
use Rattle.kr_inode.proofs.pr_base.MapLemmas.{get-changed_same, get-changed_other, stays-changed, changed-swap, changed-twice}
use Rattle.kr_tree.proofs.InodesLemmas.{get-unused_other, unused_same, unused-with}
use Rattle.kr_inode.proofs.EntryLemmas.{named_in, named-without, named-gone}
use Rattle.kr_inode.proofs.BodyLemmas.{entries-with_entries, standing-with_entries, is_directory-with_entries, takes-with_entries, takes-is_listed, filled-entries, standing-without}
use Rattle.kr_tree.proofs.AddLemmas.{passing}
use Rattle.kr_tree.proofs.CountLemmas.{directories-at}
use Rattle.kr_tree.proofs.RemoveLemmas.{entry_found, kept-unlinked, kept-removed, name_left}
use Rattle.kr_tree.proofs.MoveLemmas.{kept-move}

-- what has an entry isn't empty
has_entry : (t : Tree) (k : ℕ) (name : List ℕ) (i : ℕ) → entry t k name ≡ Some i → body_is is_filled t k ≡ false → ⊥
has_entry t k name i is empty = elim (inode t k) as (λ o. option_map (λ e. e.inode) (entry_named name (option_map_or (λ z. entries_of z.node.body) o [])) ≡ Some i → option_map_or (λ z. is_filled z.node.body) o false ≡ false → ⊥) [
  | None ↦ λ is _. absurd cc
  | Some z ↦ λ is empty. let none : None ≡ Some i = ap (λ es. option_map (λ e. e.inode) (entry_named name es)) (sym (filled-entries z.node.body empty)) ∙ is in absurd cc
] is empty

module _ (t : Tree) (h : IsKept t) (dir : ℕ) (name : List ℕ) (to : ℕ) (new : List ℕ) (i old : ℕ)
    (is : entry t dir name ≡ Some i) (takes : body_is takes_names t to ≡ true) (well : is_name new ≡ true) (there : entry t to new ≡ Some old) (apart : old ≢ i)
    (alike : body_is is_directory t old ≡ body_is is_directory t i) (empty : body_is is_filled t old ≡ false) (aside : body_is is_directory t i ≡ true → ¬ IsBelow t i to) (new_bytes : AreBytes new) where
  abbrev shrink : Inode → Inode
  shrink = without_entry new (body_is is_directory t old)

  abbrev m : Inodes
  m = with_inode to shrink t.inodes

  -- without the entry that is replaced
  abbrev v : Tree
  v = unlinked to new old t

  dir_apart : dir ≢ old
  dir_apart s = has_entry t dir name i is (ap (body_is is_filled t) s ∙ empty)

  to_apart : to ≢ old
  to_apart s = has_entry t to new old there (ap (body_is is_filled t) s ∙ empty)

  other_is : (q : ℕ) → q ≢ old → inode v q ≡ map.get m q
  other_is q n = get-unused_other (with_inode old unnamed m) old q n ∙ get-changed_other m old unnamed q n

  stays : {A : Type 0} (f : Option Inode → A) → ((z : Inode) → f (Some (shrink z)) ≡ f (Some z)) → (q : ℕ) → q ≢ old → f (inode v q) ≡ f (inode t q)
  stays f same q n = ap f (other_is q n) ∙ stays-changed f t.inodes to shrink same q

  standing_old : standing v old ≡ None
  standing_old = unused_same (option_and_then (λ z. standing_of z.node.body)) (with_inode old unnamed m) old
      (ap (option_and_then (λ z. standing_of z.node.body)) (get-changed_same m old unnamed) ∙ none (map.get m old))
    where
      none : (o : Option Inode) → option_and_then (λ z. standing_of z.node.body) (option_map unnamed o) ≡ None
      none None = refl
      none (Some z) = standing-without z.node.body

  standing_other : (q : ℕ) → q ≢ old → standing v q ≡ standing t q
  standing_other = stays (option_and_then (λ z. standing_of z.node.body)) (λ z. standing-with_entries (without_name new) z.node.body)

  above_before : (q up : ℕ) → above v q ≡ Some up → above t q ≡ Some up
  above_before q up a = elim (cases_eq q old) [
    | inl s ↦ let no : None ≡ Some up = sym (ap (option_map (λ s. s.inode)) (ap (standing v) s ∙ standing_old)) ∙ a in absurd cc
    | inr n ↦ sym (ap (option_map (λ s. s.inode)) (standing_other q n)) ∙ a
  ]

  below_before : (q : ℕ) → IsBelow v i q → IsBelow t i q
  below_before q Here = Here
  below_before q (Below {up = up} n a r) = Below n (above_before q up a) (below_before up r)

  entries_to : entries v to ≡ without_name new (entries t to)
  entries_to =
      let w = passing takes_names (inode t to) takes in
      ap (λ o. option_map_or (λ z. entries_of z.node.body) o []) (other_is to to_apart ∙ get-changed_same t.inodes to shrink ∙ ap (option_map shrink) w.1)
      ∙ entries-with_entries (without_name new) w.0.node.body (takes-is_listed w.0.node.body w.2)
      ∙ ap (λ o. without_name new (option_map_or (λ z. entries_of z.node.body) o [])) (sym w.1)

  names_apart : dir ≡ to → bytes_eq new name ≡ false
  names_apart s = elim (bytes_eq new name) as (λ b. bytes_eq new name ≡ b → b ≡ false) [
    | true ↦ λ e.
        let same : new ≡ name = (bytes_eq-Decides new name).0 e in
        let both : Some old ≡ Some i = sym there ∙ ap (λ k. entry t k new) (sym s) ∙ ap (entry t dir) same ∙ is in
        absurd (apart (ap (λ o. option_map_or (λ s. s) o old) both))
    | false ↦ λ _. refl
  ] refl

  is_still : entry v dir name ≡ Some i
  is_still = ap (option_map (λ e. e.inode)) found ∙ is
    where
      found : entry_named name (entries v dir) ≡ entry_named name (entries t dir)
      found = elim (cases_eq dir to) [
        | inl s ↦ ap (λ k. entry_named name (entries v k)) s ∙ ap (entry_named name) entries_to ∙ named-without name new (entries t to) (names_apart s) ∙ ap (λ k. entry_named name (entries t k)) (sym s)
        | inr d ↦ ap (λ o. entry_named name (option_map_or (λ z. entries_of z.node.body) o [])) (other_is dir dir_apart ∙ get-changed_other t.inodes to shrink dir d)
      ]

  takes_still : body_is takes_names v to ≡ true
  takes_still = stays (λ o. option_map_or (λ z. takes_names z.node.body) o false) (λ z. takes-with_entries (without_name new) z.node.body) to to_apart ∙ takes

  free_now : entry v to new ≡ None
  free_now = ap (λ es. option_map (λ e. e.inode) (entry_named new es)) entries_to ∙ ap (option_map (λ e. e.inode)) (named-gone new (entries t to))

  directory_still : body_is is_directory v i ≡ body_is is_directory t i
  directory_still = stays (λ o. option_map_or (λ z. is_directory z.node.body) o false) (λ z. is_directory-with_entries (without_name new) z.node.body) i (λ s. apart (sym s))

  serial_still : next_serial v to ≡ next_serial t to
  serial_still = stays (λ o. option_map_or (λ z. z.next_serial) o 0) (λ _. refl) to to_apart

  aside_still : body_is is_directory v i ≡ true → ¬ IsBelow v i to
  aside_still d below = aside (sym directory_still ∙ d) (below_before to below)

  -- the inodes as the code leaves them, and how many bytes went
  abbrev regrow : Inode → Inode
  regrow = λ z. with_entry new i (body_is is_directory t i) (without_entry new (body_is is_directory t i) z)

  abbrev replaced : Inodes
  replaced = with_inode old unnamed (with_inode to regrow t.inodes)

  grow_last : replaced ≡ with_inode to (with_entry new i (body_is is_directory t i)) (with_inode old unnamed m)
  grow_last =
      ap (λ b. with_inode old unnamed (with_inode to (λ z. with_entry new i (body_is is_directory t i) (without_entry new b z)) t.inodes)) (sym alike)
      ∙ ap (with_inode old unnamed) (sym (changed-twice t.inodes to (with_entry new i (body_is is_directory t i)) shrink))
      ∙ changed-swap m old to unnamed (with_entry new i (body_is is_directory t i)) (λ s. to_apart (sym s))

  dropped_last : without_unused old replaced ≡ with_inode to (with_entry new i (body_is is_directory t i)) v.inodes
  dropped_last = ap (without_unused old) grow_last ∙ unused-with (with_inode old unnamed m) old to (with_entry new i (body_is is_directory t i)) (λ s. to_apart (sym s))

  freed_same : freed old replaced ≡ freed old (with_inode old unnamed m)
  freed_same = ap (freed old) grow_last
      ∙ ap (λ o. cond (option_map_or is_unused o false) (option_map_or (λ z. length (bytes_of z.node.body)) o 0) 0) (get-changed_other (with_inode old unnamed m) to (with_entry new i (body_is is_directory t i)) old (λ s. to_apart (sym s)))

  abbrev form : ℕ → Bool → Inodes → Inodes
  form n b k = with_inode i (with_body (with_standing (Some (record { inode = to; serial = n })))) (with_inode dir (without_entry name b) k)

  pub kept-replaced : (n : Inodes)
      → n ≡ with_inode i (with_body (with_standing (next_standing t to))) (with_inode dir (without_entry name (body_is is_directory t i)) (without_unused old replaced))
      → (gone : ℕ) → gone ≡ freed old replaced
      → IsKept (record { inodes = n; next = t.next; names = t.names - 1; bytes = t.bytes - gone })
      × (record { inodes = n; next = t.next; names = t.names - 1; bytes = t.bytes - gone } ≡ moved dir name to new i v) × (gone ≤ t.bytes)
  kept-replaced n n_is gone gone_is =
      let shape : n ≡ form (next_serial v to) (body_is is_directory v i) (with_inode to (with_entry new i (body_is is_directory v i)) v.inodes) =
      n_is ∙ ap (form (next_serial t to) (body_is is_directory t i)) dropped_last
      ∙ ap (λ s. form s (body_is is_directory t i) (with_inode to (with_entry new i (body_is is_directory t i)) v.inodes)) (sym serial_still)
      ∙ ap (λ b. form (next_serial v to) b (with_inode to (with_entry new i b) v.inodes)) (sym directory_still) in
      let moved_on = kept-move v (kept-unlinked t h to new old there empty) dir name to new i is_still takes_still well free_now aside_still new_bytes n shape in
      let bytes : gone ≡ freed old (with_inode old unnamed m) = gone_is ∙ freed_same in
      let few = (kept-removed t h to new old there empty (body_is is_directory t old) refl (with_inode old unnamed m) refl (without_unused old (with_inode old unnamed m)) refl (freed old (with_inode old unnamed m)) refl).1 in
      let P : ℕ → Type 0 = λ k. IsKept (record { inodes = n; next = t.next; names = t.names - 1; bytes = t.bytes - k })
      × (record { inodes = n; next = t.next; names = t.names - 1; bytes = t.bytes - k } ≡ moved dir name to new i v) × (k ≤ t.bytes) in
      subst P (sym bytes) (moved_on.0, ap (λ k. record { inodes = k; next = v.next; names = v.names; bytes = v.bytes }) moved_on.1, few)

  -- the replaced inode has a name to lose
  pub name_to_lose : 0 < option_map_or (λ z. z.names) (map.get (with_inode to regrow t.inodes) old) 1
  name_to_lose =
      subst (λ o. 0 < option_map_or (λ z. z.names) o 1)
      (get-changed_other t.inodes to shrink old (λ s. to_apart (sym s)) ∙ sym (get-changed_other t.inodes to regrow old (λ s. to_apart (sym s))))
      (name_left t h to new old there empty (body_is is_directory t old))

  -- a directory is counted where one is replaced
  pub enough_left : (z : Inode) → inode t to ≡ Some z → counted (body_is is_directory t i) ≤ z.directories
  enough_left z at =
      let e = entry_found new (entry_named new (entries t to)) old there in
      let one = directories-at t e.0 (entries t to) (named_in new (entries t to) e.0 e.1).0 in
      let kind : counted (body_is is_directory t e.0.inode) ≡ counted (body_is is_directory t i) = ap counted (ap (body_is is_directory t) e.2 ∙ alike) in
      let all : z.directories ≡ directories_in t (entries t to) = sym (ap (λ o. option_map_or (λ z. z.directories) o 0) at) ∙ h.counted.directories to in
      omega arith

-- ---- the same, step by step as the code does it

-- what is asked of the tree
pub record IsOnto (t : Tree) (dir : ℕ) (name : List ℕ) (to : ℕ) (new : List ℕ) (ino old : ℕ) : Type 0 where
  pub there : entry t dir name ≡ Some ino
  pub takes : body_is takes_names t to ≡ true
  pub well_formed : is_name new ≡ true
  pub named : entry t to new ≡ Some old
  pub apart : old ≢ ino
  pub alike : body_is is_directory t old ≡ body_is is_directory t ino
  pub empty : body_is is_filled t old ≡ false
  pub aside : body_is is_directory t ino ≡ true → ¬ IsBelow t ino to
  pub bytes : AreBytes new

-- what each step left, and how many bytes went
pub record Steps (t : Tree) (dir : ℕ) (name : List ℕ) (to : ℕ) (new : List ℕ) (ino old : ℕ) (m : Inodes) (gone : ℕ) : Type 0 where
  pub is_dir : Bool
  pub dir_is : is_dir ≡ body_is is_directory t ino
  pub serial : ℕ
  pub serial_is : serial ≡ next_serial t to
  pub replaced : Inodes
  pub replaced_is : replaced ≡ with_inode to (λ x. with_entry new ino is_dir (without_entry new is_dir x)) t.inodes
  pub parted : Inodes
  pub parted_is : parted ≡ with_inode old unnamed replaced
  pub dropped : Inodes
  pub dropped_is : dropped ≡ without_unused old parted
  pub gone_is : gone ≡ freed old parted
  pub emptied : Inodes
  pub emptied_is : emptied ≡ with_inode dir (without_entry name is_dir) dropped
  pub m_is : m ≡ with_inode ino (with_body (with_standing (Some (record { inode = to; serial = serial })))) emptied

regrown_is : (m n : Inodes) (to : ℕ) (new : List ℕ) (ino : ℕ) (b d : Bool) → b ≡ d
    → n ≡ with_inode to (λ x. with_entry new ino b (without_entry new b x)) m → n ≡ with_inode to (λ x. with_entry new ino d (without_entry new d x)) m
regrown_is m n to new ino b d same is = is ∙ ap (λ b. with_inode to (λ x. with_entry new ino b (without_entry new b x)) m) same

-- the replaced inode has a name to lose
pub name_is_left : (t : Tree) → IsKept t → (dir : ℕ) (name : List ℕ) (to : ℕ) (new : List ℕ) (ino old : ℕ) → IsOnto t dir name to new ino old
    → (b : Bool) → b ≡ body_is is_directory t ino → (m : Inodes) → m ≡ with_inode to (λ x. with_entry new ino b (without_entry new b x)) t.inodes
    → 0 < option_map_or (λ z. z.names) (map.get m old) 1
name_is_left t h dir name to new ino old on b dirs m m_is =
    let P : Inodes → Type 0 = λ m. 0 < option_map_or (λ z. z.names) (map.get m old) 1 in
    subst P (sym (regrown_is t.inodes m to new ino b (body_is is_directory t ino) dirs m_is))
    (name_to_lose t h dir name to new ino old on.there on.takes on.well_formed on.named on.apart on.alike on.empty on.aside on.bytes)

-- there are directories enough where one is replaced
pub directories_left : (t : Tree) → IsKept t → (dir : ℕ) (name : List ℕ) (to : ℕ) (new : List ℕ) (ino old : ℕ) → IsOnto t dir name to new ino old
    → (b : Bool) → b ≡ body_is is_directory t ino → IfSome (map.get t.inodes to) (λ x. counted b ≤ x.directories)
directories_left t h dir name to new ino old on b dirs =
    elim (map.get t.inodes to) as (λ o. map.get t.inodes to ≡ o → IfSome o (λ x. counted b ≤ x.directories)) [
      | None ↦ λ _. tt
      | Some x ↦ λ at. subst (λ b. counted b ≤ x.directories) (sym dirs) (enough_left t h dir name to new ino old on.there on.takes on.well_formed on.named on.apart on.alike on.empty on.aside on.bytes x at)
    ] refl

pub kept-onto : (t : Tree) → IsKept t → (dir : ℕ) (name : List ℕ) (to : ℕ) (new : List ℕ) (ino old : ℕ) → IsOnto t dir name to new ino old → (m : Inodes) (gone : ℕ) → Steps t dir name to new ino old m gone
    → IsKept (record { inodes = m; next = t.next; names = t.names - 1; bytes = t.bytes - gone })
    × (record { inodes = m; next = t.next; names = t.names - 1; bytes = t.bytes - gone } ≡ moved dir name to new ino (unlinked to new old t)) × (gone ≤ t.bytes)
kept-onto t h dir name to new ino old on m gone s =
    let dirs : Bool = body_is is_directory t ino in
    let after : Bool → Inodes = λ b. with_inode old unnamed (with_inode to (λ x. with_entry new ino b (without_entry new b x)) t.inodes) in
    let parted : s.parted ≡ after dirs = s.parted_is ∙ ap (with_inode old unnamed) (regrown_is t.inodes s.replaced to new ino s.is_dir dirs s.dir_is s.replaced_is) in
    let form : ℕ → Bool → Inodes → Inodes = λ n b m. with_inode ino (with_body (with_standing (Some (record { inode = to; serial = n })))) (with_inode dir (without_entry name b) m) in
    kept-replaced t h dir name to new ino old on.there on.takes on.well_formed on.named on.apart on.alike on.empty on.aside on.bytes
    m
    (s.m_is
    ∙ ap (with_inode ino (with_body (with_standing (Some (record { inode = to; serial = s.serial }))))) (s.emptied_is ∙ ap (with_inode dir (without_entry name s.is_dir)) (s.dropped_is ∙ ap (without_unused old) parted))
    ∙ ap (λ b. form s.serial b (without_unused old (after dirs))) s.dir_is
    ∙ ap (λ n. form n dirs (without_unused old (after dirs))) s.serial_is)
    gone
    (s.gone_is ∙ ap (freed old) parted)
