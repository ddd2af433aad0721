-- A tree after an entry was moved to a free name.
use Rattle.std.specs.FinMap as map
use Rattle.std.proofs.Common.{◌≡◌, ◌≢◌, ◌⊎◌, inl, inr, subst, ℕ, ◌+◌, ◌-◌, ◌≤◌, Bool, true, false, List, [], ◌∷◌, ◌++◌, length, length-append, refl, sym, ap, ◌∙◌, arith, Option, Some, None, nat_eq}
use Rattle.std.specs.Prelude.{bytes_eq}
use Rattle.std.specs.Option.{option_map, option_map_or, option_and_then}
use Rattle.std.proofs.lemmas.Bool.{cases_eq}
use Rattle.std.proofs.lemmas.Slice.Eq.{bytes_eq-Decides}
use Rattle.kr_inode.specs.declared.standing.Standing.{Standing}
use Rattle.kr_tree.specs.Tree.{Tree, Inode, Inodes, Entry, RegularFile, root, inode, entry, entry_named, entries, entries_of, standing, standing_of, above, body_is, is_directory, is_listed, takes_names, bytes_of}
use Rattle.kr_tree.specs.Names.{is_name}
use Rattle.kr_inode.specs.Entries.{IsListed}
use Rattle.kr_tree.specs.Changes.{with_inode, with_body, with_standing, with_entry, without_entry, without_name, next_serial, next_standing, moved, is_unused, counted, file_limit}
use Rattle.kr_tree.specs.Lawful.{IsKept, IsSound, IsCounted, HasNoUnused, RisesToEnd, AtRoot, AtRemoved, Above, IsBelow, Here, Below, IsIn, entries_beside, count_in, directories_in, names_of, total, AreBytes}
use Rattle.kr_inode.proofs.pr_base.MapLemmas.{get-changed_same, get-changed_other, len-changed, stays-changed, there-changed, each-changed, changed-swap, changed-twice, changed-alike}
use Rattle.kr_tree.proofs.OfBytesLemmas.{of_bytes-moved}
use Rattle.kr_inode.proofs.EntryLemmas.{listed-new, listed-without, named_in, in_named, in_above, serial_alone, in_without, in_still, none-without, without-new, weighed, weighed-without, in-new, in-last, in-append}
use Rattle.kr_inode.proofs.BodyLemmas.{entries-with_entries, standing-with_entries, is_directory-with_entries, is_listed-with_entries, takes-with_entries, with_entries-swap, bytes-with_entries, file-with_entries, entries-with_standing, standing-with_standing, is_directory-with_standing, is_listed-with_standing, bytes-with_standing, file-with_standing, stands-nowhere, takes-is_listed, takes-stands, listed-is_directory, entries-is_listed}
use Rattle.kr_tree.proofs.NameLemmas.{listed_in, filled_directory}
use Rattle.kr_tree.proofs.AddLemmas.{passing, none_of}
use Rattle.kr_tree.proofs.CountLemmas.{value, sum-with, count-new, directories-same, directories-new, entries_there, there}
use Rattle.kr_tree.proofs.RemoveLemmas.{weighed-count, weighed-directories, weighed-length, entry_found}

-- ---- what an entry stands for

-- going up from a directory that stands in itself one comes to no end
turns : (t : Tree) (k : ℕ) → RisesToEnd t k → k ≢ root → above t k ≡ Some k → ⊥
turns t k AtRoot away h = away refl
turns t k (AtRemoved n) away h = let no : None ≡ Some k = sym n ∙ h in absurd cc
turns t k (Above {up = up} a r) away h =
    let same : up ≡ k = ap (λ o. option_map_or (λ s. s) o up) (sym a ∙ h) in
    turns t up r (λ e. away (sym same ∙ e)) (ap (above t) same ∙ h ∙ ap Some (sym same))

module _ (t : Tree) (sound : IsSound t) where
  -- no entry stands for the root, nor for its own directory
  entry_not_root : (k : ℕ) (e : Entry) → IsIn e (entries t k) → body_is is_directory t e.inode ≡ true → e.inode ≢ root
  entry_not_root k e is dirs same =
      let stood = sound.alone k e is dirs in
      let both : ◌≡◌ {A = Option Standing} (Some (record { inode = k; serial = e.serial })) (Some (record { inode = root; serial = 0 })) = sym stood ∙ ap (standing t) same ∙ sound.rooted in
      let zero : e.serial ≡ 0 = ap (λ o. option_map_or (λ s. s.serial) o 0) both in
      let list = listed_in t sound k e is in
      let low = in_above 2 list.0 (entries t k) e list.1.rises is in
      absurd (omega arith)

  entry_not_itself : (k : ℕ) (e : Entry) → IsIn e (entries t k) → e.inode ≢ k
  entry_not_itself k e is same =
      let dirs : body_is is_directory t k ≡ true = filled_directory t sound k e is in
      let stood : standing t k ≡ Some (record { inode = k; serial = e.serial }) = ap (standing t) (sym same) ∙ sound.alone k e is (ap (body_is is_directory t) same ∙ dirs) in
      turns t k (sound.rises k dirs) (λ r. entry_not_root k e is (ap (body_is is_directory t) same ∙ dirs) (same ∙ r)) (ap (option_map (λ s. s.inode)) stood)

module _ (t : Tree) (sound : IsSound t) (counts : IsCounted t) (dir : ℕ) (name : List ℕ) (to : ℕ) (new : List ℕ) (i : ℕ)
    (is : entry t dir name ≡ Some i) (takes : body_is takes_names t to ≡ true) (well : is_name new ≡ true) (free : entry t to new ≡ None)
    (aside : body_is is_directory t i ≡ true → ¬ IsBelow t i to) where
  abbrev dirs : Bool
  dirs = body_is is_directory t i

  abbrev shrink : Inode → Inode
  shrink = without_entry name dirs

  abbrev grow : Inode → Inode
  grow = with_entry new i dirs

  abbrev stand : Inode → Inode
  stand = with_body (with_standing (next_standing t to))

  abbrev m1 : Inodes
  m1 = with_inode dir shrink t.inodes

  abbrev m2 : Inodes
  m2 = with_inode to grow m1

  abbrev u : Tree
  u = moved dir name to new i t

  -- ---- the entry, its directory and its inode

  e : Entry
  e = (entry_found name (entry_named name (entries t dir)) i is).0

  found : entry_named name (entries t dir) ≡ Some e
  unfolding e
  found = (entry_found name (entry_named name (entries t dir)) i is).1

  e_is : e.inode ≡ i
  unfolding e
  e_is = (entry_found name (entry_named name (entries t dir)) i is).2

  e_in : IsIn e (entries t dir)
  e_in = (named_in name (entries t dir) e found).0

  x : Inode
  x = (entries_there t dir e e_in).0

  at_dir : inode t dir ≡ Some x
  unfolding x
  at_dir = (entries_there t dir e e_in).1

  y : Inode
  y = (there t sound counts dir e e_in).0

  at_i : inode t i ≡ Some y
  unfolding y
  at_i = ap (inode t) (sym e_is) ∙ (there t sound counts dir e e_in).1

  entries_at : entries t dir ≡ entries_of x.node.body
  entries_at = ap (λ o. option_map_or (λ z. entries_of z.node.body) o []) at_dir

  x_listed : is_listed x.node.body ≡ true
  x_listed = let P : List Entry → Type 0 = λ es. IsIn e es in entries-is_listed x.node.body e (subst P entries_at e_in)

  x_kept : IsListed (entries_beside x)
  x_kept = sound.listed dir x at_dir

  dir_apart : dir ≢ i
  dir_apart same = entry_not_itself t sound dir e e_in (e_is ∙ sym same)

  to_takes : (w : Inode) × (inode t to ≡ Some w) × (takes_names w.node.body ≡ true)
  to_takes = passing takes_names (inode t to) takes

  to_apart : to ≢ i
  to_apart same =
      let dirs_to : body_is is_directory t to ≡ true = ap (λ o. option_map_or (λ z. is_directory z.node.body) o false) to_takes.1 ∙ listed-is_directory to_takes.0.node.body (takes-is_listed to_takes.0.node.body to_takes.2) in
      let P : ℕ → Type 0 = λ k. IsBelow t i k in
      aside (ap (body_is is_directory t) (sym same) ∙ dirs_to) (subst P (sym same) Here)

  root_apart : body_is is_directory t i ≡ true → root ≢ i
  root_apart h same = entry_not_root t sound dir e e_in (ap (body_is is_directory t) e_is ∙ h) (e_is ∙ sym same)

  -- ---- what is there

  takes1 : option_map_or (λ z. takes_names z.node.body) (map.get m1 to) false ≡ true
  takes1 = stays-changed (λ o. option_map_or (λ z. takes_names z.node.body) o false) t.inodes dir shrink (λ z. takes-with_entries (without_name name) z.node.body) to ∙ takes

  w : Inode
  w = (passing takes_names (map.get m1 to) takes1).0

  at_to : map.get m1 to ≡ Some w
  unfolding w
  at_to = (passing takes_names (map.get m1 to) takes1).1

  w_listed : is_listed w.node.body ≡ true
  unfolding w
  w_listed = takes-is_listed (passing takes_names (map.get m1 to) takes1).0.node.body (passing takes_names (map.get m1 to) takes1).2

  i_at : map.get m2 i ≡ Some y
  i_at = get-changed_other m1 to grow i (λ s. to_apart (sym s)) ∙ get-changed_other t.inodes dir shrink i (λ s. dir_apart (sym s)) ∙ at_i

  u_i : inode u i ≡ Some (stand y)
  u_i = get-changed_same m2 i stand ∙ ap (option_map stand) i_at

  -- what tells nothing of entries and standing stays
  stays : {A : Type 0} (f : Option Inode → A) → ((z : Inode) → f (Some (shrink z)) ≡ f (Some z)) → ((z : Inode) → f (Some (grow z)) ≡ f (Some z)) → ((z : Inode) → f (Some (stand z)) ≡ f (Some z))
      → (q : ℕ) → f (inode u q) ≡ f (inode t q)
  stays f one two three q = stays-changed f m2 i stand three q ∙ stays-changed f m1 to grow two q ∙ stays-changed f t.inodes dir shrink one q

  directories : (q : ℕ) → body_is is_directory u q ≡ body_is is_directory t q
  directories = stays (λ o. option_map_or (λ z. is_directory z.node.body) o false)
      (λ z. is_directory-with_entries (without_name name) z.node.body)
      (λ z. is_directory-with_entries (λ es. es ++ (record { name = new; serial = z.next_serial; inode = i }) ∷ []) z.node.body)
      (λ z. is_directory-with_standing (next_standing t to) z.node.body)

  standing_other : (q : ℕ) → q ≢ i → standing u q ≡ standing t q
  standing_other q n =
      ap (option_and_then (λ z. standing_of z.node.body)) (get-changed_other m2 i stand q n)
      ∙ stays-changed (option_and_then (λ z. standing_of z.node.body)) m1 to grow (λ z. standing-with_entries (λ es. es ++ (record { name = new; serial = z.next_serial; inode = i }) ∷ []) z.node.body) q
      ∙ stays-changed (option_and_then (λ z. standing_of z.node.body)) t.inodes dir shrink (λ z. standing-with_entries (without_name name) z.node.body) q

  y_directory : is_directory y.node.body ≡ dirs
  y_directory = sym (ap (λ o. option_map_or (λ z. is_directory z.node.body) o false) at_i)

  standing_i : dirs ≡ true → standing u i ≡ next_standing t to
  standing_i h = ap (option_and_then (λ z. standing_of z.node.body)) u_i ∙ standing-with_standing (next_standing t to) y.node.body (y_directory ∙ h)

  standing_none : dirs ≡ false → standing u i ≡ None
  standing_none h = ap (option_and_then (λ z. standing_of z.node.body)) u_i
      ∙ stands-nowhere (with_standing (next_standing t to) y.node.body) (is_directory-with_standing (next_standing t to) y.node.body ∙ y_directory ∙ h)

  serial_is : w.next_serial ≡ next_serial t to
  serial_is = sym (ap (λ o. option_map_or (λ z. z.next_serial) o 0) at_to) ∙ stays-changed (λ o. option_map_or (λ z. z.next_serial) o 0) t.inodes dir shrink (λ _. refl) to

  abbrev e' : Entry
  e' = record { name = new; serial = w.next_serial; inode = i }

  -- ---- entries

  abbrev listing : Inodes → ℕ → List Entry
  listing m q = option_map_or (λ z. entries_of z.node.body) (map.get m q) []

  shrunk_entries : entries_of (shrink x).node.body ≡ without_name name (entries_of x.node.body)
  shrunk_entries = entries-with_entries (without_name name) x.node.body x_listed

  grown_entries : entries_of (grow w).node.body ≡ entries_of w.node.body ++ e' ∷ []
  grown_entries = entries-with_entries (λ es. es ++ e' ∷ []) w.node.body w_listed

  listing_dir : listing m1 dir ≡ without_name name (entries t dir)
  listing_dir = ap (λ o. option_map_or (λ z. entries_of z.node.body) o []) (get-changed_same t.inodes dir shrink ∙ ap (option_map shrink) at_dir) ∙ shrunk_entries ∙ ap (without_name name) (sym entries_at)

  listing_away : (q : ℕ) → q ≢ dir → listing m1 q ≡ entries t q
  listing_away q d = ap (λ o. option_map_or (λ z. entries_of z.node.body) o []) (get-changed_other t.inodes dir shrink q d)

  listing_to : listing m1 to ≡ entries_of w.node.body
  listing_to = ap (λ o. option_map_or (λ z. entries_of z.node.body) o []) at_to

  entries_last : (q : ℕ) → entries u q ≡ listing m2 q
  entries_last = stays-changed (λ o. option_map_or (λ z. entries_of z.node.body) o []) m2 i stand (λ z. entries-with_standing (next_standing t to) z.node.body)

  entries_to : entries u to ≡ listing m1 to ++ e' ∷ []
  entries_to = entries_last to ∙ ap (λ o. option_map_or (λ z. entries_of z.node.body) o []) (get-changed_same m1 to grow ∙ ap (option_map grow) at_to) ∙ grown_entries ∙ ap (λ es. es ++ e' ∷ []) (sym listing_to)

  entries_rest : (q : ℕ) → q ≢ to → entries u q ≡ listing m1 q
  entries_rest q n = entries_last q ∙ ap (λ o. option_map_or (λ z. entries_of z.node.body) o []) (get-changed_other m1 to grow q n)

  -- an entry that is left
  left : (q : ℕ) (z : Entry) → IsIn z (listing m1 q) → IsIn z (entries t q) × (q ≡ dir → bytes_eq name z.name ≡ false)
  left q z h = elim (cases_eq q dir) [
    | inl s ↦
        let P : List Entry → Type 0 = λ es. IsIn z es in
        let both = in_without name (entries t dir) z (subst P (ap (listing m1) s ∙ listing_dir) h) in
        (subst P (ap (entries t) (sym s)) both.0, λ _. both.1)
    | inr d ↦ let P : List Entry → Type 0 = λ es. IsIn z es in (subst P (listing_away q d) h, λ s. absurd (d s))
  ]

  leave : (q : ℕ) (z : Entry) → IsIn z (entries t q) → (q ≡ dir → bytes_eq name z.name ≡ false) → IsIn z (listing m1 q)
  leave q z h other = elim (cases_eq q dir) [
    | inl s ↦
        let P : List Entry → Type 0 = λ es. IsIn z es in
        subst P (sym (ap (listing m1) s ∙ listing_dir)) (in_still name (entries t dir) z (subst P (ap (entries t) s) h) (other s))
    | inr d ↦ let P : List Entry → Type 0 = λ es. IsIn z es in subst P (sym (listing_away q d)) h
  ]

  before : (q : ℕ) (z : Entry) → IsIn z (entries u q) → IsIn z (listing m1 q) ⊎ ((q ≡ to) × (e' ≡ z))
  before q z h = elim (cases_eq q to) [
    | inl s ↦
        let P : List Entry → Type 0 = λ es. IsIn z es in
        elim (in-append z e' (listing m1 to) (subst P (ap (entries u) s ∙ entries_to) h)) [
          | inl old ↦ inl (subst P (ap (listing m1) (sym s)) old)
          | inr last ↦ inr (s, last)
        ]
    | inr n ↦ let P : List Entry → Type 0 = λ es. IsIn z es in inl (subst P (entries_rest q n) h)
  ]

  after : (q : ℕ) (z : Entry) → IsIn z (listing m1 q) → IsIn z (entries u q)
  after q z h = elim (cases_eq q to) [
    | inl s ↦
        let P : List Entry → Type 0 = λ es. IsIn z es in
        subst P (sym (ap (entries u) s ∙ entries_to)) (in-new z e' (listing m1 to) (subst P (ap (listing m1) s) h))
    | inr n ↦ let P : List Entry → Type 0 = λ es. IsIn z es in subst P (sym (entries_rest q n)) h
  ]

  -- the entry that was moved is the one of its name
  only : (q : ℕ) (z : Entry) → IsIn z (entries t q) → q ≡ dir → bytes_eq name z.name ≡ true → z ≡ e
  only q z h s n =
      let P : List Entry → Type 0 = λ es. IsIn z es in
      let list = listed_in t sound dir e e_in in
      let first : entry_named name (entries t dir) ≡ Some z = in_named name (entries t dir) z list.1.distinct (subst P (ap (entries t) s) h) n in
      ap (λ o. option_map_or (λ s. s) o z) (sym first ∙ found)

  -- a directory's old entry is gone
  others : (q : ℕ) (z : Entry) → IsIn z (listing m1 q) → body_is is_directory t z.inode ≡ true → z.inode ≢ i
  others q z h is_dir s =
      let old = left q z h in
      let mine : standing t i ≡ Some (record { inode = dir; serial = e.serial }) = sym (ap (standing t) e_is) ∙ sound.alone dir e e_in (ap (body_is is_directory t) (e_is ∙ sym s) ∙ is_dir) in
      let its : standing t i ≡ Some (record { inode = q; serial = z.serial }) = sym (ap (standing t) s) ∙ sound.alone q z old.0 is_dir in
      let both : ◌≡◌ {A = Option Standing} (Some (record { inode = dir; serial = e.serial })) (Some (record { inode = q; serial = z.serial })) = sym mine ∙ its in
      let same_dir : dir ≡ q = ap (λ o. option_map_or (λ s. s.inode) o 0) both in
      let same_serial : e.serial ≡ z.serial = ap (λ o. option_map_or (λ s. s.serial) o 0) both in
      let list = listed_in t sound dir e e_in in
      let P : List Entry → Type 0 = λ es. IsIn z es in
      let same : e ≡ z = serial_alone 2 list.0 (entries t dir) e z list.1.rises e_in (subst P (ap (entries t) (sym same_dir)) old.0) same_serial in
      let no : true ≡ false = sym (named_in name (entries t dir) e found).1 ∙ ap (λ s. bytes_eq name s.name) same ∙ old.1 (sym same_dir) in
      absurd cc

  -- ---- the way up

  -- from what isn't at or below the moved directory
  rises_clear : (q : ℕ) → RisesToEnd t q → ¬ IsBelow t i q → RisesToEnd u q
  rises_clear q AtRoot clear = AtRoot
  rises_clear q (AtRemoved h) clear = AtRemoved (ap (option_map (λ s. s.inode)) (standing_other q (not_here q clear)) ∙ h)
    where
      not_here : (q : ℕ) → ¬ IsBelow t i q → q ≢ i
      not_here q clear s = let P : ℕ → Type 0 = λ k. IsBelow t i k in clear (subst P (sym s) Here)
  rises_clear q (Above {up = up} h r) clear = elim (cases_eq q root) [
    | inl s ↦ let P : ℕ → Type 0 = λ k. RisesToEnd u k in subst P (sym s) AtRoot
    | inr n ↦ Above (ap (option_map (λ s. s.inode)) (standing_other q (not_here q clear)) ∙ h) (rises_clear up r (λ below. clear (Below n h below)))
  ]
    where
      not_here : (q : ℕ) → ¬ IsBelow t i q → q ≢ i
      not_here q clear s = let P : ℕ → Type 0 = λ k. IsBelow t i k in clear (subst P (sym s) Here)

  rises_i : RisesToEnd u i
  rises_i = elim dirs as (λ b. dirs ≡ b → RisesToEnd u i) [
    | true ↦ λ h.
        let dirs_to : body_is is_directory t to ≡ true = ap (λ o. option_map_or (λ z. is_directory z.node.body) o false) to_takes.1 ∙ listed-is_directory to_takes.0.node.body (takes-is_listed to_takes.0.node.body to_takes.2) in
        Above (ap (option_map (λ s. s.inode)) (standing_i h)) (rises_clear to (sound.rises to dirs_to) (aside h))
    | false ↦ λ h. AtRemoved (ap (option_map (λ s. s.inode)) (standing_none h))
  ] refl

  rises_still : (q : ℕ) → RisesToEnd t q → RisesToEnd u q
  rises_still q AtRoot = AtRoot
  rises_still q (AtRemoved h) = elim (cases_eq q i) [
    | inl s ↦ let P : ℕ → Type 0 = λ k. RisesToEnd u k in subst P (sym s) rises_i
    | inr n ↦ AtRemoved (ap (option_map (λ s. s.inode)) (standing_other q n) ∙ h)
  ]
  rises_still q (Above {up = up} h r) = elim (cases_eq q i) [
    | inl s ↦ let P : ℕ → Type 0 = λ k. RisesToEnd u k in subst P (sym s) rises_i
    | inr n ↦ Above (ap (option_map (λ s. s.inode)) (standing_other q n) ∙ h) (rises_still up r)
  ]

  -- ---- what the new tree keeps

  free_left : entry_named new (entries_of w.node.body) ≡ None
  free_left = ap (entry_named new) (sym listing_to) ∙ elim (cases_eq to dir) [
    | inl s ↦ ap (entry_named new) (ap (listing m1) s ∙ listing_dir) ∙ none-without new name (entries t dir) (ap (λ k. entry_named new (entries t k)) (sym s) ∙ none_of (entry_named new (entries t to)) free)
    | inr d ↦ ap (entry_named new) (listing_away to d) ∙ none_of (entry_named new (entries t to)) free
  ]

  listed_at : (q : ℕ) (z : Inode) → inode u q ≡ Some z → IsListed (entries_beside z)
  listed_at =
      let P : Inode → Type 0 = λ z. IsListed (entries_beside z) in
      each-changed P m2 i stand (each-changed P m1 to grow (each-changed P t.inodes dir shrink sound.listed shrunk_listed) grown_listed)
      (λ z at h. let R : List Entry → Type 0 = λ es. IsListed (record { list = es; next = z.next_serial }) in subst R (sym (entries-with_standing (next_standing t to) z.node.body)) h)
    where
      shrunk_listed : (z : Inode) → inode t dir ≡ Some z → IsListed (entries_beside z) → IsListed (entries_beside (shrink z))
      shrunk_listed z at h =
          let same : x ≡ z = ap (λ o. option_map_or (λ s. s) o x) (sym at_dir ∙ at) in
          let R : List Entry → Type 0 = λ es. IsListed (record { list = es; next = x.next_serial }) in
          let P : Inode → Type 0 = λ z. IsListed (entries_beside (shrink z)) in
          subst P same (subst R (sym shrunk_entries) (listed-without name (entries_beside x) x_kept))

      grown_listed : (z : Inode) → map.get m1 to ≡ Some z → IsListed (entries_beside z) → IsListed (entries_beside (grow z))
      grown_listed z at h =
          let same : z ≡ w = ap (λ o. option_map_or (λ s. s) o z) (sym at ∙ at_to) in
          let Q : Inode → Type 0 = λ z. IsListed (entries_beside z) in
          let R : List Entry → Type 0 = λ es. IsListed (record { list = es; next = w.next_serial + 1 }) in
          let P : Inode → Type 0 = λ z. IsListed (entries_beside (grow z)) in
          subst P (sym same) (subst R (sym grown_entries) (listed-new new i (entries_beside w) well free_left (subst Q same h)))

  file_still : (q : ℕ) (z : Inode) → inode u q ≡ Some z → (bytes : List ℕ) → z.node.body ≡ RegularFile bytes → length bytes ≤ file_limit
  file_still =
      let P : Inode → Type 0 = λ z. (bytes : List ℕ) → z.node.body ≡ RegularFile bytes → length bytes ≤ file_limit in
      each-changed P m2 i stand
      (each-changed P m1 to grow
      (each-changed P t.inodes dir shrink (λ q z at bytes h. sound.files_limited q bytes (ap (option_map (λ z. z.node.body)) at ∙ ap Some h))
      (λ z at h bytes is. h bytes (file-with_entries (without_name name) z.node.body bytes is)))
      (λ z at h bytes is. h bytes (file-with_entries (λ es. es ++ (record { name = new; serial = z.next_serial; inode = i }) ∷ []) z.node.body bytes is)))
      (λ z at h bytes is. h bytes (file-with_standing (next_standing t to) z.node.body bytes is))

  body_file : (o : Option Inode) (bytes : List ℕ) → option_map (λ z. z.node.body) o ≡ Some (RegularFile bytes) → (z : Inode) × (o ≡ Some z) × (z.node.body ≡ RegularFile bytes)
  body_file None bytes h = absurd cc
  body_file (Some z) bytes h = (z, refl, ap (λ o. option_map_or (λ s. s) o z.node.body) h)

  alone_in : (d : ℕ) (z : Entry) → IsIn z (entries u d) → body_is is_directory u z.inode ≡ true → standing u z.inode ≡ Some (record { inode = d; serial = z.serial })
  alone_in d z h is_dir =
      let was : body_is is_directory t z.inode ≡ true = sym (directories z.inode) ∙ is_dir in
      elim (before d z h) [
        | inl old ↦ standing_other z.inode (others d z old was) ∙ sound.alone d z (left d z old).0 was
        | inr last ↦
            let number : i ≡ z.inode = ap (λ e. e.inode) last.1 in
            ap (standing u) (sym number) ∙ standing_i (ap (body_is is_directory t) number ∙ was)
            ∙ ap (λ n. Some (record { inode = to; serial = n })) (sym serial_is ∙ ap (λ e. e.serial) last.1) ∙ ap (λ k. Some (record { inode = k; serial = z.serial })) (sym last.0)
      ]

  stands_in : (d : ℕ) (s : Standing) → d ≢ root → standing u d ≡ Some s → (nm : List ℕ) × IsIn (record { name = nm; serial = s.serial; inode = d }) (entries u s.inode)
  stands_in d s away h = elim (cases_eq d i) [
    | inl same ↦ elim dirs as (λ b. dirs ≡ b → (nm : List ℕ) × IsIn (record { name = nm; serial = s.serial; inode = d }) (entries u s.inode)) [
      | true ↦ λ is_dir.
          let at : record { inode = to; serial = w.next_serial } ≡ s = ap (λ o. option_map_or (λ s. s) o s) (ap (λ n. Some (record { inode = to; serial = n })) serial_is ∙ sym (standing_i is_dir) ∙ ap (standing u) (sym same) ∙ h) in
          let P : Standing → Type 0 = λ s. IsIn (record { name = new; serial = s.serial; inode = d }) (entries u s.inode) in
          let Q : ℕ → Type 0 = λ k. IsIn (record { name = new; serial = w.next_serial; inode = k }) (entries u to) in
          let R : List Entry → Type 0 = λ es. IsIn e' es in
          (new, subst P at (subst Q (sym same) (subst R (sym entries_to) (in-last e' (listing m1 to)))))
      | false ↦ λ no_dir. let no : None ≡ Some s = sym (standing_none no_dir) ∙ ap (standing u) (sym same) ∙ h in absurd cc
    ] refl
    | inr n ↦
        let was = sound.stands d s away (sym (standing_other d n) ∙ h) in
        let z : Entry = record { name = was.0; serial = s.serial; inode = d } in (
          was.0,
          after s.inode z (leave s.inode z was.1 (λ at. elim (bytes_eq name was.0) as (λ b. bytes_eq name was.0 ≡ b → b ≡ false) [
            | true ↦ λ m. absurd (n (ap (λ e. e.inode) (only s.inode z was.1 at m) ∙ e_is))
            | false ↦ λ _. refl
          ] refl)),
        )
  ]

  emptied_in : (q : ℕ) → standing u q ≡ None → entries u q ≡ []
  emptied_in q h = elim (cases_eq q to) [
    | inl s ↦
        let stood = takes-stands to_takes.0.node.body to_takes.2 in
        let no : Some stood.0 ≡ None = sym (standing_other to to_apart ∙ ap (option_and_then (λ z. standing_of z.node.body)) to_takes.1 ∙ stood.1) ∙ ap (standing u) (sym s) ∙ h in
        absurd cc
    | inr n ↦ entries_rest q n ∙ elim (cases_eq q dir) [
      | inl d ↦ ap (listing m1) d ∙ listing_dir ∙ ap (without_name name) (ap (entries t) (sym d) ∙ sound.emptied q (was q h))
      | inr d ↦ listing_away q d ∙ sound.emptied q (was q h)
    ]
  ]
    where
      was : (q : ℕ) → standing u q ≡ None → standing t q ≡ None
      was q h = elim (cases_eq q i) [
        | inl s ↦ elim dirs as (λ b. dirs ≡ b → standing t q ≡ None) [
          | true ↦ λ is_dir. let no : next_standing t to ≡ None = sym (standing_i is_dir) ∙ ap (standing u) (sym s) ∙ h in absurd cc
          | false ↦ λ no_dir. ap (standing t) s ∙ ap (option_and_then (λ z. standing_of z.node.body)) at_i ∙ stands-nowhere y.node.body (y_directory ∙ no_dir)
        ] refl
        | inr n ↦ sym (standing_other q n) ∙ h
      ]

  pub sound-moved : IsSound u
  sound-moved = record {
    rooted = elim (cases_eq root i) [
      | inl s ↦ elim dirs as (λ b. dirs ≡ b → standing u root ≡ Some (record { inode = root; serial = 0 })) [
        | true ↦ λ is_dir. absurd (root_apart is_dir s)
        | false ↦ λ no_dir.
            let no : None ≡ Some (record { inode = root; serial = 0 }) = sym (ap (option_and_then (λ z. standing_of z.node.body)) at_i ∙ stands-nowhere y.node.body (y_directory ∙ no_dir)) ∙ ap (standing t) (sym s) ∙ sound.rooted in
            absurd cc
      ] refl
      | inr n ↦ standing_other root n ∙ sound.rooted
    ];
    root_listed = stays (λ o. option_map_or (λ z. is_listed z.node.body) o false)
        (λ z. is_listed-with_entries (without_name name) z.node.body)
        (λ z. is_listed-with_entries (λ es. es ++ (record { name = new; serial = z.next_serial; inode = i }) ∷ []) z.node.body)
        (λ z. is_listed-with_standing (next_standing t to) z.node.body) root ∙ sound.root_listed;
    numbered = λ q z h.
        let two = there-changed m2 i stand q z h in
        let one = there-changed m1 to grow q two.0 two.1 in
        let none = there-changed t.inodes dir shrink q one.0 one.1 in
        sound.numbered q none.0 none.1;
    listed = listed_at;
    emptied = emptied_in;
    alone = alone_in;
    stands = stands_in;
    rises = λ d h. rises_still d (sound.rises d (sym (directories d) ∙ h));
    inodes_limited = let l = sound.inodes_limited in let one = len-changed m2 i stand in let two = len-changed m1 to grow in let three = len-changed t.inodes dir shrink in omega arith;
    names_limited = sound.names_limited;
    bytes_limited = sound.bytes_limited;
    files_limited = λ q bytes h. let z = body_file (inode u q) bytes h in file_still q z.0 z.1 bytes z.2;
  }

  -- ---- counts

  total_moved : (f : Inode → ℕ) → f (stand y) ≡ f y → total f u + f x + f w ≡ total f t + f (shrink x) + f (grow w)
  total_moved f same =
      let to_there = (sound.numbered to to_takes.0 to_takes.1).1 in
      let one = sum-with f t.inodes dir t.next shrink x at_dir ((sound.numbered dir x at_dir).1) in
      let two = sum-with f m1 to t.next grow w at_to to_there in
      let three = sum-with f m2 i t.next stand y i_at ((sound.numbered i y at_i).1) in
      omega arith

  -- what is summed up over the entries of a directory
  less : (f : Entry → ℕ) → weighed f (entries_of (shrink x).node.body) + f e ≡ weighed f (entries_of x.node.body)
  less f =
      let same = ap (weighed f) shrunk_entries in
      let rest = weighed-without f name (entries_of x.node.body) e x_kept.distinct (ap (entry_named name) (sym entries_at) ∙ found) in
      omega arith

  names_moved : (q : ℕ) → names_of u q ≡ names_of t q
  names_moved q =
      let sums = total_moved (λ z. count_in q (entries_of z.node.body)) (ap (count_in q) (entries-with_standing (next_standing t to) y.node.body)) in
      let step = less (λ z. counted (nat_eq q z.inode)) in
      let one = weighed-count q (entries_of (shrink x).node.body) in
      let two = weighed-count q (entries_of x.node.body) in
      let here : counted (nat_eq q e.inode) ≡ counted (nat_eq q i) = ap (λ k. counted (nat_eq q k)) e_is in
      let more : count_in q (entries_of (grow w).node.body) ≡ count_in q (entries_of w.node.body) + counted (nat_eq q i) = ap (count_in q) grown_entries ∙ count-new q (entries_of w.node.body) e' in
      omega arith

  directories_still : (q : ℕ) (z : Inode) → inode u q ≡ Some z → z.directories ≡ directories_in t (entries_of z.node.body)
  directories_still =
      let P : Inode → Type 0 = λ z. z.directories ≡ directories_in t (entries_of z.node.body) in
      each-changed P m2 i stand
      (each-changed P m1 to grow
      (each-changed P t.inodes dir shrink (λ q z at. sym (ap (value (λ z. z.directories)) at) ∙ counts.directories q ∙ ap (λ o. directories_in t (option_map_or (λ z. entries_of z.node.body) o [])) at)
      fewer) more)
      (λ z at h. h ∙ ap (directories_in t) (sym (entries-with_standing (next_standing t to) z.node.body)))
    where
      fewer : (z : Inode) → inode t dir ≡ Some z → z.directories ≡ directories_in t (entries_of z.node.body) → (shrink z).directories ≡ directories_in t (entries_of (shrink z).node.body)
      fewer z at h =
          let same : x ≡ z = ap (λ o. option_map_or (λ s. s) o x) (sym at_dir ∙ at) in
          let P : Inode → Type 0 = λ z. z.directories ≡ directories_in t (entries_of z.node.body) in
          let Q : Inode → Type 0 = λ z. (shrink z).directories ≡ directories_in t (entries_of (shrink z).node.body) in
          let was : x.directories ≡ directories_in t (entries_of x.node.body) = subst P (sym same) h in
          let step = less (λ z. counted (body_is is_directory t z.inode)) in
          let one = weighed-directories t (entries_of (shrink x).node.body) in
          let two = weighed-directories t (entries_of x.node.body) in
          let mine : counted (body_is is_directory t e.inode) ≡ counted dirs = ap (λ k. counted (body_is is_directory t k)) e_is in
          let now : x.directories - counted dirs ≡ directories_in t (entries_of (shrink x).node.body) = omega arith in
          subst Q same now

      more : (z : Inode) → map.get m1 to ≡ Some z → z.directories ≡ directories_in t (entries_of z.node.body) → (grow z).directories ≡ directories_in t (entries_of (grow z).node.body)
      more z at h =
          let same : z ≡ w = ap (λ o. option_map_or (λ s. s) o z) (sym at ∙ at_to) in
          let P : Inode → Type 0 = λ z. z.directories ≡ directories_in t (entries_of z.node.body) in
          let Q : Inode → Type 0 = λ z. (grow z).directories ≡ directories_in t (entries_of (grow z).node.body) in
          let was : w.directories ≡ directories_in t (entries_of w.node.body) = subst P same h in
          let last : directories_in t (entries_of (grow w).node.body) ≡ directories_in t (entries_of w.node.body) + counted dirs = ap (directories_in t) grown_entries ∙ directories-new t (entries_of w.node.body) e' in
          let now : w.directories + counted dirs ≡ directories_in t (entries_of (grow w).node.body) = omega arith in
          subst Q (sym same) now

  pub counted-moved : IsCounted u
  counted-moved = record {
    names = λ q. stays (value (λ z. z.names)) (λ _. refl) (λ _. refl) (λ _. refl) q ∙ counts.names q ∙ sym (names_moved q);
    directories = λ q. elim (inode u q) as (λ o. inode u q ≡ o → value (λ z. z.directories) o ≡ directories_in u (option_map_or (λ z. entries_of z.node.body) o [])) [
      | None ↦ λ _. refl
      | Some z ↦ λ at. directories_still q z at ∙ sym (directories-same t u (entries_of z.node.body) (λ z _. directories z.inode))
    ] refl;
    all_names =
        let sums = total_moved (λ z. length (entries_of z.node.body)) (ap length (entries-with_standing (next_standing t to) y.node.body)) in
        let step = less (λ _. 1) in
        let one = weighed-length (entries_of (shrink x).node.body) in
        let two = weighed-length (entries_of x.node.body) in
        let more : length (entries_of (grow w).node.body) ≡ length (entries_of w.node.body) + 1 = ap length grown_entries ∙ length-append (entries_of w.node.body) (e' ∷ []) in
        let was = counts.all_names in
        omega arith;
    all_bytes =
        let sums = total_moved (λ z. length (bytes_of z.node.body)) (ap length (bytes-with_standing (next_standing t to) y.node.body)) in
        let one : length (bytes_of (shrink x).node.body) ≡ length (bytes_of x.node.body) = ap length (bytes-with_entries (without_name name) x.node.body) in
        let two : length (bytes_of (grow w).node.body) ≡ length (bytes_of w.node.body) = ap length (bytes-with_entries (λ es. es ++ e' ∷ []) w.node.body) in
        let was = counts.all_bytes in
        omega arith;
  }

  -- a directory that loses a directory has one
  pub enough : (z : Inode) → inode t dir ≡ Some z → counted dirs ≤ z.directories
  enough z at =
      let same : x ≡ z = ap (λ o. option_map_or (λ s. s) o x) (sym at_dir ∙ at) in
      let was : x.directories ≡ directories_in t (entries_of x.node.body) = sym (ap (value (λ z. z.directories)) at_dir) ∙ counts.directories dir ∙ ap (directories_in t) entries_at in
      let step = less (λ z. counted (body_is is_directory t z.inode)) in
      let two = weighed-directories t (entries_of x.node.body) in
      let mine : counted (body_is is_directory t e.inode) ≡ counted dirs = ap (λ k. counted (body_is is_directory t k)) e_is in
      let P : Inode → Type 0 = λ z. counted dirs ≤ z.directories in
      let here : counted dirs ≤ x.directories = omega arith in
      subst P same here

  -- the new entry may come first
  pub grown_first : with_inode dir shrink (with_inode to grow t.inodes) ≡ m2
  grown_first = elim (cases_eq dir to) [
    | inr d ↦ changed-swap t.inodes dir to shrink grow d
    | inl s ↦
        let P : ℕ → Type 0 = λ k. with_inode dir shrink (with_inode k grow t.inodes) ≡ with_inode k grow (with_inode dir shrink t.inodes) in
        subst P s (changed-twice t.inodes dir shrink grow ∙ changed-alike t.inodes dir (λ z. shrink (grow z)) (λ z. grow (shrink z)) (λ z at. swapped z (enough z at) (other s)) ∙ sym (changed-twice t.inodes dir grow shrink))
  ]
    where
      other : dir ≡ to → bytes_eq name new ≡ false
      other s = elim (bytes_eq name new) as (λ b. bytes_eq name new ≡ b → b ≡ false) [
        | true ↦ λ h.
            let same : name ≡ new = (bytes_eq-Decides name new).0 h in
            let no : None ≡ Some i = sym free ∙ ap (λ k. entry t k new) (sym s) ∙ ap (entry t dir) (sym same) ∙ is in
            absurd cc
        | false ↦ λ _. refl
      ] refl

      swapped : (z : Inode) → counted dirs ≤ z.directories → bytes_eq name new ≡ false → shrink (grow z) ≡ grow (shrink z)
      swapped z l n =
          let bodies = with_entries-swap (without_name name) (λ es. es ++ (record { name = new; serial = z.next_serial; inode = i }) ∷ []) z.node.body
          (λ es. without-new name es (record { name = new; serial = z.next_serial; inode = i }) n) in
          let numbers : z.directories + counted dirs - counted dirs ≡ z.directories - counted dirs + counted dirs = omega arith in
          λ j. record {
            node = record { mode = z.node.mode; uid = z.node.uid; gid = z.node.gid; body = bodies j };
            names = z.names;
            holds = z.holds;
            next_serial = z.next_serial + 1;
            directories = numbers j;
          }

  pub used-moved : HasNoUnused t → HasNoUnused u
  used-moved used =
      let P : Inode → Type 0 = λ z. is_unused z ≡ false in
      each-changed P m2 i stand (each-changed P m1 to grow (each-changed P t.inodes dir shrink used (λ z at h. h)) (λ z at h. h)) (λ z at h. h)

pub kept-moved : (t : Tree) → IsKept t → (dir : ℕ) (name : List ℕ) (to : ℕ) (new : List ℕ) (i : ℕ)
    → entry t dir name ≡ Some i → body_is takes_names t to ≡ true → is_name new ≡ true → entry t to new ≡ None → (body_is is_directory t i ≡ true → ¬ IsBelow t i to) → AreBytes new
    → IsKept (moved dir name to new i t)
kept-moved t h dir name to new i is takes well free aside bytes = record {
  sound = sound-moved t h.sound h.counted dir name to new i is takes well free aside;
  counted = counted-moved t h.sound h.counted dir name to new i is takes well free aside;
  used = used-moved t h.sound h.counted dir name to new i is takes well free aside h.used;
  bytes = of_bytes-moved t h.bytes dir name to new i bytes;
}

-- the inodes as the code leaves them: the new entry first, then the old one away, then a directory at
-- its new place
pub kept-move : (t : Tree) (h : IsKept t) (dir : ℕ) (name : List ℕ) (to : ℕ) (new : List ℕ) (i : ℕ)
    → entry t dir name ≡ Some i → body_is takes_names t to ≡ true → is_name new ≡ true → entry t to new ≡ None → (body_is is_directory t i ≡ true → ¬ IsBelow t i to) → AreBytes new
    → (m : Inodes) → m ≡ with_inode i (with_body (with_standing (next_standing t to))) (with_inode dir (without_entry name (body_is is_directory t i)) (with_inode to (with_entry new i (body_is is_directory t i)) t.inodes))
    → IsKept (record { inodes = m; next = t.next; names = t.names; bytes = t.bytes }) × (m ≡ (moved dir name to new i t).inodes)
kept-move t h dir name to new i is takes well free aside bytes m m_is =
    let same : m ≡ (moved dir name to new i t).inodes = m_is ∙ ap (with_inode i (with_body (with_standing (next_standing t to)))) (grown_first t h.sound h.counted dir name to new i is takes well free aside) in
    let P : Inodes → Type 0 = λ m. IsKept (record { inodes = m; next = t.next; names = t.names; bytes = t.bytes }) in
    (subst P (sym same) (kept-moved t h dir name to new i is takes well free aside bytes), same)
